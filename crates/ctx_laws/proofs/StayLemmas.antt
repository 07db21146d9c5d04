-- Of each walk there is at most one stay in a loop, and it is at a member.
use Rattle.std.proofs.Common.{◌≡◌, ℕ, ◌+◌, List, slice_get, refl, sym, ap, subst, ◌∙◌, inl}
use Rattle.std.specs.Prelude.{Contains, Some}
use Rattle.flow_graph.specs.declared.program.Program.{Program}
use Rattle.flow_ctx.specs.declared.unfolded.Edge.{Edge}
use Rattle.flow_ctx.specs.declared.unfolded.ULoop.{ULoop}
use Rattle.flow_ctx.specs.declared.unfolded.Unfolded.{Unfolded}
use Rattle.flow_ctx.specs.Stays.{IsWalk, StaysInLoop}
use Rattle.flow_ctx.specs.Stays.IsWalk.{starts as walk_starts, goes}
use Rattle.flow_ctx.specs.Stays.StaysInLoop.{starts, enters, repeats, moves}
use Rattle.flow_ctx.specs.Unfolding.{IsLoop, IsUnfolding}
use Rattle.ctx_laws.specs.Laws.{IsOneStay, StaysAreAtMembers, StaysAreOne}
use Rattle.ctx_laws.proofs.Lists.{all_in, one_element}
use Rattle.ctx_laws.proofs.Members.{head_at, in_own, loop_here}

module _ (program : Program) (u : Unfolded) (l : ULoop) (loop : IsLoop program u.nodes u.edges l) where
  -- an edge that enters the loop is no back edge
  not_both : (number : ℕ) → Contains l.entries number → Contains l.back number → ⊥
  not_both number c d =
      let entry = (loop.entries number).0 c in
      let back = (loop.back number).0 d in
      entry.outside (subst (λ (x : Edge). Contains l.members x.from) (one_element u.edges number back.edge entry.edge back.stands entry.stands) back.inside)

  -- both lead to the head
  entry_into : (number : ℕ) (edge : Edge) → slice_get u.edges number ≡ Some edge → Contains l.entries number → edge.to ≡ l.head
  entry_into number edge e c =
      let entry = (loop.entries number).0 c in ap (λ (x : Edge). x.to) (one_element u.edges number edge entry.edge e entry.stands) ∙ entry.into

  back_into : (number : ℕ) (edge : Edge) → slice_get u.edges number ≡ Some edge → Contains l.back number → edge.to ≡ l.head
  back_into number edge e c =
      let back = (loop.back number).0 c in ap (λ (x : Edge). x.to) (one_element u.edges number edge back.edge e back.stands) ∙ back.into

  one_more : (since s : List ℕ) (count k : ℕ) → IsOneStay since s count k → IsOneStay since s (count + 1) (k + 1)
  one_more since s count k one = record { since_is = one.since_is; count_is = ap (λ n. n + 1) one.count_is }

  one_stay : (walk since s : List ℕ) (count k : ℕ) → StaysInLoop u l walk since count → StaysInLoop u l walk s k → IsOneStay since s count k
  one_stay walk since s count k (starts e) (starts f) = record { since_is = refl; count_is = refl }
  one_stay walk since s count k (enters number w c) (enters _ _ d) = record { since_is = refl; count_is = refl }
  one_stay walk since s count k (enters number w c) (repeats _ _ _ _ q d) = absurd (not_both number c d)
  one_stay walk since s count k (enters number w c) (moves _ edge _ _ _ q e other member) = absurd (other (entry_into number edge e c))
  one_stay walk since s count k (repeats number w _ _ p c) (enters _ _ d) = absurd (not_both number d c)
  one_stay walk since s count k (repeats number w a i p c) (repeats _ _ b j q d) = one_more a b i j (one_stay w a b i j p q)
  one_stay walk since s count k (repeats number w _ _ p c) (moves _ edge _ _ _ q e other member) = absurd (other (back_into number edge e c))
  one_stay walk since s count k (moves number edge w _ _ p e other member) (enters _ _ d) = absurd (other (entry_into number edge e d))
  one_stay walk since s count k (moves number edge w _ _ p e other member) (repeats _ _ _ _ q d) = absurd (other (back_into number edge e d))
  one_stay walk since s count k (moves number edge w a i p e other member) (moves _ _ _ b j q _ _ _) = one_stay w a b i j p q

  at_member : Contains l.members l.head → (walk since : List ℕ) (count node : ℕ) → IsWalk u walk node → StaysInLoop u l walk since count → Contains l.members node
  at_member head walk since count node walk_starts (starts e) = subst (λ x. Contains l.members x) (sym e) head
  at_member head walk since count node (goes number edge w e p) (enters _ _ c) = subst (λ x. Contains l.members x) (sym (entry_into number edge e c)) head
  at_member head walk since count node (goes number edge w e p) (repeats _ _ _ _ q c) = subst (λ x. Contains l.members x) (sym (back_into number edge e c)) head
  at_member head walk since count node (goes number edge w e p) (moves _ taken_edge _ _ _ q taken_stands other member) =
      subst (λ (x : Edge). Contains l.members x.to) (one_element u.edges number taken_edge edge taken_stands e) member

loop_of : (program : Program) (u : Unfolded) (l : ULoop) → IsUnfolding program u → Contains u.loops l → IsLoop program u.nodes u.edges l
loop_of program u l unfolds c = all_in (λ m. IsLoop program u.nodes u.edges m) u.loops l unfolds.loops.each c

pub stays_are_one : StaysAreOne
stays_are_one program u l walk since s count k unfolds c p q = one_stay program u l (loop_of program u l unfolds c) walk since s count k p q

pub stays_are_at_members : StaysAreAtMembers
stays_are_at_members image facts entry machine program u l walk since count node sound unfolds c is_walk stay =
    let loop = loop_of program u l unfolds c in
    let here = loop_here image facts entry machine program sound u unfolds l loop in
    let head : Contains l.members l.head =
    in_own image facts entry machine program sound u unfolds l loop l.head loop.node loop.head.function loop.head.block (head_at image facts entry machine program sound u unfolds l loop) refl
    (subst (λ a. Contains loop.info.members a) (sym loop.head.head) (here.whole loop.info.head (inl refl))) in
    at_member program u l loop head walk since count node is_walk stay
