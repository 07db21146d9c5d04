use Rattle.std.proofs.Common.{◌≡◌, List, set, ℕ, length, get_or, ap, subst, ◌∙◌, arith}
use Rattle.std.specs.Global.{Vec}
use Rattle.path_problem.specs.Part.{IsPlace}
use Rattle.path_problem.proofs.PartLemmas.{no_names, names_same, named_now, named_already, are_names, nothing_at, something_at}
use Rattle.path_problem.proofs.part.place_members.Goals.{then-is_none+in_ok-push, else-is_none}
use Rattle.path_problem.proofs.part.place_members.Goals as goal

pub loop-member-init : goal.loop-member-init
loop-member-init c = names_same c.new-names.ensures.items (λ _. c.args.places.now) (no_names c.args.members.now c.args.places.now)

pub loop-member-preserved : goal.loop-member-preserved
loop-member-preserved c =
    let v = get_or c.args.members.now c.loop-member.member-index 0 in
    let P : List ℕ → Type 0 = λ names. (n : ℕ) → IsPlace names c.loop-member.places v n → ⊥ in
    let Q : ℕ → Type 0 = λ n. IsPlace c.as_slice.result.now c.loop-member.places v n in
    elim c.if-is_none.branch [
      | then-is_none+in_ok-push w ↦
          names_same (ap (λ (n : Vec ℕ). n.items) w.names-is ∙ w.in_ok-push.ensures.items) (w.places-is ∙ ap (λ n. set c.loop-member.places v n) (let o = c.loop-member.names.ok.0 in let e : w.len.result ≡ length c.loop-member.names.items = omega arith in e))
          (named_now c.args.members.now c.loop-member.member-index _ c.loop-member.names.items c.loop-member.places c.loop-member.invariant c.loop-member-test.true
          (subst P c.as_slice.ensures.value (nothing_at (P c.as_slice.result.now) Q c.place_of.result c.is_none.result c.is_none.ensures w.if-is_none.true c.place_of.ensures)) (c.requires c.loop-member.member-index 0 c.loop-member-test.true))
      | else-is_none w ↦
          let some = something_at (P c.as_slice.result.now) Q c.place_of.result c.is_none.result c.is_none.ensures w.if-is_none.false c.place_of.ensures in
          names_same (ap (λ (n : Vec ℕ). n.items) w.names-is) w.places-is
          (named_already c.args.members.now c.loop-member.member-index _ c.loop-member.names.items c.loop-member.places some.0 c.loop-member.invariant
          (subst (λ (names : List ℕ). IsPlace names c.loop-member.places v some.0) c.as_slice.ensures.value some.1))
    ]

pub returns : goal.returns
returns c = are_names c.args.members.now c.loop-member.member-index _ c.loop-member.names.items c.loop-member.places c.loop-member.invariant (omega arith)
