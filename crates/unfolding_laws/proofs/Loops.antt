-- All loops of an unfolding, with the numbers of their nodes and edges.
use Rattle.std.proofs.Common.{◌≡◌, ℕ, ◌<◌, List, length, refl, subst}
use Rattle.std.specs.Prelude.{◌↔◌}
use Rattle.std.specs.List.{Contains}
use Rattle.std.proofs.lemmas.List.Elements.{All-contains}
use Rattle.std.proofs.lemmas.Option.{slice_get_within}
use Rattle.wx_base.specs.Facts.{AreAscending}
use Rattle.flow_graph.specs.declared.program.Program.{Program}
use Rattle.flow_ctx.specs.declared.unfolded.Edge.{Edge}
use Rattle.flow_ctx.specs.declared.unfolded.ULoop.{ULoop}
use Rattle.flow_ctx.specs.declared.unfolded.UNode.{UNode}
use Rattle.flow_ctx.specs.Unfolding.{AreLoops, IsBackEdge, IsEntryEdge, IsHeadNumber, IsLoop, IsMemberNumber}
use Rattle.program_laws.proofs.Collected.{collect}

-- the numbers below a limit of which something holds, ascending
pub numbers : (P : ℕ → Type 0) (limit : ℕ) → ((n : ℕ) → P n → n < limit) → ((list : List ℕ) → AreAscending list → ((n : ℕ) → Contains list n ↔ P n) → ⊥) → ⊥
numbers P limit within stop =
    collect (λ n. n) P P limit within (λ n p found. found n refl p)
    (λ list are.
    stop list are.ascending
    (λ n. ((λ c. All-contains P list n are.each c), (λ p. let a = are.whole n p in subst (λ (k : ℕ). Contains list k) a.4 (a.0, a.2, a.3)))))

module _ (program : Program) (nodes : List UNode) (edges : List Edge) where
  loop_at : (number : ℕ) → IsHeadNumber program nodes number → ((l : ULoop) → l.head ≡ number → IsLoop program nodes edges l → ⊥) → ⊥
  loop_at number h stop =
      numbers (IsMemberNumber program nodes h.node h.info) (length nodes) (λ n m. slice_get_within nodes n m.node m.stands)
      (λ members members_up members_are.
      numbers (IsBackEdge edges number members) (length edges) (λ n e. slice_get_within edges n e.edge e.stands)
      (λ back back_up back_are.
      numbers (IsEntryEdge edges number members) (length edges) (λ n e. slice_get_within edges n e.edge e.stands)
      (λ entries entries_up entries_are.
      stop
      (record { head = number; members = members; back = back; entries = entries; maxcount = h.info.maxcount; totalcount = h.info.totalcount })
      refl
      (record {
        node = h.node;
        info = h.info;
        stands = h.stands;
        head = h.head;
        members_ascend = members_up;
        members = members_are;
        back_ascends = back_up;
        back = back_are;
        entries_ascend = entries_up;
        entries = entries_are;
        maxcount = refl;
        totalcount = refl;
      }))))

  pub has_loops : ((loops : List ULoop) → AreLoops program nodes edges loops → ⊥) → ⊥
  has_loops stop =
      collect (λ l. l.head) (λ l. IsLoop program nodes edges l) (IsHeadNumber program nodes) (length nodes) (λ n h. slice_get_within nodes n h.node h.stands)
      loop_at
      (λ loops are. stop loops (record { ascending = are.ascending; each = are.each; whole = are.whole }))
