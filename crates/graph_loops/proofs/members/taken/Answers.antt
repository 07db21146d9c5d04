use Rattle.std.proofs.Common.{◌+◌, ℕ, List, sym, ap, ◌∙◌, subst}
use Rattle.std.proofs.lemmas.Bool.{false≢true}
use Rattle.graph_loops.specs.Loops.{AreTaken}
use Rattle.graph_loops.proofs.MemberLemmas.{taken_with, taken_without}
use Rattle.graph_loops.proofs.members.taken.Goals as goal
use Rattle.graph_loops.proofs.members.taken.Goals.{then-is_taken+in_ok-push, else-is_taken}

pub loop-v-preserved : goal.loop-v-preserved
loop-v-preserved c =
    let P : List ℕ → Type 0 = λ taken. AreTaken c.args.head c.args.marks.now c.args.body.now (c.loop-v.v + 1) taken in
    elim c.if-is_taken.branch [
      | then-is_taken+in_ok-push w ↦
          subst P (sym (ap (λ v. v.items) w.taken-is ∙ w.in_ok-push.ensures.items))
          (taken_with c.args.head c.args.marks.now c.args.body.now c.loop-v.v c.loop-v.taken.items c.loop-v.invariant (c.is_taken.ensures.0 w.if-is_taken.true))
      | else-is_taken w ↦
          subst P (sym (ap (λ v. v.items) w.taken-is))
          (taken_without c.args.head c.args.marks.now c.args.body.now c.loop-v.v c.loop-v.taken.items c.loop-v.invariant (λ t. false≢true (sym w.if-is_taken.false ∙ c.is_taken.ensures.1 t)))
    ]
