use Rattle.std.proofs.Common.{ℕ, List, get_or, false, sym, ap, ◌∙◌, subst, take, ◌+◌, arith}
use Rattle.std.proofs.lemmas.List.Elements.{Contains-get_or}
use Rattle.graph_loops.specs.Ways.{AreChosen}
use Rattle.graph_loops.proofs.WayLemmas.{chosen_with, chosen_without, same_mark, other_mark}
use Rattle.graph_loops.proofs.ways.chosen.Goals as goal
use Rattle.graph_loops.proofs.ways.chosen.Goals.{then-marks-v+in_ok-push, else-marks-v}

pub bounds-marks-v : goal.bounds-marks-v
bounds-marks-v c = c.requires.within _ (Contains-get_or c.args.vertices.now c.loop-v.v-index 0 (omega arith))

pub loop-v-preserved : goal.loop-v-preserved
loop-v-preserved c =
    let vertices = c.args.vertices.now in
    let i = c.loop-v.v-index in
    let mark = get_or c.args.marks.now (get_or vertices i 0) false in
    let P : List ℕ → Type 0 = λ chosen. AreChosen (take (i + 1) vertices) c.args.marks.now c.args.mark chosen in
    elim c.if-marks-v.branch [
      | then-marks-v+in_ok-push w ↦
          subst P (sym (ap (λ v. v.items) w.chosen-is ∙ w.in_ok-push.ensures.items))
          (chosen_with c.args.marks.now c.args.mark vertices c.loop-v.chosen.items i (omega arith) (same_mark mark c.args.mark w.if-marks-v.true) c.loop-v.invariant)
      | else-marks-v w ↦
          subst P (sym (ap (λ v. v.items) w.chosen-is))
          (chosen_without c.args.marks.now c.args.mark vertices c.loop-v.chosen.items i (omega arith) (other_mark mark c.args.mark w.if-marks-v.false) c.loop-v.invariant)
    ]
