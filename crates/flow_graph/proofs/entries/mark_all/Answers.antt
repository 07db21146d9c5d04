use Rattle.std.proofs.Common.{◌<◌, ℕ, length, get_or, sym, subst, arith}
use Rattle.std.proofs.lemmas.List.Elements.{Contains-get_or}
use Rattle.flow_graph.proofs.EntryLemmas.{marked_next}
use Rattle.flow_graph.proofs.entries.mark_all.Goals as goal

pub bounds-marks-number : goal.bounds-marks-number
bounds-marks-number c =
    let v = get_or c.args.numbers.now c.loop-number.number-index 0 in
    let within : v < length c.args.marks.now = c.requires.within v (Contains-get_or c.args.numbers.now c.loop-number.number-index 0 (omega arith)) in
    subst (λ (n : ℕ). v < n) (sym c.loop-number.invariant.long) within

pub loop-number-preserved : goal.loop-number-preserved
loop-number-preserved c =
    let v = get_or c.args.numbers.now c.loop-number.number-index 0 in
    let within : v < length c.args.marks.now = c.requires.within v (Contains-get_or c.args.numbers.now c.loop-number.number-index 0 (omega arith)) in
    marked_next c.args.marks.now c.loop-number.marks c.args.numbers.now c.loop-number.number-index (omega arith) (subst (λ (n : ℕ). v < n) (sym c.loop-number.invariant.long) within) c.loop-number.invariant
