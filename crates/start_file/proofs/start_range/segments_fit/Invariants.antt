use Rattle.start_file.proofs.StartBytes.{HoldBytes}
use Rattle.start_file.proofs.start_range.segments_fit.Given as goal

abbrev pub invariant-loop-segment : goal.invariant-loop-segment
invariant-loop-segment l = HoldBytes l.segments l.segment-index
