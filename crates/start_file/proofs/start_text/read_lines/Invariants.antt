use Rattle.std.proofs.Common.{map}
use Rattle.start_file.proofs.StartFronts.{LinesSoFar}
use Rattle.start_file.proofs.start_text.read_lines.Given as goal

abbrev pub invariant-loop-index : goal.invariant-loop-index
invariant-loop-index l = LinesSoFar l.image l.shape (map (λ line. line.now) l.lines) l.index l.items.items
