use Rattle.graph_loops.specs.Loops.{AreTaken}
use Rattle.graph_loops.proofs.members.taken.Given as goal

abbrev pub invariant-loop-v : goal.invariant-loop-v
invariant-loop-v l = AreTaken l.head l.marks l.body l.v l.taken.items
