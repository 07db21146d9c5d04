use Rattle.graph_loops.proofs.MemberLemmas.{LoopsBelow}
use Rattle.graph_loops.proofs.members.loops_of.Given as goal

abbrev pub invariant-loop-head : goal.invariant-loop-head
invariant-loop-head l = LoopsBelow l.graph l.ways.entry l.head l.loops.items
