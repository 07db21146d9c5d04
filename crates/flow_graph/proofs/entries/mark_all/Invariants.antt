use Rattle.std.proofs.Common.{take}
use Rattle.flow_graph.proofs.EntryLemmas.{AreMarkedBy}
use Rattle.flow_graph.proofs.entries.mark_all.Given as goal

abbrev pub invariant-loop-number : goal.invariant-loop-number
invariant-loop-number l = AreMarkedBy l.initial.marks l.marks (take l.number-index l.numbers)
