use Rattle.std.proofs.Common.{length}
use Rattle.state_families.specs.Incoming.{AreIncoming, lists_of}
use Rattle.state_families.proofs.incoming.note_edges.Given as goal

abbrev pub invariant-loop-number : goal.invariant-loop-number
invariant-loop-number l = AreIncoming l.edges (length l.initial.lists) l.number (lists_of l.lists)
