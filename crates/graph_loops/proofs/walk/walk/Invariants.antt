use Rattle.std.proofs.Common.{◌≡◌, length, option_to_list}
use Rattle.graph_loops.specs.Graph.{lists_of}
use Rattle.graph_loops.specs.Walk.{AreMarked}
use Rattle.graph_loops.proofs.WalkLemmas.{Walked}
use Rattle.graph_loops.proofs.walk.walk.Given as goal

abbrev pub invariant-loop-i : goal.invariant-loop-i
invariant-loop-i l = record {
  count : length l.marks.items ≡ length l.lists;
  marked : AreMarked l.marks.items l.queue.items;
  walked : Walked (lists_of l.lists) (option_to_list l.avoided) l.roots l.i l.queue.items;
}
