use Rattle.std.proofs.Common.{◌≡◌, length}
use Rattle.graph_loops.specs.Graph.{AreVertices}
use Rattle.graph_loops.proofs.order.in_order.Given as goal

abbrev pub invariant-loop-i : goal.invariant-loop-i
invariant-loop-i l = record {
  waiting : length l.waiting.items ≡ length l.lists;
  numbers : length l.numbers.items ≡ length l.lists;
  queue : AreVertices (length l.lists) l.queue.items;
}
