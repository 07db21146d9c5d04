use Rattle.std.proofs.Common.{◌≡◌, length}
use Rattle.graph_loops.specs.Graph.{AreVertices}
use Rattle.graph_loops.proofs.order.release.Given as goal

abbrev pub invariant-loop-u : goal.invariant-loop-u
invariant-loop-u l = record {
  count : length l.waiting.items ≡ length l.initial.waiting.items;
  queue : AreVertices (length l.initial.waiting.items) l.queue.items;
}
