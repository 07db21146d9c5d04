use Rattle.std.proofs.Common.{◌≡◌, length, take, option_to_list}
use Rattle.graph_loops.specs.Walk.{AreMarked, CameTo}
use Rattle.graph_loops.proofs.walk.come_to_all.Given as goal

abbrev pub invariant-loop-v : goal.invariant-loop-v
invariant-loop-v l = record {
  count : length l.marks.items ≡ length l.initial.marks.items;
  marked : AreMarked l.marks.items l.queue.items;
  came : CameTo l.initial.queue.items l.queue.items (option_to_list l.avoided) (take l.v-index l.vertices);
}
