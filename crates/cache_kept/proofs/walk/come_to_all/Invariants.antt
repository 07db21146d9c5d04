use Rattle.std.proofs.Common.{◌≡◌, length, take}
use Rattle.cache_kept.specs.Walk.{AreMarked, CameTo}
use Rattle.cache_kept.proofs.walk.come_to_all.Given as goal

abbrev pub invariant-loop-node : goal.invariant-loop-node
invariant-loop-node l = record {
  count : length l.marks.items ≡ length l.initial.marks.items;
  marked : AreMarked l.marks.items l.queue.items;
  came : CameTo l.initial.queue.items l.queue.items l.inside (take l.node-index l.nodes);
}
