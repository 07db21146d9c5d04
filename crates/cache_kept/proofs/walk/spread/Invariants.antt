use Rattle.std.proofs.Common.{◌≡◌, length}
use Rattle.cache_kept.specs.Walk.{AreMarked}
use Rattle.cache_kept.proofs.WalkLemmas.{Walked}
use Rattle.cache_kept.proofs.walk.spread.Given as goal

abbrev pub invariant-loop-i : goal.invariant-loop-i
invariant-loop-i l = record {
  count : length l.marks.items ≡ length l.lists;
  marked : AreMarked l.marks.items l.queue.items;
  walked : Walked l.lists l.inside l.roots l.i l.queue.items;
}
