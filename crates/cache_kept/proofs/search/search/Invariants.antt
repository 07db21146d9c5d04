use Rattle.std.proofs.Common.{◌≡◌, length}
use Rattle.cache_kept.specs.Search.{IsSearched}
use Rattle.cache_kept.specs.Walk.{AreMarked}
use Rattle.cache_kept.proofs.search.search.Given as goal

abbrev pub invariant-loop-i : goal.invariant-loop-i
invariant-loop-i l = record {
  long : length l.trail.marks.items ≡ length l.look.flow.now.nodes;
  marked : AreMarked l.trail.marks.items l.trail.queue.items;
  searched : IsSearched l.look l.node l.place l.i l.trail.found.items l.trail.queue.items;
}
