use Rattle.std.proofs.Common.{◌≡◌, [], replicate}
use Rattle.cache_kept.specs.Ways.{lists_of}
use Rattle.cache_kept.proofs.ways.empty_lists.Given as goal

abbrev pub invariant-loop : goal.invariant-loop
invariant-loop l = lists_of l.lists.items ≡ replicate l.counter []
