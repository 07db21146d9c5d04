use Rattle.std.proofs.Common.{◌≡◌, [], replicate}
use Rattle.state_families.specs.Incoming.{lists_of}
use Rattle.state_families.proofs.incoming.empty_lists.Given as goal

abbrev pub invariant-loop : goal.invariant-loop
invariant-loop l = lists_of l.lists.items ≡ replicate l.counter []
