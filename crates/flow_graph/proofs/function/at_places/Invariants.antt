use Rattle.std.proofs.Common.{◌≡◌, map, take, get_or}
use Rattle.flow_graph.proofs.function.at_places.Given as goal

abbrev pub invariant-loop-at : goal.invariant-loop-at
invariant-loop-at l = l.list.items ≡ map (λ j. get_or l.addresses j 0) (take l.at-index l.places)
