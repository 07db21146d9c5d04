use Rattle.std.proofs.Common.{◌≡◌, map, take}
use Rattle.std.specs.List.{zip}
use Rattle.path_problem.specs.Need.{loop_price}
use Rattle.path_problem.proofs.needs.loop_prices.Given as goal

abbrev pub invariant-loop-number : goal.invariant-loop-number
invariant-loop-number l = l.prices.items ≡ map (loop_price l.chosen) (take l.number (zip l.graph.loops l.needs))
