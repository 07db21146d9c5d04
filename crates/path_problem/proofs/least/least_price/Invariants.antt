use Rattle.std.proofs.Common.{◌+◌, ◌-◌, ◌≤◌}
use Rattle.path_graph.specs.declared.graph.TheConstants.{LARGEST}
use Rattle.path_problem.specs.Least.{GainsBelow}
use Rattle.path_problem.proofs.least.least_price.Given as goal

abbrev pub invariant-prices : goal.invariant-prices
invariant-prices l = (l.price ≤ LARGEST) × GainsBelow l.links l.price

abbrev pub decreases-prices : goal.decreases-prices
decreases-prices l = (LARGEST + 1) - l.price
