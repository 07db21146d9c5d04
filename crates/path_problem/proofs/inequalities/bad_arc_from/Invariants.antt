use Rattle.std.proofs.Common.{◌+◌}
use Rattle.path_problem.specs.Potential.{AreCovered}
use Rattle.path_problem.proofs.inequalities.bad_arc_from.Given as goal

abbrev pub invariant-loop-at : goal.invariant-loop-at
invariant-loop-at l = AreCovered l.graph l.prices l.potentials l.first (l.first + l.at)
