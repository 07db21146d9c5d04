use Rattle.std.proofs.Common.{◌*◌}
use Rattle.path_problem.proofs.CheckLemmas.{CoveredSoFar}
use Rattle.path_problem.proofs.inequalities.bad_arc.Given as goal

abbrev pub invariant-loop-window : goal.invariant-loop-window
invariant-loop-window l = CoveredSoFar l.graph l.prices l.potentials (l.window * 8192)
