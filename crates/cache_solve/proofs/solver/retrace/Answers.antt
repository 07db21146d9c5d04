use Rattle.std.specs.Prelude.{[], ◌∷◌}
use Rattle.cache_solve.proofs.Solving.{raised_none}
use Rattle.cache_solve.proofs.solver.retrace.Goals as goal
