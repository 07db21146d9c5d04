use Rattle.std.proofs.Common.{ℕ, ◌<◌}
use Rattle.path_problem.specs.Potential.{CoversVertex}
use Rattle.path_problem.proofs.inequalities.bad_vertex.Given as goal

abbrev pub invariant-loop-vertex : goal.invariant-loop-vertex
invariant-loop-vertex l = (v : ℕ) → v < l.vertex → CoversVertex l.graph l.potentials v
