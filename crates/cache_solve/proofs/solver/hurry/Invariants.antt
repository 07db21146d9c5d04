use Rattle.std.proofs.Common.{◌≡◌, length}
use Rattle.std.specs.List.{sum_by}
use Rattle.cache_solve.specs.Systems.{IsOf}
use Rattle.cache_solve.proofs.Solving.{RisenSoFar}
use Rattle.cache_solve.proofs.solver.hurry.Given as goal

abbrev pub invariant-passes : goal.invariant-passes
invariant-passes g l =
    let s = g.S.State in
    RisenSoFar (s.Covers l.flow.lines) (s.accessed l.shape) s.known (IsOf s.known s.shape_of s.lines_of s.IsWithin l.shape l.flow.lines) l.flow l.moves l.initial.states l.states
    × (length l.marks.changed.items ≡ length l.flow.nodes)

abbrev pub decreases-passes : goal.decreases-passes
decreases-passes g l = sum_by g.S.State.left l.states
