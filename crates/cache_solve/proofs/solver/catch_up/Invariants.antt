use Rattle.std.proofs.Common.{◌≡◌, length}
use Rattle.cache_solve.specs.Systems.{IsOf}
use Rattle.cache_solve.proofs.Solving.{FollowedSoFar}
use Rattle.cache_solve.proofs.solver.catch_up.Given as goal

abbrev pub invariant-loop-step : goal.invariant-loop-step
invariant-loop-step g l =
    let s = g.S.State in
    FollowedSoFar (s.Covers l.flow.lines) (s.accessed l.shape) s.known s.left (IsOf s.known s.shape_of s.lines_of s.IsWithin l.shape l.flow.lines) l.flow l.moves l.changed
    l.initial.states l.states
    × (length l.marks.changed.items ≡ length l.flow.nodes)
