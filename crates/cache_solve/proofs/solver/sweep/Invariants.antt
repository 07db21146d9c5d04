use Rattle.cache_solve.specs.Systems.{IsOf}
use Rattle.cache_solve.proofs.Solving.{SweptSoFar}
use Rattle.cache_solve.proofs.solver.sweep.Given as goal

abbrev pub invariant-loop-step : goal.invariant-loop-step
invariant-loop-step g l =
    let s = g.S.State in
    SweptSoFar (s.Covers l.flow.lines) (s.accessed l.shape) s.known s.left (IsOf s.known s.shape_of s.lines_of s.IsWithin l.shape l.flow.lines) l.flow l.moves l.step-index l.changed
    l.initial.states l.states
