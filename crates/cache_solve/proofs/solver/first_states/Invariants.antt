use Rattle.cache_solve.specs.Systems.{AreFirst}
use Rattle.cache_solve.proofs.Solving.{FirstSoFar}
use Rattle.cache_solve.proofs.solver.first_states.Given as goal

abbrev pub invariant-loop-node : goal.invariant-loop-node
invariant-loop-node g l =
    let s = g.S.State in
    FirstSoFar (AreFirst s.known s.shape_of s.lines_of s.IsWithin s.Covers s.start s.IsFair l.shape l.flow.lines l.first) l.node l.states.items
