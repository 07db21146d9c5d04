use Rattle.cache_solve.proofs.Solving.{PassedSoFar}
use Rattle.cache_solve.proofs.solver.behind.Given as goal

abbrev pub invariant-loop-line : goal.invariant-loop-line
invariant-loop-line g l =
    let s = g.S.State in PassedSoFar s.known s.shape_of s.lines_of s.IsWithin s.Covers s.accessed l.accesses l.line-index l.state l.after
