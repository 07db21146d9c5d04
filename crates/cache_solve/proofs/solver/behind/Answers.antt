use Rattle.cache_solve.proofs.Solving.{passed_more}
use Rattle.cache_solve.proofs.solver.behind.Goals as goal

pub loop-line-preserved : goal.loop-line-preserved
loop-line-preserved g c =
    let s = g.S.State in
    let t = c.order.ensures in
    let e = c.pass.ensures in
    passed_more s.known s.shape_of s.lines_of s.IsWithin s.Covers s.accessed t.joins t.stays t.keeps c.args.accesses.now c.loop-line.line-index c.args.state.now c.loop-line.after c.pass.new.self
    c.requires.listed c.loop-line-test.true e.shape e.lines e.within e.covers e.covered c.loop-line.invariant
