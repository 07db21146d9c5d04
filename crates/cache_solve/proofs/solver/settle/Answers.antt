use Rattle.cache_solve.proofs.Solving.{raised_twice}
use Rattle.cache_solve.proofs.solver.settle.Goals as goal

pub sweeps-preserved : goal.sweeps-preserved
sweeps-preserved g c =
    let s = g.S.State in
    let t = c.order.ensures in
    let f = c.args.flow.now in
    record {
      alike = c.in_ok-sweep.ensures.alike;
      raised = raised_twice (s.Covers f.lines) (s.accessed c.args.shape) s.known f (t.same f.lines) (t.joins f.lines) c.args.moves.now c.args.moves.now c.hurry.new.states c.sweeps.states c.sweep.new.states
          (λ m k. k) c.sweeps.invariant.raised c.in_ok-sweep.ensures.raised;
    }

pub returns-clause-raised : goal.returns-clause-raised
returns-clause-raised g c =
    let s = g.S.State in
    let t = c.order.ensures in
    let f = c.args.flow.now in
    let swept = raised_twice (s.Covers f.lines) (s.accessed c.args.shape) s.known f (t.same f.lines) (t.joins f.lines) c.args.moves.now c.args.moves.now c.hurry.new.states c.sweeps.states c.sweep.new.states
    (λ m k. k) c.sweeps.invariant.raised c.in_ok-sweep.ensures.raised in
    raised_twice (s.Covers f.lines) (s.accessed c.args.shape) s.known f (t.same f.lines) (t.joins f.lines) c.args.moves.now c.args.moves.now c.args.states.now c.hurry.new.states c.sweep.new.states
    (λ m k. k) c.in_ok-hurry.ensures.raised swept
