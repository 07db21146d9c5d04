use Rattle.cache_solve.proofs.Solving.{raised_twice}
use Rattle.cache_solve.proofs.solver.hurry.Goals as goal

pub passes-preserved : goal.passes-preserved
passes-preserved g c =
    let s = g.S.State in
    let t = c.order.ensures in
    let f = c.args.flow.now in (
      record {
        alike = c.in_ok-catch_up.ensures.alike;
        raised = raised_twice (s.Covers f.lines) (s.accessed c.args.shape) s.known f (t.same f.lines) (t.joins f.lines) c.args.moves.now c.args.moves.now c.args.states.now c.passes.states c.catch_up.new.states
            (λ m k. k) c.passes.invariant.0.raised c.in_ok-catch_up.ensures.raised;
      },
      c.in_ok-catch_up.ensures.marks,
    )

pub returns-clause-raised : goal.returns-clause-raised
returns-clause-raised g c =
    let s = g.S.State in
    let t = c.order.ensures in
    let f = c.args.flow.now in
    raised_twice (s.Covers f.lines) (s.accessed c.args.shape) s.known f (t.same f.lines) (t.joins f.lines) c.args.moves.now c.args.moves.now c.args.states.now c.passes.states c.catch_up.new.states
    (λ m k. k) c.passes.invariant.0.raised c.in_ok-catch_up.ensures.raised
