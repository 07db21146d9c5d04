use Rattle.std.proofs.Common.{get_or, inl, inr}
use Rattle.std.proofs.lemmas.List.{get_or_default}
use Rattle.cache_flow.specs.declared.flow.Move.{Move}
use Rattle.cache_solve.specs.Systems.{IsOf}
use Rattle.cache_solve.proofs.Solving.{followed_more}
use Rattle.cache_solve.proofs.solver.catch_up.Goals as goal
use Rattle.cache_solve.proofs.solver.catch_up.Goals.{then-branch, else-branch}

pub loop-step-preserved : goal.loop-step-preserved
loop-step-preserved g c =
    let s = g.S.State in
    let t = c.order.ensures in
    let f = c.args.flow.now in
    let e = c.in_ok-retrace.ensures in
    let nowhere : Move = record { from = 0; to = 0 } in
    let step = get_or c.args.moves.now c.loop-step.step-index nowhere in (
      followed_more (s.Covers f.lines) (s.accessed c.args.shape) s.known s.left (IsOf s.known s.shape_of s.lines_of s.IsWithin c.args.shape f.lines) f c.args.moves.now (t.same f.lines) (t.joins f.lines)
          c.loop-step.step-index step c.loop-step.changed c.if-branch.changed c.in_ok-retrace.field-0 c.args.states.now c.loop-step.states c.retrace.new.states c.loop-step-test.true
          (get_or_default c.args.moves.now c.loop-step.step-index step nowhere c.loop-step-test.true)
          e.alike e.raised e.changed e.unchanged (elim c.if-branch.branch [
            | then-branch w ↦ inl (w.if-branch.true, w.changed-is)
            | else-branch w ↦ inr (w.if-branch.false, w.changed-is)
          ]) c.loop-step.invariant.0,
      e.marks,
    )
