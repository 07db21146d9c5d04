use Rattle.std.proofs.Common.{◌+◌, ℕ, List, subst, sym, ap, ◌∙◌, arith}
use Rattle.flow_block.proofs.Queued.{MarkedTo, passed_over, taken, all_taken}
use Rattle.flow_block.proofs.starts.marked_addresses.Goals as goal
use Rattle.flow_block.proofs.starts.marked_addresses.Goals.{then-marks-place+in_ok-push, else-marks-place}

pub loop-place-preserved : goal.loop-place-preserved
loop-place-preserved c =
    elim c.if-marks-place.branch [
      | then-marks-place+in_ok-push w ↦
          subst (λ (x : List ℕ). MarkedTo c.args.code.now.addresses.now c.args.marks.now x (c.loop-place.place + 1)) (sym (ap (λ v. v.items) w.list-is ∙ w.in_ok-push.ensures.items)) (taken _ _ _ _ c.requires.ascending c.loop-place-test.true c.loop-place.invariant w.if-marks-place.true)
      | else-marks-place w ↦
          subst (λ (x : List ℕ). MarkedTo c.args.code.now.addresses.now c.args.marks.now x (c.loop-place.place + 1)) (sym (ap (λ v. v.items) w.list-is)) (passed_over _ _ _ _ c.loop-place.invariant w.if-marks-place.false)
    ]

pub returns : goal.returns
returns c = all_taken _ _ _ _ c.loop-place.invariant (omega arith)
