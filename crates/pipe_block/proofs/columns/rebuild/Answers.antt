use Rattle.std.proofs.Common.{◌+◌, ap, ◌∙◌}
use Rattle.std.proofs.lemmas.List.{length_push}
use Rattle.pipe_block.proofs.Plans.{keeps_twice}
use Rattle.pipe_block.proofs.Rebuilding.{all_kept, built_more}
use Rattle.pipe_block.proofs.columns.rebuild.Goals as goal

pub loop-place-preserved : goal.loop-place-preserved
loop-place-preserved c =
    let plan = c.args.plan.now in
    let times = c.args.times.now in
    let built = c.loop-place.built.items in
    rw c.in_ok-push.ensures.items (record {
      long = length_push built c.in_ok-d.d ∙ ap (λ n. n + 1) c.loop-place.invariant.long;
      built = built_more plan c.rebuilt.new.table times built c.in_ok-d.d
          (all_kept plan c.loop-place.table c.rebuilt.new.table times built c.rebuilt.ensures.kept c.loop-place.invariant.built)
          (rw c.loop-place.invariant.long c.in_ok-d.ensures.built);
      kept = keeps_twice c.args.table.now c.loop-place.table c.rebuilt.new.table c.loop-place.invariant.kept c.rebuilt.ensures.kept;
    })

pub returns-in_err-d-clause-kept : goal.returns-in_err-d-clause-kept
returns-in_err-d-clause-kept c = keeps_twice c.args.table.now c.loop-place.table c.rebuilt.new.table c.loop-place.invariant.kept c.rebuilt.ensures.kept

pub returns-in_err-push-clause-kept : goal.returns-in_err-push-clause-kept
returns-in_err-push-clause-kept c = keeps_twice c.args.table.now c.loop-place.table c.rebuilt.new.table c.loop-place.invariant.kept c.rebuilt.ensures.kept
