use Rattle.pipe_block.specs.Leavings.{IsFinishOf}
use Rattle.pipe_block.proofs.Leavings.{finish_of_rows}
use Rattle.pipe_block.proofs.Walking.{if_ok}
use Rattle.pipe_block.proofs.leaving.finish_from.Goals as goal

pub returns-clause-finish : goal.returns-clause-finish
returns-clause-finish c m from b few w =
    let walked = c.args.walked.now in
    if_ok c.column.result _ (λ d. IsFinishOf c.column.new.table m from b d)
    (rw (c.as_slice-all.ensures.value, c.in_ok-times.ensures, c.as_slice-rows.ensures.keys) at c.column.ensures.column)
    (λ d x. finish_of_rows walked.plan walked.rows.keys m from b walked.root.place few w c.column.new.table d x)
