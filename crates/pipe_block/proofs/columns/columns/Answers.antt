use Rattle.pipe_block.proofs.Plans.{keeps_twice}
use Rattle.pipe_block.proofs.Rebuilding.{columns_kept, gives_rows}
use Rattle.pipe_block.proofs.columns.columns.Goals as goal

pub returns-clause-rows : goal.returns-clause-rows
returns-clause-rows c =
    gives_rows c.args.plan.now c.column.new.table c.args.rows.now c.args.root.place c.in_ok-number.number c.in_ok-slots.slots
    (columns_kept c.args.plan.now c.slot_columns.new.table c.column.new.table c.args.rows.now c.args.root.place c.in_ok-slots.slots c.column.ensures.kept c.in_ok-slots.ensures.columns)
    (rw (c.as_slice.ensures.value, c.in_ok-times.ensures) at c.in_ok-number.ensures.column)

pub returns-clause-kept : goal.returns-clause-kept
returns-clause-kept c = keeps_twice c.args.table.now c.slot_columns.new.table c.column.new.table c.slot_columns.ensures.kept c.column.ensures.kept

pub returns-in_err-number-clause-kept : goal.returns-in_err-number-clause-kept
returns-in_err-number-clause-kept c = keeps_twice c.args.table.now c.slot_columns.new.table c.column.new.table c.slot_columns.ensures.kept c.column.ensures.kept
