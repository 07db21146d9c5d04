use Rattle.std.proofs.Common.{◌∙◌, arith}
use Rattle.std.proofs.lemmas.List.{length-set}
use Rattle.pipe_block.proofs.Plans.{keeps_twice}
use Rattle.pipe_block.proofs.Rebuilding.{columns_more, columns_all}
use Rattle.pipe_block.proofs.columns.slot_columns.Goals as goal

pub loop-k-preserved : goal.loop-k-preserved
loop-k-preserved c = record {
  long = length-set c.loop-k.slots c.loop-k.k c.in_ok-d.d ∙ c.loop-k.invariant.long;
  done = columns_more c.args.plan.now c.loop-k.table c.column.new.table c.args.rows.now c.args.root.place c.loop-k.slots c.loop-k.k c.in_ok-d.d c.column.ensures.kept
      (omega (arith, c.loop-k.invariant.long)) (rw (c.as_slice.ensures.value, c.in_ok-times.ensures) at c.in_ok-d.ensures.column) c.loop-k.invariant.done;
  kept = keeps_twice c.args.table.now c.loop-k.table c.column.new.table c.loop-k.invariant.kept c.column.ensures.kept;
}

pub returns-clause-columns : goal.returns-clause-columns
returns-clause-columns c = columns_all c.args.plan.now c.loop-k.table c.args.rows.now c.args.root.place c.loop-k.slots c.loop-k.k c.loop-k.invariant.long (omega arith) c.loop-k.invariant.done

pub returns-in_err-d-clause-kept : goal.returns-in_err-d-clause-kept
returns-in_err-d-clause-kept c = keeps_twice c.args.table.now c.loop-k.table c.column.new.table c.loop-k.invariant.kept c.column.ensures.kept
