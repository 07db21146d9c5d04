use Rattle.pipe_block.proofs.Arrivals.{row_eq, row_eq_refl, one_place}
use Rattle.pipe_block.proofs.Leavings.{leaving_of_rows}
use Rattle.pipe_block.proofs.Plans.{keeps_twice}
use Rattle.pipe_block.proofs.leaving.leaving_from.Goals as goal

pub returns-clause-leaving : goal.returns-clause-leaving
unfolding row_eq
returns-clause-leaving c from b few w =
    let walked = c.args.walked.now in
    rw (c.new.ensures, c.in_ok-list.ensures, c.as_slice-found.ensures.keys)
    (leaving_of_rows walked.plan walked.rows.keys c.args.m.now from b walked.root.place few w c.args.taken c.column.new.table c.column-2.new.table
    c.places_in.new.set.keys c.in_ok-places.places.items c.in_ok-cost.cost c.in_ok-place.place
    (one_place row_eq row_eq_refl c.places_in.new.set.keys c.as_slice-found.ensures.unique)
    (rw (c.as_slice-all.ensures.value, c.in_ok-exits.ensures, c.as_slice-rows.ensures.keys) at c.in_ok-places.ensures)
    (rw (c.as_slice-times.ensures.value, c.in_ok-costs.ensures, c.as_slice-all.ensures.value, c.in_ok-exits.ensures, c.as_slice-rows.ensures.keys) at c.in_ok-cost.ensures.column)
    c.column-2.ensures.kept
    (rw c.as_slice-numbered.ensures.value at c.in_ok-place.ensures.column))

pub returns-clause-kept : goal.returns-clause-kept
returns-clause-kept c = keeps_twice c.args.table.now c.column.new.table c.column-2.new.table c.column.ensures.kept c.column-2.ensures.kept

pub returns-in_err-place-clause-kept : goal.returns-in_err-place-clause-kept
returns-in_err-place-clause-kept c = keeps_twice c.args.table.now c.column.new.table c.column-2.new.table c.column.ensures.kept c.column-2.ensures.kept

pub returns-in_err-list-clause-kept : goal.returns-in_err-list-clause-kept
returns-in_err-list-clause-kept c = keeps_twice c.args.table.now c.column.new.table c.column-2.new.table c.column.ensures.kept c.column-2.ensures.kept
