use Rattle.pipe_block.proofs.Arrivals.{row_eq, row_eq_refl, one_place}
use Rattle.pipe_block.proofs.Results.{outcomes_are}
use Rattle.pipe_block.proofs.outcome.outcomes.Goals as goal

pub returns-clause-outcomes : goal.returns-clause-outcomes
unfolding row_eq
returns-clause-outcomes c =
    rw (c.new.ensures, c.in_ok-list.ensures, c.as_slice-found.ensures.keys)
    (outcomes_are c.args.table.now c.column.new.table c.gather.new.plan c.gather.new.rows.keys c.in_ok-root.root.place c.in_ok-place.place c.args.e.now
    (one_place row_eq row_eq_refl c.gather.new.rows.keys c.as_slice-found.ensures.unique) c.in_ok-root.ensures.leads (rw c.new-rows.ensures.empty at c.gather.ensures.given)
    (rw (c.as_slice.ensures.value, c.in_ok-places.ensures, c.as_slice-found.ensures.keys) at c.in_ok-place.ensures.column))
