use Rattle.std.proofs.Common.{false}
use Rattle.pipe_block.specs.Rows.{AddsGiven}
use Rattle.pipe_block.specs.Walks.{LeadsOn, row_of_state}
use Rattle.pipe_block.proofs.Walking.{walk_is}
use Rattle.pipe_block.proofs.timing.walk_block.Goals as goal

pub returns : goal.returns
returns c =
    let b = c.args.b.now in
    let from = c.args.from.now.slots in
    walk_is c.walk.new.plan c.walk.new.rows.keys c.args.m.now from b c.in_ok-root.root.place
    (rw (c.as_slice.ensures, c.as_slice-2.ensures) at c.in_ok-root.ensures.leads)
    (rw (c.as_slice.ensures, c.as_slice-2.ensures, c.new-rows.ensures.empty) at c.walk.ensures.given)
