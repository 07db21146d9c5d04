use Rattle.std.proofs.Common.{◌≡◌, length, rules}
use Rattle.wx_base.specs.Vector.{slot_count}
use Rattle.pipe_block.proofs.Results.{exit_rows_are}
use Rattle.pipe_block.proofs.exits.exit.Goals as goal

pub returns-clause-exits : goal.returns-clause-exits
returns-clause-exits c =
    let long : length c.args.v.now.slots ≡ slot_count = search rules in
    exit_rows_are c.args.table.now c.columns.new.table c.gather.new.plan c.gather.new.rows.keys c.in_ok-root.root.place c.in_ok-all.all c.args.m.now c.args.taken c.args.v.now long
    c.in_ok-root.ensures.leads (rw (c.as_slice-2.ensures.value, c.in_ok-exits.ensures, c.as_slice.ensures.keys) at c.in_ok-all.ensures.rows)
