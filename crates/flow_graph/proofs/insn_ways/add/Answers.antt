use Rattle.flow_graph.proofs.SetLemmas.{set_again, set_added}
use Rattle.flow_graph.proofs.insn_ways.add.Goals as goal

pub returns-in-Ok : goal.returns-in-Ok
returns-in-Ok c = let e = c.in-Ok.ensures in
    set_again c.args.addresses.now.items c.args.addr c.in-Ok.field-0 c.requires (rw (← c.as_slice.ensures) e.bound) (rw (← c.as_slice.ensures) e.ok)

pub returns-in_ok-insert-in-Err : goal.returns-in_ok-insert-in-Err
returns-in_ok-insert-in-Err c = let e = c.in-Err.ensures in
    rw c.in_ok-insert-in-Err.ensures.ok
    (set_added c.args.addresses.now.items c.args.addr c.in-Err.at c.requires (rw (← c.as_slice.ensures) e.bound) (rw (← c.as_slice.ensures) e.position))
