use Rattle.std.proofs.Common.{◌+◌, List, subst, sym}
use Rattle.cache_class.specs.declared.class.Class.{Class}
use Rattle.cache_class.specs.Tables.{AreClassesTo}
use Rattle.cache_class.proofs.EventLemmas.{nodes_more}
use Rattle.cache_class.proofs.events.all_classes.Goals as goal

pub loop-node-preserved : goal.loop-node-preserved
loop-node-preserved c =
    let machine = c.args.machine.now in
    let flow = c.args.tables.now.flow in
    subst (λ (table : List (List Class)). AreClassesTo machine c.args.tables.now.u.now flow (c.loop-node.node + 1) table) (sym c.in_ok-push.ensures.items)
    (nodes_more machine c.args.tables.now.u.now flow c.loop-node.node c.loop-node.all.items c.in_ok-node_classes.field-0 c.loop-node.invariant c.in_ok-node_classes.ensures)
