use Rattle.state_families.proofs.GrowthLemmas.{merged_from}
use Rattle.state_families.proofs.growth.merge.Goals as goal

pub returns : goal.returns
returns c =
    merged_from c.args.vectors.now c.args.arrivals.now c.add_all.new.set.keys c.add_fresh.new.set.keys c.in_ok-in_order.field-0.items c.in_ok-fresh.fresh.items c.in_ok-add_all.ensures
    c.in_ok-fresh.ensures c.in_ok-in_order.ensures.all c.in_ok-in_order.ensures.ordered
