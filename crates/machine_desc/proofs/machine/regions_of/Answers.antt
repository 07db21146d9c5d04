use Rattle.std.proofs.Common.{arith}
use Rattle.machine_desc.proofs.Elements.{regions_more, words_at}
use Rattle.machine_desc.proofs.machine.regions_of.Goals as goal

pub region_of-requires : goal.region_of-requires
region_of-requires c = words_at c.args.elements.now c.loop-element.element-index c.element-item.result c.requires (omega arith) c.element-item.is

pub loop-element-preserved : goal.loop-element-preserved
loop-element-preserved c =
    regions_more c.args.elements.now c.loop-element.element-index c.element-item.result c.in_ok-region_of.field-0 c.loop-element.regions.items c.push.new.self.items (omega arith) c.element-item.is c.loop-element.invariant c.in_ok-region_of.ensures c.in_ok-push.ensures.items
