use Rattle.std.proofs.Common.{None, [], subst}
use Rattle.flow_graph.specs.Reached.{IsLeastWith}
use Rattle.flow_graph.proofs.OutsideLemmas.{least_none}
use Rattle.flow_graph.proofs.early_refusals.least_target.Goals as goal

pub returns : goal.returns
returns c =
    let image = c.args.image.now in
    let ways : IsLeastWith image c.args.site.now.ways.items None c.least_of.result = subst (λ l. IsLeastWith image l None c.least_of.result) c.as_slice-2.ensures c.least_of.ensures in
    let callees : IsLeastWith image c.args.site.now.callees.items c.least_of.result c.least_of-2.result = subst (λ l. IsLeastWith image l c.least_of.result c.least_of-2.result) c.as_slice.ensures.value c.least_of-2.ensures in
    callees.joined c.args.site.now.ways.items (ways.joined [] (least_none image))
