use Rattle.std.proofs.Common.{◌∷◌, [], arith, subst}
use Rattle.std.proofs.lemmas.List.{take_all}
use Rattle.flow_graph.specs.Reached.{IsLeastOutside, gone_to}
use Rattle.flow_graph.proofs.OutsideLemmas.{gone_more, least_none}
use Rattle.flow_graph.proofs.early_refusals.least_gone_to.Goals as goal

pub loop-site-init : goal.loop-site-init
loop-site-init c = c.least_with-least.ensures.joined [] (least_none c.args.image.now)

pub loop-site-preserved : goal.loop-site-preserved
loop-site-preserved c =
    gone_more c.args.image.now c.args.start c.loop-site.site-index c.args.sites.now c.site-item.result c.loop-site.least c.least_with_next-least.result
    c.loop-site-test.true c.site-item.is c.loop-site.invariant c.least_with_next-least.ensures

pub returns : goal.returns
returns c = subst (λ l. IsLeastOutside c.args.image.now (c.args.start ∷ gone_to l) c.loop-site.least) (take_all c.loop-site.site-index c.args.sites.now (omega arith)) c.loop-site.invariant
