use Rattle.std.proofs.Common.{All, None, arith, subst}
use Rattle.std.proofs.lemmas.List.{take_all}
use Rattle.std.proofs.lemmas.List.Elements.{All-more}
use Rattle.flow_graph.specs.Reached.{IsLeastOutside, leads_of}
use Rattle.flow_graph.proofs.OutsideLemmas.{leads_first}
use Rattle.flow_graph.proofs.early_refusals.first_leading_out.Goals as goal

pub loop-site-preserved : goal.loop-site-preserved
loop-site-preserved c =
    let one = subst (λ s. IsLeastOutside c.args.image.now (leads_of s) None) c.site-item.is c.in_default.ensures in
    All-more (λ s. IsLeastOutside c.args.image.now (leads_of s) None) c.args.sites.now c.loop-site.site-index c.site-item.result c.loop-site-test.true c.loop-site.invariant one

pub returns-in-Some : goal.returns-in-Some
returns-in-Some c = leads_first c.args.image.now c.args.sites.now c.loop-site.site-index c.site-item.result c.in-Some.target c.requires c.loop-site-test.true c.site-item.is c.loop-site.invariant c.in-Some.ensures

pub returns : goal.returns
returns c = subst (λ l. All (λ s. IsLeastOutside c.args.image.now (leads_of s) None) l) (take_all c.loop-site.site-index c.args.sites.now (omega arith)) c.loop-site.invariant
