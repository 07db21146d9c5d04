use Rattle.std.proofs.Common.{List, ◌+◌, ◌∙◌, sym, subst}
use Rattle.path_problem.specs.declared.net.Link.{Link}
use Rattle.path_problem.proofs.WholeLemmas.{LinksSoFar, one_link, all_links, arc_is}
use Rattle.path_problem.proofs.potential.links_of.Goals as goal

pub loop-number-preserved : goal.loop-number-preserved
loop-number-preserved c =
    let F : List Link → Type 0 = λ l. LinksSoFar c.args.graph.now c.args.prices.now c.args.order.now (c.loop-number.number-index + 1) l in
    let is = arc_is c.args.graph.now c.args.prices.now c.full_weights.new.weights _ c.link_of.result (c.full_weights.auto.weights ∙ c.requires.weights) c.full_weights.ensures.weights c.full_weights.ensures.within (c.requires.order c.loop-number.number-index 0 c.loop-number-test.true)
    c.link_of.ensures.from c.link_of.ensures.to c.link_of.ensures.weight c.link_of.ensures.back c.link_of.ensures.arc in
    subst F (sym c.in_ok-push.ensures.items) (one_link c.args.graph.now c.args.prices.now c.args.order.now c.loop-number.number-index c.loop-number.links.items c.link_of.result c.loop-number.invariant is c.link_of.ensures.arc)

pub returns : goal.returns
returns c = all_links c.args.graph.now c.args.prices.now c.args.order.now c.loop-number.number-index c.loop-number.links.items c.loop-number.invariant c.loop-number-test.false c.requires.each
