use Rattle.std.proofs.Common.{◌≡◌, ◌∷◌, [], length, subst, arith}
use Rattle.flow_graph.specs.Reached.{IsGrownBy}
use Rattle.flow_graph.proofs.ReachLemmas.{begin, more_by, ended, no_more, queued_code}
use Rattle.flow_graph.proofs.explore.search.Goals as goal

pub loop-address-init : goal.loop-address-init
loop-address-init c =
    rw c.new-sites.ensures.items
    (begin c.args.image.now c.args.facts.now c.args.start c.add_code.new.reached.keys
    (subst (λ l. IsGrownBy c.args.image.now (c.args.start ∷ []) l c.add_code.new.reached.keys) c.new-reached.ensures.empty c.in_ok-add_code.ensures))

pub loop-address-preserved : goal.loop-address-preserved
loop-address-preserved c =
    let at : c.len.result ≡ length c.loop-address.sites.items = omega (arith, c.loop-address.sites.ok.0) in
    rw c.in_ok-push.ensures.items
    (more_by c.args.image.now c.args.facts.now c.args.start c.loop-address.reached.keys c.add_code-in-Some.new.reached.keys c.add_code-in-Some-2.new.reached.keys
    c.as_slice.result.now c.as_slice-in-Some.result.now c.loop-address.sites.items c.in_ok-site.site c.len.result c.in-Some.address.now
    c.loop-address.invariant c.in-Some.ensures.key at c.in_ok-site.ensures.address c.in_ok-site.ensures.site
    c.as_slice.ensures c.in_ok-add_code-2.ensures c.as_slice-in-Some.ensures.value c.in_ok-add_code-3.ensures)

pub returns : goal.returns
returns c =
    let at : c.len.result ≡ length c.loop-address.sites.items = omega (arith, c.loop-address.sites.ok.0) in
    ended c.args.image.now c.args.facts.now c.args.start c.loop-address.reached.keys c.loop-address.sites.items c.loop-address.invariant
    (rw (← at) (no_more c.loop-address.reached.keys c.len.result c.in_default.ensures.key))

pub look-requires-clause-code : goal.look-requires-clause-code
look-requires-clause-code c = queued_code c.args.image.now c.args.facts.now c.args.start c.loop-address.reached.keys c.len.result c.in-Some.address.now c.loop-address.invariant.reached c.in-Some.ensures.key
