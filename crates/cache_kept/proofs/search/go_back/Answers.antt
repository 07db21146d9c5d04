use Rattle.std.proofs.Common.{sym, ◌∙◌, arith}
use Rattle.cache_kept.specs.Ways.{list_at}
use Rattle.cache_kept.proofs.KnownLemmas.{sources_nodes}
use Rattle.cache_kept.proofs.Lists.{there_too}
use Rattle.cache_kept.proofs.StepLemmas.{step_stopped, step_open}
use Rattle.cache_kept.proofs.WaysLemmas.{list_read}
use Rattle.cache_kept.proofs.search.go_back.Goals as goal

pub returns-then-contains-clause-step : goal.returns-then-contains-clause-step
returns-then-contains-clause-step c =
    step_stopped c.args.look.now c.args.node c.args.accesses.now c.args.trail.now.found.items c.args.trail.now.queue.items c.add_newer.new.found.items c.in_ok-add_newer.ensures.exact
    (sym c.contains.ensures.value ∙ c.if-contains.true)

pub come_to_all-requires-clause-nodes : goal.come_to_all-requires-clause-nodes
come_to_all-requires-clause-nodes c = record {
  within = λ v there. omega (
    arith,
    c.requires.long,
    c.requires.look.sources.long,
    (sources_nodes c.args.look.now.flow.now c.args.look.now.sources.now c.args.node c.requires.look.flow c.requires.look.sources).within v
        (there_too c.as_slice-sources.result.now (list_at c.args.look.now.sources.now c.args.node) v
        (c.as_slice-sources.ensures.value ∙ sym (list_read c.args.look.now.sources.now c.args.node c.index-look-node.result (omega (arith, c.requires.node, c.requires.look.sources.long)))) there),
  );
}

pub returns-clause-step : goal.returns-clause-step
returns-clause-step c =
    step_open c.args.look.now c.args.node c.args.accesses.now c.args.trail.now.found.items c.args.trail.now.queue.items c.add_newer.new.found.items c.in_ok-add_newer.ensures.exact
    c.requires.look c.requires.member c.come_to_all.new.queue.items c.as_slice-sources.result.now (sym c.contains.ensures.value ∙ c.if-contains.false)
    (c.as_slice-sources.ensures.value ∙ sym (list_read c.args.look.now.sources.now c.args.node c.index-look-node.result (omega (arith, c.requires.node, c.requires.look.sources.long))))
    c.in_ok-come_to_all.ensures.came
