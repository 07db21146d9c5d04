use Rattle.std.proofs.Common.{sym}
use Rattle.flow_ctx.specs.Targets.{node_of}
use Rattle.flow_ctx.proofs.SearchLemmas.{block_short}
use Rattle.flow_ctx.proofs.TargetLemmas.{are_targets_of}
use Rattle.flow_ctx.proofs.leading.targets_of.Goals as goal

pub site_of-site-requires : goal.site_of-site-requires
site_of-site-requires c =
    let place = c.requires.place in
    block_short c.args.program.now c.requires.order c.args.from.now.function c.args.from.now.block place.function c.block_of-block.result.now
    place.is.function_stands (c.block_of-block.ensures place.function place.is.function_stands)

pub returns : goal.returns
returns c =
    let place = c.requires.place in
    are_targets_of c.args.program.now (node_of c.args.from.now) place.function c.block_of-block.result.now
    (record { function_stands = place.is.function_stands; entry = place.is.entry; block_stands = c.block_of-block.ensures place.function place.is.function_stands })
    c.as_slice-chain.result.now c.as_slice.result.now c.site_of-site.result c.as_slice-2.result.now
    c.as_slice-chain.ensures.value c.as_slice.ensures c.site_of-site.ensures c.as_slice-2.ensures
    c.new-targets.result.items c.push_next.new.targets.items c.push_jumps.new.targets.items c.push_calls.new.targets.items c.push_return.new.targets.items
    c.new-targets.ensures.items c.in_ok-push_next.ensures c.in_ok-push_jumps.ensures c.in_ok-push_calls.ensures c.in_ok-push_return.ensures
