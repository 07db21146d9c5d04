-- Each node of an unfolding has a block.
use Rattle.std.proofs.Common.{[], get_or, slice_get, ap, ◌∙◌}
use Rattle.std.proofs.lemmas.Option.{slice_get-get_or}
use Rattle.flow_graph.specs.declared.program.Program.{Program}
use Rattle.flow_ctx.specs.declared.unfolded.UNode.{UNode}
use Rattle.flow_ctx.specs.Laws.{NodesHaveBlocks}
use Rattle.flow_ctx.proofs.TargetLemmas.{reached_has_block}

pub nodes_have_blocks : NodesHaveBlocks
nodes_have_blocks program u number unfolds within =
    let none : UNode = record { chain = []; function = 0; block = 0 } in
    let node = get_or u.nodes number none in
    let h = reached_has_block program node (unfolds.nodes.reached number none within) in
    record {
      node = node;
      function = h.function;
      block = h.block;
      stands = slice_get-get_or u.nodes number none within;
      function_stands = ap (λ (p : Program). slice_get p.functions node.function) unfolds.kept ∙ h.is.function_stands;
      block_stands = h.is.block_stands;
    }
