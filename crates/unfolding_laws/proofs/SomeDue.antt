-- A program that was built has an unfolding, or too many nodes. What is shown is that it cannot be otherwise, so each step may go on as if
-- every statement held or did not.
use Rattle.std.proofs.Common.{refl}
use Rattle.unfolding_laws.specs.Laws.{UnfoldedOrTooLarge}
use Rattle.flow_ctx.specs.Nodes.{start}
use Rattle.unfolding_laws.proofs.Built.{first_node, place_of}
use Rattle.unfolding_laws.proofs.Edges.{has_edges}
use Rattle.unfolding_laws.proofs.Loops.{has_loops}
use Rattle.unfolding_laws.proofs.Nodes.{has_nodes}

pub some_is_due : UnfoldedOrTooLarge
some_is_due program built unfolded large =
    has_nodes program built
    (λ nodes are few.
    has_edges program nodes few
    (λ edges are_edges.
    has_loops program nodes edges
    (λ loops are_loops.
    let first = first_node program built in
    let number = place_of nodes first.0 (are.whole first.0 (start first.0 first.1)) in
    unfolded
    (record { program = program; start = number.0; nodes = nodes; edges = edges; loops = loops })
    (record {
      kept = refl;
      nodes = are;
      start = record { node = first.0; stands = number.1; starts = first.1 };
      edges = are_edges;
      loops = are_loops;
    })
    few)))
    large
