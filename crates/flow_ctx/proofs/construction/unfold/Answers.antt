use Rattle.std.proofs.Common.{◌≤◌, List, length, refl, ap, sym, subst, ◌∙◌, arith}
use Rattle.std.proofs.lemmas.List.{length-map}
use Rattle.flow_ctx.specs.declared.place.Place.{Place}
use Rattle.flow_ctx.specs.declared.unfolded.Edge.{Edge}
use Rattle.flow_ctx.specs.declared.unfolded.UNode.{UNode}
use Rattle.flow_ctx.specs.declared.unfolded.Unfolded.{Unfolded}
use Rattle.flow_ctx.specs.Chosen.{most_edges}
use Rattle.flow_ctx.specs.Found.{nodes_of}
use Rattle.flow_ctx.specs.Targets.{node_of}
use Rattle.flow_ctx.specs.Unfolding.{AreLoops, AreNodes, most_nodes}
use Rattle.flow_ctx.proofs.BuiltLemmas.{in_order}
use Rattle.flow_ctx.proofs.CountLemmas.{not_too_many}
use Rattle.flow_ctx.proofs.LoopLemmas.{edges_few, the_unfolding}
use Rattle.flow_ctx.proofs.construction.unfold.Goals as goal

few_nodes : (places : List Place) → length places ≤ most_nodes → length (nodes_of places) ≤ most_nodes
few_nodes places h = omega (arith, h, length-map places node_of)

pub ordered_places-requires : goal.ordered_places-requires
ordered_places-requires c = in_order c.args.program c.requires

pub edges_of-requires-clause-order : goal.edges_of-requires-clause-order
edges_of-requires-clause-order c = in_order c.args.program c.requires

pub loops_of-requires-clause-order : goal.loops_of-requires-clause-order
loops_of-requires-clause-order c = in_order c.args.program c.requires

pub loops_of-requires-clause-nodes : goal.loops_of-requires-clause-nodes
loops_of-requires-clause-nodes c = subst (λ (l : List Place). AreNodes c.args.program (nodes_of l)) (sym c.as_slice.ensures.keys) c.in_ok-places.ensures.nodes

pub loops_of-requires-clause-few : goal.loops_of-requires-clause-few
loops_of-requires-clause-few c = subst (λ (l : List Place). length l ≤ most_nodes) (sym c.as_slice.ensures.keys) c.in_ok-places.ensures.few

pub loops_of-requires-clause-few_edges : goal.loops_of-requires-clause-few_edges
loops_of-requires-clause-few_edges c =
    let keys = c.in_ok-places.places.keys in
    subst (λ (l : List Edge). length l ≤ most_edges) (sym c.as_slice-2.ensures.value)
    (edges_few c.args.program (nodes_of keys) c.in_ok-edges.edges.items c.in_ok-edges.ensures (few_nodes keys c.in_ok-places.ensures.few))

pub start_number-start-requires-clause-order : goal.start_number-start-requires-clause-order
start_number-start-requires-clause-order c = in_order c.args.program c.requires

pub returns-clause-unfolding : goal.returns-clause-unfolding
returns-clause-unfolding c =
    let program = c.args.program in
    let keys = c.in_ok-places.places.keys in
    let u : Unfolded = record { program = program; start = c.start_number-start.result; nodes = c.new.result; edges = c.new-2.result; loops = c.new-3.result } in
    the_unfolding program u (nodes_of keys) c.in_ok-edges.edges.items c.in_ok-loops.loops.items refl
    (c.new.ensures ∙ c.in_ok-nodes.ensures ∙ ap nodes_of c.as_slice-3.ensures.keys) c.new-2.ensures c.new-3.ensures
    c.in_ok-places.ensures.nodes c.start_number-start.ensures c.in_ok-edges.ensures
    (subst (λ (l : List Edge). AreLoops program (nodes_of keys) l c.in_ok-loops.loops.items) c.as_slice-2.ensures.value
    (subst (λ (l : List Place). AreLoops program (nodes_of l) c.as_slice-2.result.now c.in_ok-loops.loops.items) c.as_slice.ensures.keys c.in_ok-loops.ensures))

pub returns-clause-few : goal.returns-clause-few
returns-clause-few c = not_too_many c.args.program (nodes_of c.in_ok-places.places.keys) c.in_ok-places.ensures.nodes (few_nodes c.in_ok-places.places.keys c.in_ok-places.ensures.few)

pub returns-clause-most : goal.returns-clause-most
returns-clause-most c =
    subst (λ (l : List UNode). length l ≤ most_nodes) (sym (c.new.ensures ∙ c.in_ok-nodes.ensures ∙ ap nodes_of c.as_slice-3.ensures.keys)) (few_nodes c.in_ok-places.places.keys c.in_ok-places.ensures.few)
