use Rattle.std.proofs.Common.{List, Some, slice_get, subst, sym, ◌≡◌}
use Rattle.std.specs.List.{All, Contains}
use Rattle.flow_ctx.specs.declared.target.Target.{Target}
use Rattle.flow_ctx.specs.declared.unfolded.Edge.{Edge}
use Rattle.flow_ctx.specs.Edges.{AddsEdges, AreEdgesFrom}
use Rattle.flow_ctx.specs.Found.{nodes_of}
use Rattle.flow_ctx.specs.Targets.{node_of}
use Rattle.flow_ctx.proofs.EdgeLemmas.{edges_more, no_edges, targets_there}
use Rattle.flow_ctx.proofs.FoundLemmas.{reached_has_place}
use Rattle.flow_ctx.proofs.NumberLemmas.{node_stands, reached_at}
use Rattle.flow_ctx.proofs.SearchLemmas.{read_at}
use Rattle.flow_ctx.proofs.edges.found_edges.Goals as goal

pub loop-from-init : goal.loop-from-init
loop-from-init c = subst (λ (l : List Edge). AreEdgesFrom c.args.program.now (nodes_of c.args.places.now.keys) 0 l) (sym c.new-edges.ensures.empty)
    (no_edges c.args.program.now (nodes_of c.args.places.now.keys) c.requires.nodes)

pub targets_of-requires-clause-place : goal.targets_of-requires-clause-place
targets_of-requires-clause-place c =
    let p = c.index-list-from.result in
    let keys = c.args.places.now.keys in
    let is = read_at c.as_slice-list.result.now keys c.loop-from.from p c.as_slice-list.ensures.keys c.loop-from-test.true c.index-list-from.is in
    reached_has_place c.args.program.now c.requires.order p (reached_at c.args.program.now keys c.loop-from.from p c.requires.nodes is)

pub add_edges-requires-clause-there : goal.add_edges-requires-clause-there
add_edges-requires-clause-there c =
    let p = c.index-list-from.result in
    let keys = c.args.places.now.keys in
    let is = read_at c.as_slice-list.result.now keys c.loop-from.from p c.as_slice-list.ensures.keys c.loop-from-test.true c.index-list-from.is in
    subst (λ (l : List Target). All (λ t. Contains (nodes_of keys) (node_of t.place)) l) (sym c.as_slice.ensures.value)
    (targets_there c.args.program.now (nodes_of keys) c.requires.nodes (node_of p) c.in_ok-targets.targets.items
    (reached_at c.args.program.now keys c.loop-from.from p c.requires.nodes is) c.in_ok-targets.ensures)

pub loop-from-preserved : goal.loop-from-preserved
loop-from-preserved c =
    let p = c.index-list-from.result in
    let keys = c.args.places.now.keys in
    let i = c.loop-from.from in
    let is = read_at c.as_slice-list.result.now keys i p c.as_slice-list.ensures.keys c.loop-from-test.true c.index-list-from.is in
    edges_more c.args.program.now (nodes_of keys) c.requires.nodes i (node_of p) c.in_ok-targets.targets.items c.loop-from.edges.keys c.add_edges.new.edges.keys
    c.loop-from.invariant (node_stands keys i p is) c.in_ok-targets.ensures
    (subst (λ (l : List Target). AddsEdges (nodes_of keys) i l c.loop-from.edges.keys c.add_edges.new.edges.keys) c.as_slice.ensures.value c.in_ok-add_edges.ensures)
