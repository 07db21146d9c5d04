-- The flow of an unfolding is a flow.
use Rattle.std.proofs.Common.{◌≡◌, ℕ, ◌<◌, true, List, [], length, get_or, map, slice_get, Some, refl, sym, ap, ◌∙◌, subst, arith}
use Rattle.std.specs.List.{All, Contains}
use Rattle.std.proofs.lemmas.List.{length-map, get_or-map}
use Rattle.std.proofs.lemmas.List.Elements.{All-from_get_or, Contains-get_or}
use Rattle.std.proofs.lemmas.Option.{slice_get_within}
use Rattle.cache_ages.specs.Bounds.{is_one_of}
use Rattle.cache_flow.specs.declared.flow.Flow.{Flow}
use Rattle.cache_flow.specs.declared.flow.Move.{Move}
use Rattle.cache_flow.specs.Flows.{IsFlow, accesses_of}
use Rattle.flow_ctx.specs.declared.unfolded.Edge.{Edge}
use Rattle.flow_ctx.specs.declared.unfolded.Unfolded.{Unfolded}
use Rattle.flow_graph.specs.declared.program.Program.{Program}
use Rattle.flow_ctx.specs.Unfolding.{IsUnfolding, IsEdge}
use Rattle.cache_class.specs.Accesses.{slots_of, lines_fetched, move_along, IsFlowOf}
use Rattle.cache_class.specs.Laws.{UnfoldingsFlow}
use Rattle.cache_class.proofs.OneTable.{accesses_listed}

long : (u : Unfolded) (flow : Flow) → IsFlowOf u flow → length flow.nodes ≡ length u.nodes
long u flow of = ap length of.nodes ∙ length-map u.nodes (λ node. lines_fetched (slots_of u.program node))

pub unfolding_flow : UnfoldingsFlow
unfolding_flow program u flow is of =
    let nowhere : Edge = record { from = 0; to = 0; taken = true } in
    let edges : All (λ (m : Move). (m.from < length flow.nodes) × (m.to < length flow.nodes)) (map move_along u.edges) =
    All-from_get_or (λ (m : Move). (m.from < length flow.nodes) × (m.to < length flow.nodes)) (map move_along u.edges) (move_along nowhere) (λ k h.
    let inside : k < length u.edges = omega (arith, length-map u.edges move_along) in
    let edge = is.edges.each k nowhere inside in
    subst (λ (m : Move). (m.from < length flow.nodes) × (m.to < length flow.nodes)) (sym (get_or-map move_along u.edges k nowhere (move_along nowhere) inside)) (
      omega (arith, slice_get_within u.nodes (get_or u.edges k nowhere).from edge.source edge.from, long u flow of),
      omega (arith, slice_get_within u.nodes (get_or u.edges k nowhere).to edge.target edge.to, long u flow of),
    )) in
    let moves = subst (λ (ms : List Move). All (λ (m : Move). (m.from < length flow.nodes) × (m.to < length flow.nodes)) ms) (sym of.moves) edges in
    record {
      start = omega (arith, of.start, slice_get_within u.nodes u.start is.start.node is.start.stands, long u flow of);
      from = λ k d h. (moves k d h).0;
      to = λ k d h. (moves k d h).1;
      ascending = of.ascending;
      listed = All-from_get_or (λ accesses. All (λ line. is_one_of flow.lines line ≡ true) accesses) flow.nodes [] (λ k h. accesses_listed u flow k of);
    }
