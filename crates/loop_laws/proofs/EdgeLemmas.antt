-- What the edges of an unfolding are to its loops.
use Rattle.std.proofs.Common.{◌≡◌, ℕ, ◌<◌, length, slice_get, sym, ap, subst, ◌∙◌}
use Rattle.std.specs.Prelude.{Contains, Some}
use Rattle.std.proofs.lemmas.Option.{slice_get_within}
use Rattle.flow_graph.specs.declared.program.Program.{Program}
use Rattle.flow_ctx.specs.declared.unfolded.Edge.{Edge}
use Rattle.flow_ctx.specs.declared.unfolded.ULoop.{ULoop}
use Rattle.flow_ctx.specs.declared.unfolded.Unfolded.{Unfolded}
use Rattle.flow_ctx.specs.Unfolding.{IsEdge, IsLoop}
use Rattle.loop_laws.specs.Laws.{BackEdgesAreOfOneLoop, HeadsDiffer, LoopsHaveEdges, UnfoldingsAreOverNodes}
use Rattle.loop_laws.proofs.Lists.{all_at, all_in, all_of, one_element, one_key}
use Rattle.loop_laws.proofs.Nodes.{head_is_member, loop_of}

pub over_nodes : UnfoldingsAreOverNodes
over_nodes program u unfolds =
    let each : (e : Edge) → Contains u.edges e → IsEdge program u.nodes e = λ e c. all_in (λ f. IsEdge program u.nodes f) u.edges e unfolds.edges.each c in
    record {
      start = slice_get_within u.nodes u.start unfolds.start.node unfolds.start.stands;
      sources = all_of (λ e. e.from < length u.nodes) u.edges (λ e c. slice_get_within u.nodes e.from (each e c).source (each e c).from);
      targets = all_of (λ e. e.to < length u.nodes) u.edges (λ e c. slice_get_within u.nodes e.to (each e c).target (each e c).to);
    }

-- ---- the edges of one loop

module _ (program : Program) (u : Unfolded) (l : ULoop) (loop : IsLoop program u.nodes u.edges l) where
  back_from : (number : ℕ) (edge : Edge) → Contains l.back number → slice_get u.edges number ≡ Some edge → Contains l.members edge.from
  back_from number edge c e =
      let back = (loop.back number).0 c in
      subst (λ (x : Edge). Contains l.members x.from) (one_element u.edges number back.edge edge back.stands e) back.inside

  pub back_to : (number : ℕ) (edge : Edge) → Contains l.back number → slice_get u.edges number ≡ Some edge → edge.to ≡ l.head
  back_to number edge c e =
      let back = (loop.back number).0 c in
      ap (λ (x : Edge). x.to) (one_element u.edges number edge back.edge e back.stands) ∙ back.into

  entered_from : (number : ℕ) (edge : Edge) → Contains l.entries number → slice_get u.edges number ≡ Some edge → Contains l.members edge.from → ⊥
  entered_from number edge c e member =
      let entry = (loop.entries number).0 c in
      entry.outside (subst (λ (x : Edge). Contains l.members x.from) (one_element u.edges number edge entry.edge e entry.stands) member)

  entered_to : (number : ℕ) (edge : Edge) → Contains l.entries number → slice_get u.edges number ≡ Some edge → edge.to ≡ l.head
  entered_to number edge c e =
      let entry = (loop.entries number).0 c in
      ap (λ (x : Edge). x.to) (one_element u.edges number edge entry.edge e entry.stands) ∙ entry.into

pub loops_have_edges : LoopsHaveEdges
loops_have_edges image facts first machine program u l built unfolds c =
    let loop = loop_of program u l unfolds c in
    record {
      head = head_is_member image facts first machine program built u l loop;
      members = all_of (λ k. k < length u.nodes) l.members (λ k h. let m = (loop.members k).0 h in slice_get_within u.nodes k m.node m.stands);
      back = all_of (λ k. k < length u.edges) l.back (λ k h. let b = (loop.back k).0 h in slice_get_within u.edges k b.edge b.stands);
      entries = all_of (λ k. k < length u.edges) l.entries (λ k h. let b = (loop.entries k).0 h in slice_get_within u.edges k b.edge b.stands);
      back_from = back_from program u l loop;
      back_to = back_to program u l loop;
      entered_from = entered_from program u l loop;
      entered_to = entered_to program u l loop;
    }

-- ---- two loops

pub heads_differ : HeadsDiffer
heads_differ program u i j l m unfolds e f same = one_key (λ (k : ULoop). k.head) u.loops i j l m unfolds.loops.ascending e f same

pub back_edges_are_of_one_loop : BackEdgesAreOfOneLoop
back_edges_are_of_one_loop program u i j number l m unfolds e f c d =
    let one : IsLoop program u.nodes u.edges l = all_at (λ k. IsLoop program u.nodes u.edges k) u.loops i l unfolds.loops.each e in
    let other : IsLoop program u.nodes u.edges m = all_at (λ k. IsLoop program u.nodes u.edges k) u.loops j m unfolds.loops.each f in
    let back = (one.back number).0 c in
    heads_differ program u i j l m unfolds e f (sym back.into ∙ back_to program u m other number back.edge d back.stands)
