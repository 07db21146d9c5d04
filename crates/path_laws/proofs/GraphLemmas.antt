-- The graph of an unfolding meets the conditions of a path problem.
use Rattle.std.proofs.Common.{◌≡◌, ℕ, ◌<◌, ◌≤◌, List, [], ◌∷◌, length, map, slice_get, Some, refl, sym, ap, subst, ◌∙◌, inl, inr, arith}
use Rattle.std.specs.Prelude.{Contains, Option, IfSome, IsTrue}
use Rattle.std.specs.Option.{option_map_or}
use Rattle.std.proofs.lemmas.List.{length-map}
use Rattle.std.proofs.lemmas.Option.{get_or_from_slice_get, slice_get_within}
use Rattle.wx_base.specs.declared.machine.Machine.{Machine}
use Rattle.pipe_time.specs.declared.vector.Vector.{Vector}
use Rattle.flow_ctx.specs.declared.unfolded.ULoop.{ULoop}
use Rattle.flow_ctx.specs.declared.unfolded.Unfolded.{Unfolded}
use Rattle.cache_class.specs.declared.class.Classes.{Classes}
use Rattle.cert_text.specs.declared.certificate.Charge.{Charge}
use Rattle.state_families.specs.declared.family_set.FamilySet.{FamilySet}
use Rattle.path_graph.specs.declared.graph.Arc.{Arc}
use Rattle.path_graph.specs.declared.graph.Graph.{Graph}
use Rattle.path_graph.specs.declared.graph.LoopArcs.{LoopArcs}
use Rattle.path_graph.specs.Conditions.{HasLoop, IsGraph, IsLoop}
use Rattle.path_graph.specs.Graph.{arc_at, has, loop_at, IsWalk}
use Rattle.path_rules.specs.declared.edge_arc.EdgeArc.{EdgeArc}
use Rattle.path_rules.specs.Pairs.{first_vertex, IsVertex, Pair, pairs}
use Rattle.path_rules.specs.Steps.{IsStep}
use Rattle.path_rules.specs.Loops.{IsArcAlong, IsLoopBefore, IsLoopOf, IsLoopOrder, IsOrigin, IsTotalOf, IsVertexIn}
use Rattle.path_rules.specs.Loops.IsOrigin.{none as no_origin, one as some_origin}
use Rattle.path_rules.specs.Loops.IsTotalOf.{none as no_total, one as some_total}
use Rattle.path_rules.specs.Weights.{AreWeights}
use Rattle.loop_laws.specs.Laws.{BackEdgesAreOfOneLoop, ClosedWalksLieInALoop, HasEdges, IsWithin, LoopsHaveEdges, SmallerLoopsAreWithin, UnfoldingsAreOverNodes}
use Rattle.loop_laws.specs.Walks.{IsWalkFrom, LiesInLoop}
use Rattle.loop_laws.specs.Walks.IsWalkFrom.{ends, goes}
use Rattle.path_laws.proofs.Lists.{all_of, contains_mapped, contains_of, element, front_or_rest, has_of, listed, mapped, one_element, one_place, paired, stands_at}
use Rattle.path_laws.proofs.StartLemmas.{start_is_vertex}
use Rattle.path_laws.specs.Laws.{GraphIsSound}

-- what is known of the loops of an unfolding
pub record AreKnown (u : Unfolded) : Type 0 where
  pub edges : (l : ULoop) → Contains u.loops l → HasEdges u l
  pub within : (l m : ULoop) (node : ℕ) → Contains u.loops l → Contains u.loops m → Contains l.members node
      → Contains m.members node
      → length l.members ≤ length m.members → IsWithin l m
  pub back : (i j number : ℕ) (l m : ULoop) → slice_get u.loops i ≡ Some l → slice_get u.loops j ≡ Some m
      → Contains l.back number
      → Contains m.back number → i ≡ j
  pub closed : (node number : ℕ) (walk : List ℕ) → IsWalkFrom u node (number ∷ walk) node → LiesInLoop u (number ∷ walk)

-- a vertex is that of one node
pub one_node : (vectors : List (List Vector)) (number n k : ℕ) (v w : Vector) → IsVertex vectors number n v
    → IsVertex vectors number k w → n ≡ k
one_node vectors number n k v w here there =
    let pair : Pair = record { node = n; vector = v } in
    let other : Pair = record { node = k; vector = w } in
    ap (λ (p : Pair). p.node) (one_element (pairs vectors) number pair other here there)

-- the node of a vertex of some nodes is one of them
node_in : (vectors : List (List Vector)) (nodes : List ℕ) (number node : ℕ) (v : Vector)
    → IsVertex vectors number node v
    → IsVertexIn vectors nodes number → Contains nodes node
node_in vectors nodes number node v here is =
    subst (λ (n : ℕ). Contains nodes n) (one_node vectors number is.node node is.vector v is.is here) is.inside

-- no loop stands before itself
not_before : (u : Unfolded) (i : ℕ) → IsLoopBefore u i i → ⊥
not_before u i (inl less) = absurd (omega arith)
not_before u i (inr both) = let less : i < i = both.1 in absurd (omega arith)

-- the edge that the arc with a number goes along
edge_in : List EdgeArc → ℕ → ℕ
edge_in arcs a = option_map_or (λ (arc : EdgeArc). arc.edge) (slice_get arcs a) 0

edge_is : (arcs : List EdgeArc) (a : ℕ) (arc : EdgeArc) → slice_get arcs a ≡ Some arc → edge_in arcs a ≡ arc.edge
unfolding edge_in
edge_is arcs a arc e = rw e refl

-- all arcs of a walk are arcs of the graph
on_walk : (g : Graph) (walk : List ℕ) (u v a : ℕ) → IsWalk g u walk v → Contains walk a → a < length g.arcs
on_walk g [] u v a is c = absurd (omega (arith, c.1))
on_walk g (b ∷ walk) u v a is c = elim (front_or_rest b walk a c) [
  | inl e ↦ let within : b < length g.arcs = is.0 in omega (arith, within, e)
  | inr rest ↦ on_walk g walk (arc_at g b).to v a is.2 rest
]

module _ (u : Unfolded) (m : Machine) (classes : Classes) (f : FamilySet) (charges : List Charge) (order addresses : List ℕ)
    (g : Graph) (known : AreKnown u) (sorted : IsLoopOrder u order) (w : AreWeights u m classes f charges order addresses g) where
  -- ---- arcs

  -- the arc with a number, and the edge that it goes along
  record IsArc (a : ℕ) : Type 0 where
    arc : EdgeArc
    stands : slice_get w.arcs a ≡ Some arc
    is : arc_at g a ≡ arc.arc
    step : IsStep u m classes f charges arc.edge arc.arc.from arc.arc.to arc.arc.weight

  arc_count : length g.arcs ≡ length w.arcs
  arc_count = ap (λ (l : List Arc). length l) w.plain ∙ length-map w.arcs (λ (a : EdgeArc). a.arc)

  arc_of : (a : ℕ) (arc : EdgeArc) → slice_get w.arcs a ≡ Some arc → IsArc a
  arc_of a arc stands = record {
    arc = arc;
    stands = stands;
    is = get_or_from_slice_get g.arcs a arc.arc _
        (ap (λ (l : List Arc). slice_get l a) w.plain ∙ mapped (λ (x : EdgeArc). x.arc) w.arcs a arc stands);
    step = (w.are.each a arc stands).is;
  }

  arc_with : (a : ℕ) → a < length g.arcs → IsArc a
  arc_with a within = let e = element w.arcs a (omega (arith, within, arc_count)) in arc_of a e.0 e.1

  -- the ends of an arc are vertices of the ends of its edge
  leaves : (a : ℕ) (is : IsArc a) → IsVertex f.vectors (arc_at g a).from is.step.edge.from is.step.source
  leaves a is =
      subst (λ (x : Arc). IsVertex f.vectors x.from is.step.edge.from is.step.source) (sym is.is) is.step.leaves

  comes : (a : ℕ) (is : IsArc a) → IsVertex f.vectors (arc_at g a).to is.step.edge.to is.step.target
  comes a is = subst (λ (x : Arc). IsVertex f.vectors x.to is.step.edge.to is.step.target) (sym is.is) is.step.comes

  vertex_within : (number node : ℕ) (v : Vector) → IsVertex f.vectors number node v → number < length g.finish
  vertex_within number node v is =
      let less = slice_get_within (pairs f.vectors) number (record { node = node; vector = v }) is in
      omega (arith, less, w.finishes.long)

  source_within : (a : ℕ) → a < length g.arcs → (arc_at g a).from < length g.finish
  source_within a less =
      let is = arc_with a less in
      vertex_within (arc_at g a).from is.step.edge.from is.step.source (leaves a is)

  target_within : (a : ℕ) → a < length g.arcs → (arc_at g a).to < length g.finish
  target_within a less =
      let is = arc_with a less in
      vertex_within (arc_at g a).to is.step.edge.to is.step.target (comes a is)

  -- ---- loops

  -- the loop of the graph at a place, and the loop of the unfolding that it is made of
  record IsLoopAt (place : ℕ) : Type 0 where
    number : ℕ
    l : ULoop
    ordered : slice_get order place ≡ Some number
    stands : slice_get u.loops number ≡ Some l
    of : IsLoopOf u f.vectors w.arcs addresses l (loop_at g place)

  loop_of : (place number : ℕ) (l : ULoop) → slice_get order place ≡ Some number
      → slice_get u.loops number ≡ Some l → IsLoopAt place
  loop_of place number l ordered stands =
      let within : place < length g.loops = omega (arith, slice_get_within order place number ordered, w.loops.long) in
      let loop = element g.loops place within in
      record {
        number = number;
        l = l;
        ordered = ordered;
        stands = stands;
        of = subst (λ (x : LoopArcs). IsLoopOf u f.vectors w.arcs addresses l x)
            (sym (get_or_from_slice_get g.loops place loop.0 _ loop.1))
            (w.loops.each place number l loop.0 ordered stands loop.1);
      }

  loop_with : (place : ℕ) → place < length g.loops → IsLoopAt place
  loop_with place within =
      let number = element order place (omega (arith, within, w.loops.long)) in
      let less : number.0 < length u.loops = (sorted.exact number.0).0 (listed order place number.0 number.1) in
      let l = element u.loops number.0 less in
      loop_of place number.0 l.0 number.1 l.1

  -- a vertex is a member of the loop if its node is one
  member_node : (place : ℕ) (is : IsLoopAt place) (number node : ℕ) (v : Vector) → IsVertex f.vectors number node v
      → IsTrue (has (loop_at g place).members number) → Contains is.l.members node
  member_node place is number node v here h =
      node_in f.vectors is.l.members number node v here
      ((is.of.members number).0 (contains_of (loop_at g place).members number h))

  member_of : (place : ℕ) (is : IsLoopAt place) (number node : ℕ) (v : Vector) → IsVertex f.vectors number node v
      → Contains is.l.members node → IsTrue (has (loop_at g place).members number)
  member_of place is number node v here c =
      has_of (loop_at g place).members number
      ((is.of.members number).1 (record { node = node; vector = v; is = here; inside = c }))

  -- an arc along one of some edges, with its edge
  record GoesAlong (edges : List ℕ) (a : ℕ) : Type 0 where
    arc : IsArc a
    along : Contains edges arc.arc.edge

  goes_along : (edges : List ℕ) (a : ℕ) → IsArcAlong w.arcs edges a → GoesAlong edges a
  unfolding arc_of
  goes_along edges a is = record { arc = arc_of a is.arc is.stands; along = is.along }

  along_within : (edges : List ℕ) (a : ℕ) → IsArcAlong w.arcs edges a → a < length g.arcs
  along_within edges a is = omega (arith, slice_get_within w.arcs a is.arc is.stands, arc_count)

  entry_along : (place : ℕ) (is : IsLoopAt place) (a : ℕ) → IsTrue (has (loop_at g place).entries a)
      → GoesAlong is.l.entries a
  entry_along place is a h = goes_along is.l.entries a ((is.of.entries a).0 (contains_of (loop_at g place).entries a h))

  back_along : (place : ℕ) (is : IsLoopAt place) (a : ℕ) → IsTrue (has (loop_at g place).back a) → GoesAlong is.l.back a
  back_along place is a h = goes_along is.l.back a ((is.of.back a).0 (contains_of (loop_at g place).back a h))

  -- an arc that leads to the head leads into the loop
  to_head : (place : ℕ) (is : IsLoopAt place) (a : ℕ) (arc : IsArc a) → arc.step.edge.to ≡ is.l.head → HasEdges u is.l
      → IsTrue (has (loop_at g place).members (arc_at g a).to)
  to_head place is a arc head edges =
      member_of place is (arc_at g a).to arc.step.edge.to arc.step.target (comes a arc)
      (subst (λ (n : ℕ). Contains is.l.members n) (sym head) edges.head)

  total_within : (l : ULoop) (o : Option ℕ) → IsTotalOf u addresses l o → IfSome o (λ k. k < length g.totals)
  total_within l _ (no_total absent) = tt
  total_within l _ (some_total count position present stands) =
      let less = slice_get_within addresses position _ stands in
      let long = ap (λ (t : List ℕ). length t) w.totals ∙ length-map addresses _ in
      omega (arith, less, long)

  is_loop : (place : ℕ) → place < length g.loops → IsLoop g (loop_at g place)
  is_loop place within =
      let is = loop_with place within in
      let loop = loop_at g place in
      let edges = known.edges is.l (listed u.loops is.number is.l is.stands) in
      record {
        members = all_of (λ v. v < length g.finish) loop.members
            (λ v c. let it = (is.of.members v).0 c in vertex_within v it.node it.vector it.is);
        entries = all_of (λ a. a < length g.arcs) loop.entries
            (λ a c. along_within is.l.entries a ((is.of.entries a).0 c));
        back = all_of (λ a. a < length g.arcs) loop.back
            (λ a c. along_within is.l.back a ((is.of.back a).0 c));
        from_outside = λ a h inside.
            let it = entry_along place is a h in
            edges.entered_from it.arc.arc.edge it.arc.step.edge it.along it.arc.step.stands
            (member_node place is (arc_at g a).from it.arc.step.edge.from it.arc.step.source (leaves a it.arc) inside);
        into = λ a h.
            let it = entry_along place is a h in
            to_head place is a it.arc
            (edges.entered_to it.arc.arc.edge it.arc.step.edge it.along it.arc.step.stands) edges;
        back_from = λ a h.
            let it = back_along place is a h in
            member_of place is (arc_at g a).from it.arc.step.edge.from it.arc.step.source (leaves a it.arc)
            (edges.back_from it.arc.arc.edge it.arc.step.edge it.along it.arc.step.stands);
        back_to = λ a h.
            let it = back_along place is a h in
            to_head place is a it.arc
            (edges.back_to it.arc.arc.edge it.arc.step.edge it.along it.arc.step.stands) edges;
        total = total_within is.l loop.total is.of.total;
      }

  -- ---- closed walks

  -- a walk over arcs is one over their edges
  edge_walk : (walk : List ℕ) (from to n k : ℕ) (v t : Vector) → IsWalk g from walk to
      → IsVertex f.vectors from n v → IsVertex f.vectors to k t
      → IsWalkFrom u n (map (edge_in w.arcs) walk) k
  edge_walk [] from to n k v t is start end =
      let there : IsVertex f.vectors to n v = subst (λ (x : ℕ). IsVertex f.vectors x n v) is start in
      subst (λ (x : ℕ). IsWalkFrom u n [] x) (one_node f.vectors to n k v t there end) (ends n)
  edge_walk (a ∷ walk) from to n k v t is start end =
      let arc = arc_with a is.0 in
      let rest = edge_walk walk (arc_at g a).to to arc.step.edge.to k arc.step.target t is.2 (comes a arc) end in
      let here : IsVertex f.vectors from arc.step.edge.from arc.step.source
      = subst (λ (x : ℕ). IsVertex f.vectors x arc.step.edge.from arc.step.source) is.1 (leaves a arc) in
      let stands : slice_get u.edges (edge_in w.arcs a) ≡ Some arc.step.edge
      = ap (λ (x : ℕ). slice_get u.edges x) (edge_is w.arcs a arc.arc arc.stands) ∙ arc.step.stands in
      subst (λ (x : ℕ). IsWalkFrom u x (edge_in w.arcs a ∷ map (edge_in w.arcs) walk) k)
      (one_node f.vectors from arc.step.edge.from n arc.step.source v here start)
      (goes (edge_in w.arcs a) arc.step.edge (map (edge_in w.arcs) walk) k stands rest)

  -- if the edges of arcs lie in a loop, the arcs are inside it
  in_loop : (walk : List ℕ) → ((a : ℕ) → Contains walk a → a < length g.arcs)
      → LiesInLoop u (map (edge_in w.arcs) walk) → HasLoop g walk
  unfolding loop_of
  in_loop walk within lies =
      let number : ℕ = lies.listed.0 in
      let stands : slice_get u.loops number ≡ Some lies.loop = stands_at u.loops lies.loop lies.listed in
      let c = (sorted.exact number).1 lies.listed.1 in
      let ordered : slice_get order c.0 ≡ Some number = stands_at order number c in
      let is = loop_of c.0 number lies.loop ordered stands in
      record {
        loop = c.0;
        within = omega (arith, c.1, w.loops.long);
        inside = all_of (λ a. IsTrue (has (loop_at g c.0).members (arc_at g a).from)) walk (λ a there.
            let arc = arc_with a (within a there) in
            let edge : slice_get u.edges (edge_in w.arcs a) ≡ Some arc.step.edge
            = ap (λ (x : ℕ). slice_get u.edges x) (edge_is w.arcs a arc.arc arc.stands) ∙ arc.step.stands in
            member_of c.0 is (arc_at g a).from arc.step.edge.from arc.step.source (leaves a arc)
            (lies.sources (edge_in w.arcs a) arc.step.edge (contains_mapped (edge_in w.arcs) walk a there) edge));
      }

  closed : (v a : ℕ) (walk : List ℕ) → IsWalk g v (a ∷ walk) v → HasLoop g (a ∷ walk)
  closed v a walk is =
      let arc = arc_with a is.0 in
      let node = arc.step.edge.from in
      let here : IsVertex f.vectors v node arc.step.source
      = subst (λ (x : ℕ). IsVertex f.vectors x node arc.step.source) is.1 (leaves a arc) in
      let along = edge_walk (a ∷ walk) v v node node arc.step.source arc.step.source is here here in
      in_loop (a ∷ walk) (λ b c. on_walk g (a ∷ walk) v v b is c)
      (known.closed node (edge_in w.arcs a) (map (edge_in w.arcs) walk) along)

  -- ---- two loops

  back_once : (l k a : ℕ) → l < length g.loops → k < length g.loops → IsTrue (has (loop_at g l).back a)
      → IsTrue (has (loop_at g k).back a) → l ≡ k
  back_once l k a less below one other =
      let is = loop_with l less in
      let it = loop_with k below in
      let along = back_along l is a one in
      let beside = back_along k it a other in
      let same = ap (λ (x : EdgeArc). x.edge)
      (one_element w.arcs a beside.arc.arc along.arc.arc beside.arc.stands along.arc.stands) in
      let edge : Contains it.l.back along.arc.arc.edge = subst (λ (x : ℕ). Contains it.l.back x) same beside.along in
      let number : is.number ≡ it.number
      = known.back is.number it.number along.arc.arc.edge is.l it.l is.stands it.stands along.along edge in
      one_place (IsLoopBefore u) order l k is.number sorted.ascending (not_before u is.number) is.ordered
      (it.ordered ∙ ap Some (sym number))

  no_larger : (i j : ℕ) (l k : ULoop) → slice_get u.loops i ≡ Some l → slice_get u.loops j ≡ Some k
      → IsLoopBefore u i j → length l.members ≤ length k.members
  no_larger i j l k e h before = elim (rw e at (rw h at before)) [
    | inl less ↦ omega arith
    | inr both ↦ let same : length l.members ≡ length k.members = both.0 in omega arith
  ]

  nested : (l k v x : ℕ) → l < k → k < length g.loops → IsTrue (has (loop_at g l).members v)
      → IsTrue (has (loop_at g k).members v)
      → IsTrue (has (loop_at g l).members x) → IsTrue (has (loop_at g k).members x)
  nested l k v x less below one other inner =
      let is = loop_with l (omega arith) in
      let it = loop_with k below in
      let shared = (is.of.members v).0 (contains_of (loop_at g l).members v one) in
      let there = member_node k it v shared.node shared.vector shared.is other in
      let size = no_larger is.number it.number is.l it.l is.stands it.stands
      (paired (IsLoopBefore u) order l k is.number it.number sorted.ascending less is.ordered it.ordered) in
      let within = known.within is.l it.l shared.node (listed u.loops is.number is.l is.stands)
      (listed u.loops it.number it.l it.stands)
      shared.inside there size in
      let member = (is.of.members x).0 (contains_of (loop_at g l).members x inner) in
      member_of k it x member.node member.vector member.is (within.members member.node member.inside)

  origin_within : (o : Option ℕ) → IsOrigin u order o → IfSome o (λ l. l < length g.loops)
  origin_within _ (no_origin absent) = tt
  origin_within _ (some_origin place number l ordered stands head) =
      omega (arith, slice_get_within order place number ordered, w.loops.long)

  pub graph_of : g.start < length g.finish → IsGraph g
  graph_of start = record {
    sources = source_within;
    targets = target_within;
    loops = is_loop;
    closed = closed;
    back_once = back_once;
    nested = nested;
    start = start;
    origin = origin_within g.origin w.origin;
  }

-- ---- the law

pub graph_is_sound : ClosedWalksLieInALoop → SmallerLoopsAreWithin → LoopsHaveEdges → UnfoldingsAreOverNodes
    → BackEdgesAreOfOneLoop → GraphIsSound
graph_is_sound walks within edges nodes back image facts entry m u classes f charges order addresses g memory program unfolds
    problem =
    let known : AreKnown u = record {
      edges = λ l c. edges image facts entry m u.program u l program.is unfolds c;
      within = λ l k node c d one other few.
          within image facts entry m u.program u l k node program.is unfolds c d one other few;
      back = λ i j number l k e h c d. back u.program u i j number l k unfolds e h c d;
      closed = λ node number walk is. walks image facts entry m u.program u node number walk memory program unfolds is;
    } in
    let less : first_vertex f.vectors u.start < length (pairs f.vectors)
    = start_is_vertex u m classes f (nodes u.program u unfolds).start problem.families in
    graph_of u m classes f charges order addresses g known problem.order_is problem.graph
    (omega (arith, less, problem.graph.start, problem.graph.finishes.long))
