-- How the edges between nodes are found.
use Rattle.std.proofs.Common.{◌≡◌, ℕ, zero, suc, ◌+◌, ◌<◌, ◌≤◌, ◌⊎◌, Bool, true, false, List, [], ◌∷◌, ◌++◌, length, get_or, slice_get, take, Some, refl, sym, ap, ◌∙◌, subst, inl, inr, arith}
use Rattle.std.specs.List.{All, AllPairs, Any, Contains, IsDistinct, list_any}
use Rattle.std.specs.List.Sorted.{IsPermutation, IsSorted}
use Rattle.std.proofs.lemmas.List.Sorted.{Contains-permutation, IsPermutation-sym}
use Rattle.std.proofs.lemmas.Bool.{cases_lt}
use Rattle.std.proofs.lemmas.List.{take_more}
use Rattle.std.proofs.lemmas.List.Elements.{All-contains, All-nil, All-push, All-weaker, Contains-append_left, Contains-get_or, Contains-push, Contains-push_cases}
use Rattle.std.proofs.lemmas.Option.{same_Some, slice_get_within}
use Rattle.indexmap.specs.IndexSet.{insert_key}
use Rattle.indexmap.proofs.CallerLemmas.{Contains-insert_key}
use Rattle.flow_graph.specs.declared.program.Program.{Program}
use Rattle.flow_ctx.specs.declared.target.Target.{Target}
use Rattle.flow_ctx.specs.declared.unfolded.Edge.{Edge}
use Rattle.flow_ctx.specs.declared.unfolded.UNode.{UNode}
use Rattle.flow_ctx.specs.Edges.{AddsEdges, AreEdgesFrom, IsEdgeTo}
use Rattle.flow_ctx.specs.Nodes.{IsReached, Leads, along}
use Rattle.flow_ctx.specs.Targets.{AreTargets, node_of}
use Rattle.flow_ctx.specs.Unfolding.{AreEdges, AreNodes, IsEdge}
use Rattle.flow_ctx.specs.Order.{IsEdgeBefore}
use Rattle.flow_ctx.proofs.OrderLemmas.{edge_through, sorted_ascends}
use Rattle.flow_ctx.proofs.NumberLemmas.{node_once}
use Rattle.flow_ctx.proofs.PlaceLemmas.{edge_before, edge_cmp, edge_eq, edge_same}
use Rattle.flow_ctx.proofs.TargetLemmas.{any_left}

nothing_there : {X : Type 0} (x : X) → Contains [] x → ⊥
nothing_there x c = omega (arith, c.1)

insert_kept : (old : List Edge) (k e : Edge) → Contains old e → Contains (insert_key edge_eq old k) e
insert_kept old k e c = by (list_any (edge_eq k) old) refl
  where
    by : (b : Bool) → list_any (edge_eq k) old ≡ b → Contains (insert_key edge_eq old k) e
    by true h = rw h c
    by false h = rw h (Contains-append_left old (k ∷ []) e c)

insert_cases : (old : List Edge) (k e : Edge) → Contains (insert_key edge_eq old k) e → Contains old e ⊎ (k ≡ e)
insert_cases old k e = by (list_any (edge_eq k) old) refl
  where
    by : (b : Bool) → list_any (edge_eq k) old ≡ b → Contains (insert_key edge_eq old k) e → Contains old e ⊎ (k ≡ e)
    by true h = rw h (λ c. inl c)
    by false h = rw h (λ c. Contains-push_cases old k e c)

module _ (nodes : List UNode) (from : ℕ) where
  pub adds_nothing : (old : List Edge) → AddsEdges nodes from [] old old
  adds_nothing old = record { kept = λ e c. c; among = λ e c. inl c; there = All-nil (λ t. Any (λ e. IsEdgeTo nodes from t e) old) }

  pub adds_edge : (targets : List Target) (i : ℕ) (d : Target) (old cur after : List Edge) (e : Edge) → i < length targets
      → AddsEdges nodes from (take i targets) old cur → IsEdgeTo nodes from (get_or targets i d) e → after ≡ insert_key edge_eq cur e
      → AddsEdges nodes from (take (i + 1) targets) old after
  adds_edge targets i d old cur after e within a to is = subst (λ (l : List Target). AddsEdges nodes from l old after) (sym (take_more targets i d within))
      (subst (λ (l : List Edge). AddsEdges nodes from (take i targets ++ get_or targets i d ∷ []) old l) (sym is) (record {
        kept = λ x c. insert_kept cur e x (a.kept x c);
        among = λ x c. elim (insert_cases cur e x c) [
          | inl b ↦ elim (a.among x b) [
            | inl o ↦ inl o
            | inr t ↦ inr (any_left (λ t. IsEdgeTo nodes from t x) (take i targets) (get_or targets i d ∷ []) t)
          ]
          | inr s ↦ inr (last (take i targets) (get_or targets i d) x (subst (λ (y : Edge). IsEdgeTo nodes from (get_or targets i d) y) s to))
        ];
        there = All-push (λ t. Any (λ x. IsEdgeTo nodes from t x) (insert_key edge_eq cur e)) (take i targets) (get_or targets i d)
            (All-weaker (λ t. Any (λ x. IsEdgeTo nodes from t x) cur) (λ t. Any (λ x. IsEdgeTo nodes from t x) (insert_key edge_eq cur e))
            (λ t x. let c = insert_kept cur e x.1 (x.0, x.2, x.3) in (c.0, x.1, c.1, c.2, x.4)) (take i targets) a.there)
            (let c = Contains-insert_key edge_eq edge_same cur e in (c.0, e, c.1, c.2, to));
      }))
    where
      last : (ts : List Target) (t : Target) (x : Edge) → IsEdgeTo nodes from t x → Any (λ t. IsEdgeTo nodes from t x) (ts ++ t ∷ [])
      last ts t x h = let c = Contains-push ts t in (c.0, t, c.1, c.2, h)

module _ (program : Program) (nodes : List UNode) (are : AreNodes program nodes) where
  pub no_edges : AreEdgesFrom program nodes 0 []
  no_edges = record { each = λ e c. absurd (nothing_there e c); whole = λ e i h. absurd (omega (arith, h)) }

  -- what a node that is reached leads to is among the nodes
  pub targets_there : (from : UNode) (targets : List Target) → IsReached program from → AreTargets program from targets
      → All (λ t. Contains nodes (node_of t.place)) targets
  targets_there from targets r ts = All-weaker (λ t. Leads program from t.taken (node_of t.place)) (λ t. Contains nodes (node_of t.place))
      (λ t l. are.whole (node_of t.place) (along from t.taken (node_of t.place) r l)) targets ts.each

  pub edges_more : (i : ℕ) (from : UNode) (targets : List Target) (old new : List Edge) → AreEdgesFrom program nodes i old → slice_get nodes i ≡ Some from
      → AreTargets program from targets → AddsEdges nodes i targets old new → AreEdgesFrom program nodes (i + 1) new
  edges_more i from targets old new es is ts a = record {
    each = λ e c. elim (a.among e c) [
      | inl o ↦ let k = es.each e o in (k.0, omega (arith, k.1))
      | inr t ↦ (
        record {
          source = from;
          target = node_of t.1.place;
          from = ap (slice_get nodes) t.4.source ∙ is;
          to = t.4.leads;
          leads = subst (λ (b : Bool). Leads program from b (node_of t.1.place)) (sym t.4.taken) (All-contains (λ t. Leads program from t.taken (node_of t.place)) targets t.1 ts.each (t.0, t.2, t.3));
        },
        omega (arith, t.4.source),
      )
    ];
    whole = λ e k below. elim (cases_lt e.from i) [
      | inl less ↦ a.kept e (es.whole e k less)
      | inr more ↦
          let at : e.from ≡ i = omega arith in
          let own : k.source ≡ from = same_Some k.source from (sym k.from ∙ ap (slice_get nodes) at ∙ is) in
          let t = ts.whole e.taken k.target (subst (λ (n : UNode). Leads program n e.taken k.target) own k.leads) in
          let f = All-contains (λ t. Any (λ x. IsEdgeTo nodes i t x) new) targets t.1 a.there (t.0, t.2, t.3) in
          let to : f.1.to ≡ e.to = node_once nodes f.1.to e.to k.target are.ascending (f.4.leads ∙ ap (λ (n : UNode). Some n) t.4.1) k.to in
          let source : f.1.from ≡ e.from = f.4.source ∙ sym at in
          let taken : f.1.taken ≡ e.taken = f.4.taken ∙ t.4.0 in
          let one : f.1 ≡ e = (λ j. record { from = source j; to = to j; taken = taken j }) in
          subst (λ (x : Edge). Contains new x) one (f.0, f.2, f.3)
    ];
  }

  -- sorted edges from all nodes are the edges
  pub edges_sorted : (count : ℕ) (old new : List Edge) → length nodes ≡ count → AreEdgesFrom program nodes count old → IsPermutation old new
      → IsSorted edge_cmp new → IsDistinct edge_eq new → AreEdges program nodes new
  edges_sorted count old new is es moved sorted distinct = record {
    ascending = sorted_ascends edge_cmp edge_eq IsEdgeBefore edge_through new sorted distinct
        (λ k d h low other. edge_before (get_or new k d) (get_or new (suc k) d) low other);
    each = λ k d within. (es.each (get_or new k d) (Contains-permutation new old (get_or new k d) (IsPermutation-sym old new moved) (Contains-get_or new k d within))).0;
    whole = λ e k. Contains-permutation old new e moved (es.whole e k (omega (arith, is, slice_get_within nodes e.from k.source k.from)));
  }
