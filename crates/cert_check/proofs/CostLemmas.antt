-- The costs along a node's edges, one edge after the other.
use Rattle.std.proofs.Common.{◌≡◌, ℕ, ◌+◌, ◌<◌, ◌≤◌, List, [], ◌∷◌, ◌++◌, length, slice_get, Some, sym, ap, subst, ◌∙◌, inl, inr, arith}
use Rattle.std.proofs.lemmas.Bool.{cases_lt}
use Rattle.std.proofs.lemmas.Option.{same_Some, slice_get_within}
use Rattle.wx_base.specs.declared.machine.Machine.{Machine}
use Rattle.xdd_table.specs.declared.node.Dd.{Dd}
use Rattle.xdd_table.specs.declared.node.Node.{Node}
use Rattle.xdd_table.specs.Diagram.{Keeps}
use Rattle.flow_ctx.specs.declared.unfolded.Edge.{Edge}
use Rattle.flow_ctx.specs.declared.unfolded.Unfolded.{Unfolded}
use Rattle.cache_class.specs.declared.class.Classes.{Classes}
use Rattle.cert_text.specs.declared.certificate.CertVector.{CertVector}
use Rattle.cert_text.specs.declared.certificate.Certificate.{Certificate}
use Rattle.cert_check.specs.Judging.{IsRange, VectorPaysEdge, VectorPaysEdges}
use Rattle.cert_check.specs.Places.{AreVectorCosts, IsCost}
use Rattle.cert_check.proofs.ListLemmas.{along_range, appended}
use Rattle.cert_check.proofs.StayLemmas.{cost_stays}

-- what the costs of the edges from the first on are, as far as there are any
abbrev pub AreCostsFrom : List Node → Unfolded → Machine → CertVector → ℕ → List Dd → Type 0
AreCostsFrom nodes u m v first costs = (k : ℕ) (e : Edge) (d : Dd) → slice_get u.edges (first + k) ≡ Some e → slice_get costs k ≡ Some d → IsCost nodes u m v e d

pub costs_none : (nodes : List Node) (u : Unfolded) (m : Machine) (v : CertVector) (first : ℕ) → AreCostsFrom nodes u m v first []
costs_none nodes u m v first k e d at there = absurd (omega (arith, slice_get_within [] k d there))

pub costs_more : (old new : List Node) → Keeps old new → (u : Unfolded) (m : Machine) (v : CertVector) (first number : ℕ) (edge : Edge) (cost : Dd) (costs more : List Dd)
    → first + length costs ≡ number → slice_get u.edges number ≡ Some edge → IsCost new u m v edge cost → more ≡ costs ++ cost ∷ []
    → AreCostsFrom old u m v first costs → AreCostsFrom new u m v first more
costs_more old new kept u m v first number edge cost costs more long at is grown before k e d here there =
    elim (appended costs cost d k (subst (λ (xs : List Dd). slice_get xs k ≡ Some d) grown there)) [
      | inl h ↦ cost_stays old new kept u m v e d (before k e d here h)
      | inr h ↦
          let place : number ≡ first + k = omega (arith, long, h.0) in
          let same : edge ≡ e = same_Some edge e (sym at ∙ (ap (λ i. slice_get u.edges i) place ∙ here)) in
          rw (← same, ← h.1) is
    ]

pub costs_all : (nodes : List Node) (u : Unfolded) (m : Machine) (node : ℕ) (v : CertVector) (first end : ℕ) (costs : List Dd) → IsRange u.edges node first end
    → first + length costs ≡ end → AreCostsFrom nodes u m v first costs → AreVectorCosts nodes u m node v costs
costs_all nodes u m node v first end costs r long all = along_range (λ e d. IsCost nodes u m v e d) u.edges node first end costs r long all

-- the vector pays for one edge more, and for all of the node
module _ (u : Unfolded) (m : Machine) (classes : Classes) (c : Certificate) where
  pub edges_more : (v : CertVector) (first number : ℕ) → VectorPaysEdge u m classes c v number
      → ((k : ℕ) → first ≤ k → k < number → VectorPaysEdge u m classes c v k) → (k : ℕ) → first ≤ k → k < number + 1 → VectorPaysEdge u m classes c v k
  edges_more v first number pays before k g l = elim (cases_lt k number) [
    | inl less ↦ before k g less
    | inr more ↦ let same : number ≡ k = omega (arith, l, more) in subst (λ n. VectorPaysEdge u m classes c v n) same pays
  ]

  pub edges_all : (node : ℕ) (v : CertVector) (first end : ℕ) → IsRange u.edges node first end
      → ((k : ℕ) → first ≤ k → k < end → VectorPaysEdge u m classes c v k) → VectorPaysEdges u m classes c node v
  edges_all node v first end r all = record {
    each = λ number edge at from. elim (cases_lt number first) [
      | inl less ↦ absurd (omega (arith, r.before number edge less at, from))
      | inr g ↦ elim (cases_lt number end) [
        | inl l ↦ all number g l
        | inr beyond ↦ absurd (omega (arith, r.after number edge beyond at, from))
      ]
    ];
  }
