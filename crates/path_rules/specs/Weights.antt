-- The graph of an unfolding, for the vectors of its nodes and charges: what walks over pairs of a node and a vector come to at most is
-- what walks over the graph come to. This project's own.
use Rattle.std.specs.Prelude.{◌≡◌, ◌⊎◌, ℕ, ◌<◌, List, AllPairs, length, map, slice_get, Some, ℤ}
use Rattle.wx_base.specs.declared.machine.Machine.{Machine}
use Rattle.flow_ctx.specs.declared.unfolded.Unfolded.{Unfolded}
use Rattle.cache_class.specs.declared.class.Classes.{Classes}
use Rattle.cert_text.specs.declared.certificate.Charge.{Charge}
use Rattle.state_families.specs.declared.family_set.FamilySet.{FamilySet}
use Rattle.path_graph.specs.declared.graph.Graph.{Graph}
use Rattle.path_rules.specs.declared.edge_arc.EdgeArc.{EdgeArc}
use Rattle.path_rules.specs.Pairs.{Pair, first_vertex, pairs}
use Rattle.path_rules.specs.Steps.{IsEnd, IsMost, IsStep}
use Rattle.path_rules.specs.Loops.{AreLoopsOf, IsOrigin, counts_of}

-- a finish for each vertex: the most that the end of a walk there weighs
pub record AreFinishes (u : Unfolded) (m : Machine) (classes : Classes) (f : FamilySet) (charges : List Charge) (finishes : List ℤ)
    : Type 0 where
  pub long : length finishes ≡ length (pairs f.vectors)
  pub each : (number : ℕ) (pair : Pair) (finish : ℤ) → slice_get (pairs f.vectors) number ≡ Some pair → slice_get finishes number ≡ Some finish
      → IsMost (IsEnd u m classes charges pair.node pair.vector) finish

-- arcs stand by edge, then by source, then by target
abbrev pub IsArcBefore : EdgeArc → EdgeArc → Type 0
IsArcBefore a b = (a.edge < b.edge)
    ⊎ ((a.edge ≡ b.edge) × ((a.arc.from < b.arc.from) ⊎ ((a.arc.from ≡ b.arc.from) × (a.arc.to < b.arc.to))))

-- some arc goes along an edge from one vertex to another
pub record HasArc (arcs : List EdgeArc) (edge from to : ℕ) : Type 0 where
  pub number : ℕ
  pub arc : EdgeArc
  pub stands : slice_get arcs number ≡ Some arc
  pub along : arc.edge ≡ edge
  pub leaves : arc.arc.from ≡ from
  pub comes : arc.arc.to ≡ to

-- One arc for each edge and two vertices between which there is a step along it, with the most that such a step weighs.
pub record AreArcs (u : Unfolded) (m : Machine) (classes : Classes) (f : FamilySet) (charges : List Charge) (arcs : List EdgeArc)
    : Type 0 where
  pub ascending : AllPairs IsArcBefore arcs
  pub each : (number : ℕ) (a : EdgeArc) → slice_get arcs number ≡ Some a
      → IsMost (IsStep u m classes f charges a.edge a.arc.from a.arc.to) a.arc.weight
  pub whole : (edge from to : ℕ) (weight : ℤ) → IsStep u m classes f charges edge from to weight → HasArc arcs edge from to

-- The graph, where `order` has the numbers of the loops in the graph's order, and `addresses` the heads of those that have a total.
pub record AreWeights (u : Unfolded) (m : Machine) (classes : Classes) (f : FamilySet) (charges : List Charge) (order addresses : List ℕ)
    (g : Graph) : Type 0 where
  pub arcs : List EdgeArc
  pub are : AreArcs u m classes f charges arcs
  pub finishes : AreFinishes u m classes f charges g.finish
  pub plain : g.arcs ≡ map (λ a. a.arc) arcs
  pub loops : AreLoopsOf u f.vectors arcs order addresses g.loops
  pub totals : g.totals ≡ counts_of u addresses
  pub start : g.start ≡ first_vertex f.vectors u.start
  pub origin : IsOrigin u order g.origin
