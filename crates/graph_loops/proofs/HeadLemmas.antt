-- A path without heads is one of forward edges.
use Rattle.std.proofs.Common.{ℕ, List, []}
use Rattle.std.specs.List.{Contains}
use Rattle.wx_base.specs.Paths.{Path, IsHead, IsForward, ForwardPath}
use Rattle.wx_base.specs.Paths.Path.{here, further}
use Rattle.wx_base.specs.Paths.ForwardPath.{one, more}
use Rattle.graph_loops.specs.Graph.{edges}
use Rattle.graph_loops.specs.Laws.{HeadsCutCycles}
use Rattle.graph_loops.proofs.Places.{none_there}
use Rattle.graph_loops.proofs.PathLemmas.{one_more}

module _ (leads : ℕ → List ℕ) (entry : ℕ) (heads : List ℕ) (all : (head : ℕ) → IsHead leads entry head → Contains heads head) where
  forward : (a b : ℕ) → Path leads [] entry a → Contains (leads a) b → (Contains heads b → ⊥) → IsForward leads entry a b
  forward a b reached edge free = record { reached = reached; edge = edge; forward = λ k. free (all b (record { source = a; back = k })) }

  along : {b c : ℕ} (a : ℕ) → Path leads [] entry a → Contains (leads a) b → Path leads heads b c → ForwardPath leads entry a c
  along a reached edge (here b n) = one (forward a b reached edge n)
  along {b} a reached edge (further n e p) = more (forward a b reached edge n) (along b (one_more leads [] reached edge (none_there b)) e p)

pub cut : HeadsCutCycles
cut lists entry heads reducible all v w reached edge path = reducible.acyclic v (along (edges lists) entry heads all v reached edge path)
