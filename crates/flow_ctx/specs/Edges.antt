-- How the edges between nodes are found. This project's own.
use Rattle.std.specs.Prelude.{◌≡◌, ◌<◌, ◌⊎◌, ℕ, List, ◌++◌, All, Any, Contains, slice_get, Some}
use Rattle.flow_graph.specs.declared.program.Program.{Program}
use Rattle.flow_ctx.specs.declared.target.Target.{Target}
use Rattle.flow_ctx.specs.declared.unfolded.Edge.{Edge}
use Rattle.flow_ctx.specs.declared.unfolded.UNode.{UNode}
use Rattle.flow_ctx.specs.Targets.{node_of}
use Rattle.flow_ctx.specs.Unfolding.{IsEdge}

-- the edge from a node to a target
pub record IsEdgeTo (nodes : List UNode) (from : ℕ) (target : Target) (edge : Edge) : Type 0 where
  pub source : edge.from ≡ from
  pub leads : slice_get nodes edge.to ≡ Some (node_of target.place)
  pub taken : edge.taken ≡ target.taken

-- behind the edges of before those from a node to some targets were added
pub record AddsEdges (nodes : List UNode) (from : ℕ) (targets : List Target) (old new : List Edge) : Type 0 where
  pub kept : (e : Edge) → Contains old e → Contains new e
  pub among : (e : Edge) → Contains new e → Contains old e ⊎ Any (λ t. IsEdgeTo nodes from t e) targets
  pub there : All (λ t. Any (λ e. IsEdgeTo nodes from t e) new) targets

-- exactly the edges from the first so many nodes
pub record AreEdgesFrom (program : Program) (nodes : List UNode) (count : ℕ) (edges : List Edge) : Type 0 where
  pub each : (e : Edge) → Contains edges e → IsEdge program nodes e × (e.from < count)
  pub whole : (e : Edge) → IsEdge program nodes e → e.from < count → Contains edges e
