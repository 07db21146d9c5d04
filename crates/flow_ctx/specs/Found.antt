-- How the nodes that are reached are looked for. This project's own.
use Rattle.std.specs.Prelude.{◌≡◌, ◌<◌, ◌≤◌, ℕ, List, ◌++◌, All, AllPairs, Any, Contains, length, map}
use Rattle.flow_graph.specs.declared.program.Program.{Program}
use Rattle.flow_ctx.specs.declared.place.Place.{Place}
use Rattle.flow_ctx.specs.declared.target.Target.{Target}
use Rattle.flow_ctx.specs.declared.unfolded.UNode.{UNode}
use Rattle.flow_ctx.specs.Nodes.{IsReached, IsStart}
use Rattle.flow_ctx.specs.Order.{IsNodeBefore}
use Rattle.flow_ctx.specs.Targets.{node_of}

-- the nodes that some places are
abbrev pub nodes_of : List Place → List UNode
nodes_of places = map node_of places

-- no node stands twice
abbrev pub AreDifferent : List UNode → Type 0
AreDifferent nodes = AllPairs (λ n m. n ≡ m → ⊥) nodes

-- behind the places of before stand those among some targets that were not there
pub record IsGrown (targets : List Target) (old new : List Place) : Type 0 where
  pub added : List Place
  pub is : new ≡ old ++ added
  pub among : All (λ p. Any (λ t. node_of t.place ≡ node_of p) targets) added
  pub there : All (λ t. Contains (nodes_of new) (node_of t.place)) targets

-- exactly the nodes that are reached
pub record AreFoundIn (program : Program) (nodes : List UNode) : Type 0 where
  pub each : All (λ n. IsReached program n) nodes
  pub whole : (node : UNode) → IsReached program node → Contains nodes node
