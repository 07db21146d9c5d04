-- Diagrams in the table for the vectors of a certificate: the finish of a node's block, and the cost along each edge.
-- This project's own.
use Rattle.std.specs.Prelude.{◌≡◌, ℕ, ◌==◌, List, length, slice_get, Some}
use Rattle.std.specs.List.{filter}
use Rattle.wx_base.specs.declared.machine.Machine.{Machine}
use Rattle.wx_base.specs.Blocks.{exit_from, finish_from}
use Rattle.xdd_table.specs.declared.node.Dd.{Dd}
use Rattle.xdd_table.specs.declared.node.Node.{Node}
use Rattle.xdd_table.specs.Diagram.{Combination, time}
use Rattle.flow_block.specs.declared.block.Block.{Block}
use Rattle.flow_block.specs.Blocks.{most_slots}
use Rattle.flow_ctx.specs.declared.unfolded.Edge.{Edge}
use Rattle.flow_ctx.specs.declared.unfolded.Unfolded.{Unfolded}
use Rattle.flow_ctx.specs.Nodes.{IsBlockOf}
use Rattle.pipe_block.specs.Events.{entries_of}
use Rattle.pipe_block.specs.Times.{IsDiagram}
use Rattle.cert_text.specs.declared.certificate.CertVector.{CertVector}

-- something holds of each element of a list, its place, and the element of another list at that place
pub record Along {A B : Type 0} (P : ℕ → A → B → Type 0) (xs : List A) (ys : List B) : Type 0 where
  pub each : (place : ℕ) (x : A) (y : B) → slice_get xs place ≡ Some x → slice_get ys place ≡ Some y → P place x y

-- the second list has one element for each of the first, of which this holds
pub record ForEach {A B : Type 0} (P : ℕ → A → B → Type 0) (xs : List A) (ys : List B) : Type 0 where
  pub long : length ys ≡ length xs
  pub along : Along P xs ys

-- a diagram that has, at each combination, the finish of a node's block from a vector
pub record IsFinish (nodes : List Node) (u : Unfolded) (m : Machine) (node : ℕ) (v : CertVector) (d : Dd) : Type 0 where
  pub diagram : IsDiagram nodes most_slots d
  pub each : (block : Block) (f : Combination) → IsBlockOf u node block
      → time nodes f d.place ≡ finish_from m v.slots.slots (entries_of block f)

-- a diagram that has, at each combination, the cost of the exit along an edge from a vector
pub record IsCost (nodes : List Node) (u : Unfolded) (m : Machine) (v : CertVector) (edge : Edge) (d : Dd) : Type 0 where
  pub diagram : IsDiagram nodes most_slots d
  pub each : (block : Block) (f : Combination) → IsBlockOf u edge.from block
      → time nodes f d.place ≡ (exit_from m v.slots.slots (entries_of block f) edge.taken).cost

-- the edges that leave a node, in their order
abbrev pub edges_of : Unfolded → ℕ → List Edge
edges_of u node = filter (λ edge. edge.from == node) u.edges

-- a finish for each vector of a node
abbrev pub AreNodeFinishes : List Node → Unfolded → Machine → ℕ → List CertVector → List Dd → Type 0
AreNodeFinishes nodes u m node family finishes = ForEach (λ place v d. IsFinish nodes u m node v d) family finishes

-- a finish for each vector of each node
abbrev pub AreFinishes : List Node → Unfolded → Machine → List (List CertVector) → List (List Dd) → Type 0
AreFinishes nodes u m families finishes =
    ForEach (λ node family of_node. AreNodeFinishes nodes u m node family of_node) families finishes

-- a cost along each edge of a node from a vector
abbrev pub AreVectorCosts : List Node → Unfolded → Machine → ℕ → CertVector → List Dd → Type 0
AreVectorCosts nodes u m node v costs = ForEach (λ place edge d. IsCost nodes u m v edge d) (edges_of u node) costs

-- such costs for each vector of a node
abbrev pub AreNodeCosts : List Node → Unfolded → Machine → ℕ → List CertVector → List (List Dd) → Type 0
AreNodeCosts nodes u m node family costs = ForEach (λ place v of_vector. AreVectorCosts nodes u m node v of_vector) family costs

-- such costs for each vector of each node
abbrev pub AreCosts : List Node → Unfolded → Machine → List (List CertVector) → List (List (List Dd)) → Type 0
AreCosts nodes u m families costs = ForEach (λ node family of_node. AreNodeCosts nodes u m node family of_node) families costs
