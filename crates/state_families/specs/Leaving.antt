-- What the edges of a node hand on from a vector, as answers of a memo and as lists of slots. This project's own.
use Rattle.std.specs.Prelude.{◌≡◌, ℕ, ◌<◌, List, Contains, slice_get, Some}
use Rattle.wx_base.specs.declared.machine.Machine.{Machine}
use Rattle.xdd_table.specs.declared.node.Node.{Node}
use Rattle.xdd_table.specs.Diagram.{Combination, time}
use Rattle.flow_block.specs.declared.block.Block.{Block}
use Rattle.flow_ctx.specs.declared.unfolded.Edge.{Edge}
use Rattle.flow_ctx.specs.declared.unfolded.Unfolded.{Unfolded}
use Rattle.flow_ctx.specs.Nodes.{IsBlockOf}
use Rattle.pipe_block.specs.declared.diagrams.Leaving.{Leaving}
use Rattle.pipe_block.specs.declared.diagrams.Outcome.{Outcome}
use Rattle.pipe_block.specs.Leavings.{IsLeavingAt}
use Rattle.cache_class.specs.declared.class.Class.{Class}
use Rattle.cache_class.specs.declared.class.Classes.{Classes}
use Rattle.cache_class.specs.Allowed.{IsAllowed}
use Rattle.state_families.specs.Families.{IsExitOf, IsListedAt}

-- the number stands for what an edge hands on from a vector of its source
pub record IsLeft (nodes : List Node) (leavings : List Leaving) (u : Unfolded) (m : Machine) (edge : Edge) (source : List ℕ) (number : ℕ) : Type 0 where
  pub each : (block : Block) → IsBlockOf u edge.from block → IsLeavingAt nodes leavings m source block edge.taken number

-- the slots are those of the outcome at a combination that classes allow
pub record IsAllowedExit (nodes : List Node) (classes : List Class) (l : Leaving) (slots : List ℕ) : Type 0 where
  pub f : Combination
  pub outcome : Outcome
  pub allowed : IsAllowed classes f
  pub stands : slice_get l.list (time nodes f l.place.place) ≡ Some outcome
  pub is : slots ≡ outcome.vector.slots

-- the slots are those of the outcome at a position that stands in a pair, before a place among the pairs
pub record IsPicked (pairs : List (ℕ × ℕ)) (outcomes : List Outcome) (bound : ℕ) (slots : List ℕ) : Type 0 where
  pub place : ℕ
  pub pair : ℕ × ℕ
  pub outcome : Outcome
  pub before : place < bound
  pub listed : slice_get pairs place ≡ Some pair
  pub stands : slice_get outcomes pair.0 ≡ Some outcome
  pub is : slots ≡ outcome.vector.slots

-- the slots are those of an exit along an edge from one of some vectors
pub record IsExitFrom (u : Unfolded) (m : Machine) (classes : Classes) (edge : Edge) (sources : List (List ℕ)) (slots : List ℕ) : Type 0 where
  pub source : List ℕ
  pub listed : Contains sources source
  pub exits : IsExitOf u m classes edge source slots

-- the slots are those of an exit along one of some edges, by their numbers, from a vector that is new at the edge's source
pub record IsExitAmong (u : Unfolded) (m : Machine) (classes : Classes) (numbers : List ℕ) (fresh : List (List (List ℕ))) (slots : List ℕ) : Type 0 where
  pub number : ℕ
  pub edge : Edge
  pub among : Contains numbers number
  pub stands : slice_get u.edges number ≡ Some edge
  pub source : List ℕ
  pub listed : IsListedAt fresh edge.from source
  pub exits : IsExitOf u m classes edge source slots
