-- The edges into each node. This project's own.
use Rattle.std.specs.Prelude.{◌≡◌, ◌↔◌, ℕ, ◌<◌, List, length, map, Contains, slice_get, Some}
use Rattle.std.specs.Global.{Vec}
use Rattle.flow_ctx.specs.declared.unfolded.Edge.{Edge}

-- the numbers in each list
abbrev pub lists_of : List (Vec ℕ) → List (List ℕ)
lists_of lists = map (λ list. list.items) lists

-- an edge into a node, by its number, which is below a bound
pub record IsEdgeInto (edges : List Edge) (bound node number : ℕ) : Type 0 where
  pub edge : Edge
  pub below : number < bound
  pub stands : slice_get edges number ≡ Some edge
  pub comes : edge.to ≡ node

-- for each of so many nodes the numbers of the edges into it, of those below a bound
pub record AreIncoming (edges : List Edge) (count bound : ℕ) (lists : List (List ℕ)) : Type 0 where
  pub long : length lists ≡ count
  pub exact : (node : ℕ) (list : List ℕ) → slice_get lists node ≡ Some list → (number : ℕ) → Contains list number ↔ IsEdgeInto edges bound node number
