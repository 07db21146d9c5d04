-- The edges of a graph by their targets, those that are back edges apart from the others. This project's own.
use Rattle.std.specs.Prelude.{◌≡◌, ℕ, ◌↔◌, Bool, false, List, [], ◌∷◌, length, slice_index_or, Contains}
use Rattle.wx_base.specs.Paths.{IsBackEdge, IsForward}
use Rattle.graph_loops.specs.declared.ways.Ways.{Ways}
use Rattle.graph_loops.specs.Graph.{lists_of, edges, AreReached}

-- all numbers are the same
pub record AreSame (vertices : List ℕ) : Type 0 where
  pub same : (u v : ℕ) → Contains vertices u → Contains vertices v → u ≡ v

-- those of some vertices that have a mark
pub record AreChosen (vertices : List ℕ) (marks : List Bool) (mark : Bool) (chosen : List ℕ) : Type 0 where
  pub exact : (v : ℕ) → Contains chosen v ↔ (Contains vertices v × (slice_index_or marks v false ≡ mark))

-- the sources of the forward edges into a vertex
pub record AreForwardInto (lists : List (List ℕ)) (entry v : ℕ) (sources : List ℕ) : Type 0 where
  pub exact : (u : ℕ) → Contains sources u ↔ IsForward (edges lists) entry u v

-- the sources of the back edges into a vertex
pub record AreBackInto (lists : List (List ℕ)) (entry v : ℕ) (sources : List ℕ) : Type 0 where
  pub exact : (u : ℕ) → Contains sources u ↔ IsBackEdge (edges lists) entry u v

-- what is reached from an entry, and for each vertex the sources of the forward edges and of the back edges into it
pub record AreWays (lists : List (List ℕ)) (ways : Ways) : Type 0 where
  pub body : AreReached lists [] (ways.entry ∷ []) ways.body.items
  pub forward_count : length (lists_of ways.forward.items) ≡ length lists
  pub forward : (v : ℕ) → AreForwardInto lists ways.entry v (edges (lists_of ways.forward.items) v)
  pub back_count : length (lists_of ways.back.items) ≡ length lists
  pub back : (v : ℕ) → AreBackInto lists ways.entry v (edges (lists_of ways.back.items) v)
