-- The loops of the graph of an unfolding, in an order in which inner ones come before outer ones, and its totals. This project's own.
use Rattle.std.specs.Prelude.{◌≡◌, ◌⊎◌, ◌↔◌, ℕ, ◌<◌, List, AllPairs, Contains, Option, Some, None, length, map, slice_get, slice_index}
use Rattle.std.specs.Option.{option_map_or}
use Rattle.wx_base.specs.Facts.{AreAscending}
use Rattle.pipe_time.specs.declared.vector.Vector.{Vector}
use Rattle.flow_ctx.specs.declared.unfolded.ULoop.{ULoop}
use Rattle.flow_ctx.specs.declared.unfolded.Unfolded.{Unfolded}
use Rattle.cert_rules.specs.Prices.{head_address, totalcounts_at}
use Rattle.path_graph.specs.declared.graph.LoopArcs.{LoopArcs}
use Rattle.path_rules.specs.declared.edge_arc.EdgeArc.{EdgeArc}
use Rattle.path_rules.specs.Pairs.{IsVertex}

-- how many members the loop with a number has
abbrev pub loop_size : Unfolded → ℕ → ℕ
loop_size u number = option_map_or (λ l. length l.members) (slice_get u.loops number) 0

-- loops stand by how many members they have, and those that have as many by their numbers
abbrev pub IsLoopBefore : Unfolded → ℕ → ℕ → Type 0
IsLoopBefore u a b = (loop_size u a < loop_size u b) ⊎ ((loop_size u a ≡ loop_size u b) × (a < b))

-- the numbers of all loops in this order
pub record IsLoopOrder (u : Unfolded) (order : List ℕ) : Type 0 where
  pub ascending : AllPairs (IsLoopBefore u) order
  pub count : length order ≡ length u.loops
  pub exact : (number : ℕ) → Contains order number ↔ (number < length u.loops)

-- the addresses of the heads of all loops that have a total, each once and ascending
pub record AreTotals (u : Unfolded) (addresses : List ℕ) : Type 0 where
  pub ascending : AreAscending addresses
  pub exact : (address : ℕ) → Contains addresses address ↔ (0 < length (totalcounts_at u address))

-- how many back edges of its loops each total allows in a whole run
abbrev pub counts_of : Unfolded → List ℕ → List ℕ
counts_of u addresses = map (λ address. slice_index (totalcounts_at u address) 0) addresses

-- the position among the totals of the one that counts the back edges of a loop, if there is one
pub data IsTotalOf (u : Unfolded) (addresses : List ℕ) (l : ULoop) : Option ℕ → Type 0 where
  none : l.totalcount ≡ None → IsTotalOf u addresses l None
  one : (count position : ℕ) → l.totalcount ≡ Some count → slice_get addresses position ≡ Some (head_address u l)
      → IsTotalOf u addresses l (Some position)

-- the vertex is that of one of the nodes
pub record IsVertexIn (vectors : List (List Vector)) (nodes : List ℕ) (number : ℕ) : Type 0 where
  pub node : ℕ
  pub vector : Vector
  pub is : IsVertex vectors number node vector
  pub inside : Contains nodes node

-- the arc goes along one of the edges
pub record IsArcAlong (arcs : List EdgeArc) (edges : List ℕ) (number : ℕ) : Type 0 where
  pub arc : EdgeArc
  pub stands : slice_get arcs number ≡ Some arc
  pub along : Contains edges arc.edge

-- A loop of the graph: its vertices are those of the loop's members, its back arcs and entries go along the loop's back edges and
-- entries, and it has the loop's bounds.
pub record IsLoopOf (u : Unfolded) (vectors : List (List Vector)) (arcs : List EdgeArc) (addresses : List ℕ) (l : ULoop) (loop : LoopArcs)
    : Type 0 where
  pub members_ascend : AreAscending loop.members
  pub members : (vertex : ℕ) → Contains loop.members vertex ↔ IsVertexIn vectors l.members vertex
  pub back_ascends : AreAscending loop.back
  pub back : (arc : ℕ) → Contains loop.back arc ↔ IsArcAlong arcs l.back arc
  pub entries_ascend : AreAscending loop.entries
  pub entries : (arc : ℕ) → Contains loop.entries arc ↔ IsArcAlong arcs l.entries arc
  pub maxcount : loop.maxcount ≡ l.maxcount
  pub total : IsTotalOf u addresses l loop.total

-- the loops of the graph, in the order
pub record AreLoopsOf (u : Unfolded) (vectors : List (List Vector)) (arcs : List EdgeArc) (order addresses : List ℕ) (loops : List LoopArcs)
    : Type 0 where
  pub long : length loops ≡ length order
  pub each : (place number : ℕ) (l : ULoop) (loop : LoopArcs) → slice_get order place ≡ Some number → slice_get u.loops number ≡ Some l
      → slice_get loops place ≡ Some loop → IsLoopOf u vectors arcs addresses l loop

-- the place in the order of the loop that has the start as its head, if there is one
pub data IsOrigin (u : Unfolded) (order : List ℕ) : Option ℕ → Type 0 where
  none : ((number : ℕ) (l : ULoop) → slice_get u.loops number ≡ Some l → l.head ≡ u.start → ⊥) → IsOrigin u order None
  one : (place number : ℕ) (l : ULoop) → slice_get order place ≡ Some number → slice_get u.loops number ≡ Some l → l.head ≡ u.start
      → IsOrigin u order (Some place)
