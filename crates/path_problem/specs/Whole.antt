-- All arcs of a graph as links, and values as potentials. This project's own.
use Rattle.std.specs.Prelude.{◌≡◌, ℕ, ◌<◌, ◌≤◌, ◌^◌, false, List, length, slice_index, slice_index_or, ℤ, pos, ◌≤ℤ◌, ◌<ℤ◌}
use Rattle.std.specs.List.{All}
use Rattle.path_graph.specs.declared.graph.Graph.{Graph}
use Rattle.path_graph.specs.declared.graph.LoopPrices.{LoopPrices}
use Rattle.path_graph.specs.declared.graph.TheConstants.{LARGEST}
use Rattle.path_problem.specs.declared.net.Link.{Link}
use Rattle.path_graph.specs.Conditions.{IsWithin}
use Rattle.path_graph.specs.Graph.{arc_at}
use Rattle.path_problem.specs.Net.{link_at}
use Rattle.path_problem.specs.Weight.{full_weight}
use Rattle.path_problem.specs.Window.{weight_limit}

-- a link is the arc whose number it has, with its full weight
pub record IsArc (g : Graph) (prices : LoopPrices) (l : Link) : Type 0 where
  pub within : l.arc < length g.arcs
  pub from : l.from ≡ (arc_at g l.arc).from
  pub to : l.to ≡ (arc_at g l.arc).to
  pub weight : l.weight ≡ full_weight g prices l.arc
  pub small : IsWithin (weight_limit (2 ^ 16)) l.weight
  pub back : l.back ≡ false

-- an arc has a link
pub record HasLink (links : List Link) (a : ℕ) : Type 0 where
  pub place : ℕ
  pub within : place < length links
  pub is : (link_at links place).arc ≡ a

-- the links are all arcs with their full weights
pub record AreArcs (g : Graph) (prices : LoopPrices) (links : List Link) : Type 0 where
  pub each : All (IsArc g prices) links
  pub all : (a : ℕ) → a < length g.arcs → HasLink links a

-- values as natural numbers, none above the greatest potential
pub record AreNumbers (values : List ℤ) (numbers : List ℕ) : Type 0 where
  pub count : length numbers ≡ length values
  pub each : (v : ℕ) → v < length values → pos (slice_index numbers v) ≡ slice_index_or values v (pos 0)
  pub small : All (λ n. n ≤ LARGEST) numbers

-- the first value above the greatest potential
pub record IsFirstAbove (values : List ℤ) (v : ℕ) : Type 0 where
  pub within : v < length values
  pub above : pos LARGEST <ℤ slice_index_or values v (pos 0)
  pub first : (u : ℕ) → u < v → slice_index_or values u (pos 0) ≤ℤ pos LARGEST
