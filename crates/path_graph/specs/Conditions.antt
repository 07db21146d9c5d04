-- What the path problem asks of a graph. This project's own; that loops are disjoint or nested is usual of the loops of programs.
use Rattle.std.specs.Prelude.{◌≡◌, ℕ, ◌^◌, ◌<◌, ◌≤◌, ◌∷◌, List, length, slice_index, ℤ, pos, ◌+ℤ◌, ◌≤ℤ◌}
use Rattle.std.specs.Prelude.{IsTrue, IfSome}
use Rattle.std.specs.List.{All}
use Rattle.path_graph.specs.declared.graph.Graph.{Graph}
use Rattle.path_graph.specs.declared.graph.LoopArcs.{LoopArcs}
use Rattle.path_graph.specs.declared.graph.LoopPrices.{LoopPrices}
use Rattle.path_graph.specs.declared.graph.TheConstants.{LARGEST}
use Rattle.path_graph.specs.Graph.{has, arc_at, loop_at, finish_at, IsWalk, IsInside}

-- the numbers in a loop are those of vertices and arcs, entries lead in from outside, and back arcs stay inside
pub record IsLoop (g : Graph) (l : LoopArcs) : Type 0 where
  pub members : All (λ v. v < length g.finish) l.members
  pub entries : All (λ a. a < length g.arcs) l.entries
  pub back : All (λ a. a < length g.arcs) l.back
  pub from_outside : (a : ℕ) → IsTrue (has l.entries a) → IsTrue (has l.members (arc_at g a).from) → ⊥
  pub into : (a : ℕ) → IsTrue (has l.entries a) → IsTrue (has l.members (arc_at g a).to)
  pub back_from : (a : ℕ) → IsTrue (has l.back a) → IsTrue (has l.members (arc_at g a).from)
  pub back_to : (a : ℕ) → IsTrue (has l.back a) → IsTrue (has l.members (arc_at g a).to)
  pub total : IfSome l.total (λ k. k < length g.totals)

-- a loop that has all arcs of a closed walk
pub record HasLoop (g : Graph) (walk : List ℕ) : Type 0 where
  pub loop : ℕ
  pub within : loop < length g.loops
  pub inside : IsInside g (loop_at g loop) walk

-- arcs lead from vertices to vertices, each closed walk is inside a loop, and loops are apart or nested, the inner one earlier
pub record IsGraph (g : Graph) : Type 0 where
  pub sources : (a : ℕ) → a < length g.arcs → (arc_at g a).from < length g.finish
  pub targets : (a : ℕ) → a < length g.arcs → (arc_at g a).to < length g.finish
  pub loops : (l : ℕ) → l < length g.loops → IsLoop g (loop_at g l)
  pub closed : (v a : ℕ) (walk : List ℕ) → IsWalk g v (a ∷ walk) v → HasLoop g (a ∷ walk)
  pub back_once : (l m a : ℕ) → l < length g.loops → m < length g.loops → IsTrue (has (loop_at g l).back a)
      → IsTrue (has (loop_at g m).back a) → l ≡ m
  pub nested : (l m u v : ℕ) → l < m → m < length g.loops → IsTrue (has (loop_at g l).members u)
      → IsTrue (has (loop_at g m).members u) → IsTrue (has (loop_at g l).members v) → IsTrue (has (loop_at g m).members v)
  pub start : g.start < length g.finish
  pub origin : IfSome g.origin (λ l. l < length g.loops)

-- a number is at most another from 0, to either side
pub record IsWithin (bound : ℕ) (z : ℤ) : Type 0 where
  pub low : pos 0 ≤ℤ (z +ℤ pos bound)
  pub high : z ≤ℤ pos bound

-- the sizes and numbers up to which the path problem is solved
pub record IsBounded (g : Graph) : Type 0 where
  pub vertices : length g.finish ≤ 2 ^ 18
  pub loops : length g.loops ≤ 2 ^ 16
  pub weights : (a : ℕ) → a < length g.arcs → IsWithin (2 ^ 80) (arc_at g a).weight
  pub finishes : (v : ℕ) → v < length g.finish → IsWithin (2 ^ 80) (finish_at g v)
  pub maxcounts : (l : ℕ) → l < length g.loops → (loop_at g l).maxcount < 2 ^ 32
  pub totals : (k : ℕ) → k < length g.totals → slice_index g.totals k < 2 ^ 32

-- a price for each loop and each total
pub record HasPrices (g : Graph) (prices : LoopPrices) : Type 0 where
  pub loops : length prices.loops ≡ length g.loops
  pub totals : length prices.totals ≡ length g.totals

-- each price is at most the greatest one
pub record AreBounded (prices : LoopPrices) : Type 0 where
  pub loops : All (λ p. p ≤ LARGEST) prices.loops
  pub totals : All (λ p. p ≤ LARGEST) prices.totals
