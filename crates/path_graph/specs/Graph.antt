-- Plain graphs: arcs, walks along them, and what a walk comes to. Walks and closed walks are those of textbooks on graphs; the
-- rest is this project's own.
use Rattle.std.specs.Prelude.{◌≡◌, ℕ, ◌<◌, ◌==◌, Bool, List, [], ◌∷◌, length, slice_index_or, ℤ, pos, ◌+ℤ◌, None, IsTrue}
use Rattle.std.specs.List.{list_any, All}
use Rattle.path_graph.specs.declared.graph.Arc.{Arc}
use Rattle.path_graph.specs.declared.graph.Graph.{Graph}
use Rattle.path_graph.specs.declared.graph.LoopArcs.{LoopArcs}

-- whether a number is in a list
abbrev pub has : List ℕ → ℕ → Bool
has numbers n = list_any (λ m. m == n) numbers

-- the arc with a number
abbrev pub arc_at : Graph → ℕ → Arc
arc_at g a = slice_index_or g.arcs a (record { from = 0; to = 0; weight = pos 0 })

-- the loop with a number
abbrev pub loop_at : Graph → ℕ → LoopArcs
loop_at g l =
    slice_index_or g.loops l (record { members = []; back = []; entries = []; maxcount = 0; total = None })

-- what a walk that ends at a vertex costs besides
abbrev pub finish_at : Graph → ℕ → ℤ
finish_at g v = slice_index_or g.finish v (pos 0)

-- a walk from one vertex to another, as the numbers of its arcs: each begins where the one before it ends
abbrev pub IsWalk : Graph → ℕ → List ℕ → ℕ → Type 0
IsWalk g u [] v = u ≡ v
IsWalk g u (a ∷ walk) v = (a < length g.arcs) × ((arc_at g a).from ≡ u) × IsWalk g (arc_at g a).to walk v

-- the sum of the weights along a walk
abbrev pub weight_along : (ℕ → ℤ) → List ℕ → ℤ
weight_along weight [] = pos 0
weight_along weight (a ∷ walk) = weight a +ℤ weight_along weight walk

-- each arc of the walk begins at a member of the loop
abbrev pub IsInside : Graph → LoopArcs → List ℕ → Type 0
IsInside g l walk = All (λ a. IsTrue (has l.members (arc_at g a).from)) walk
