-- Potentials: what walks from a vertex come to at most. Potentials that bound walks by an inequality for each arc are usual in
-- the theory of greatest and least walks; the rest is this project's own.
use Rattle.std.specs.Prelude.{◌≡◌, ℕ, ◌<◌, ◌≤◌, List, length, slice_index, ℤ, pos, ◌+ℤ◌, ◌≤ℤ◌, ◌<ℤ◌}
use Rattle.std.specs.List.{All}
use Rattle.path_graph.specs.declared.graph.Graph.{Graph}
use Rattle.path_graph.specs.declared.graph.LoopPrices.{LoopPrices}
use Rattle.path_graph.specs.declared.graph.TheConstants.{LARGEST}
use Rattle.path_graph.specs.Graph.{arc_at, finish_at, IsWalk, weight_along}
use Rattle.path_problem.specs.Weight.{full_weight}

-- the potential of a vertex is at least its finish
abbrev pub CoversVertex : Graph → List ℕ → ℕ → Type 0
CoversVertex g p v = finish_at g v ≤ℤ pos (slice_index p v)

-- the potential of an arc's source is at least the full weight of the arc and the potential of its target
abbrev pub CoversArc : Graph → LoopPrices → List ℕ → ℕ → Type 0
CoversArc g prices p a =
    (full_weight g prices a +ℤ pos (slice_index p (arc_at g a).to)) ≤ℤ pos (slice_index p (arc_at g a).from)

-- potentials that meet both inequalities everywhere
pub record Cover (g : Graph) (prices : LoopPrices) (p : List ℕ) : Type 0 where
  pub vertices : (v : ℕ) → v < length g.finish → CoversVertex g p v
  pub arcs : (a : ℕ) → a < length g.arcs → CoversArc g prices p a

-- the first vertex whose potential is below its finish
pub record IsBadVertex (g : Graph) (p : List ℕ) (v : ℕ) : Type 0 where
  pub within : v < length g.finish
  pub below : pos (slice_index p v) <ℤ finish_at g v
  pub first : (u : ℕ) → u < v → CoversVertex g p u

-- the first arc whose inequality fails, where that of each vertex holds
pub record IsBadArc (g : Graph) (prices : LoopPrices) (p : List ℕ) (a : ℕ) : Type 0 where
  pub vertices : (v : ℕ) → v < length g.finish → CoversVertex g p v
  pub within : a < length g.arcs
  pub below : pos (slice_index p (arc_at g a).from) <ℤ (full_weight g prices a +ℤ pos (slice_index p (arc_at g a).to))
  pub first : (b : ℕ) → b < a → CoversArc g prices p b

-- what a walk to a vertex comes to, with the finish there
abbrev pub worth : Graph → LoopPrices → List ℕ → ℕ → ℤ
worth g prices walk v = weight_along (full_weight g prices) walk +ℤ finish_at g v

-- a walk from a vertex that comes to a given sum
pub record IsReached (g : Graph) (prices : LoopPrices) (v : ℕ) (sum : ℤ) : Type 0 where
  pub walk : List ℕ
  pub last : ℕ
  pub is : IsWalk g v walk last
  pub sums : worth g prices walk last ≡ sum

-- no walk from a vertex comes to more than a number
pub record IsBound (g : Graph) (prices : LoopPrices) (v bound : ℕ) : Type 0 where
  pub each : (walk : List ℕ) (last : ℕ) → IsWalk g v walk last → worth g prices walk last ≤ℤ pos bound

-- for each vertex a number that some walk reaches and none passes, up to the greatest potential
pub record ArePotentials (g : Graph) (prices : LoopPrices) (p : List ℕ) : Type 0 where
  pub count : length p ≡ length g.finish
  pub reached : (v : ℕ) → v < length g.finish → IsReached g prices v (pos (slice_index p v))
  pub bounds : (v : ℕ) → v < length g.finish → IsBound g prices v (slice_index p v)
  pub small : All (λ n. n ≤ LARGEST) p

-- the first vertex from which a walk comes to more than the greatest potential
pub record IsVertexLarge (g : Graph) (prices : LoopPrices) (v : ℕ) : Type 0 where
  pub within : v < length g.finish
  pub sum : ℤ
  pub reached : IsReached g prices v sum
  pub large : pos LARGEST <ℤ sum
  pub first : (u : ℕ) → u < v → IsBound g prices u LARGEST

-- no closed walk has a positive full weight
pub record NoClosedGain (g : Graph) (prices : LoopPrices) : Type 0 where
  pub none : (v : ℕ) (walk : List ℕ) → IsWalk g v walk v → weight_along (full_weight g prices) walk ≤ℤ pos 0

-- the inequalities of the arcs from one up to another hold
pub record AreCovered (g : Graph) (prices : LoopPrices) (p : List ℕ) (first end : ℕ) : Type 0 where
  pub each : (a : ℕ) → first ≤ a → a < end → CoversArc g prices p a

-- the first arc, from one on, whose inequality fails
pub record IsFirstBadArc (g : Graph) (prices : LoopPrices) (p : List ℕ) (first a : ℕ) : Type 0 where
  pub from : first ≤ a
  pub within : a < length g.arcs
  pub below : pos (slice_index p (arc_at g a).from) <ℤ (full_weight g prices a +ℤ pos (slice_index p (arc_at g a).to))
  pub before : AreCovered g prices p first a
