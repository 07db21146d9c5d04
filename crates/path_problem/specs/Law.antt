-- What potentials that meet the inequalities say of walks. This project's own.
use Rattle.std.specs.Prelude.{◌≡◌, ℕ, ◌+◌, ◌*◌, ◌<◌, ◌≤◌, Bool, false, ◌==◌, List, ◌++◌, length, slice_index}
use Rattle.std.specs.Prelude.{if◌then◌else◌, pos, ◌+ℤ◌, ◌≤ℤ◌, Option, Some, None, count_by}
use Rattle.std.specs.List.{sum_by, zip, list_any}
use Rattle.path_graph.specs.declared.graph.Graph.{Graph}
use Rattle.path_graph.specs.declared.graph.LoopArcs.{LoopArcs}
use Rattle.path_graph.specs.declared.graph.LoopPrices.{LoopPrices}
use Rattle.path_graph.specs.Graph.{has, arc_at, loop_at, finish_at, IsWalk, weight_along}
use Rattle.path_graph.specs.Conditions.{IsGraph, HasPrices}
use Rattle.path_problem.specs.Potential.{Cover}

-- how many back arcs of a loop a walk takes
abbrev pub turns : List ℕ → LoopArcs → ℕ
turns walk l = count_by (has l.back) walk

-- whether a walk enters a loop
abbrev pub enters : List ℕ → LoopArcs → Bool
enters walk l = list_any (has l.entries) walk

-- a walk from a vertex keeps to a loop's count: no stretch without an entry takes more back arcs than the count allows, and from
-- outside the loop none comes before an entry
pub record KeepsCount (v : ℕ) (walk : List ℕ) (l : LoopArcs) : Type 0 where
  pub stretches : (before stretch after : List ℕ) → walk ≡ (before ++ stretch) ++ after → enters stretch l ≡ false
      → turns stretch l ≤ l.maxcount
  pub outside : has l.members v ≡ false → (front after : List ℕ) → walk ≡ front ++ after → enters front l ≡ false
      → turns front l ≡ 0

-- whether a total is the one given
abbrev pub is_total : ℕ → Option ℕ → Bool
is_total k None = false
is_total k (Some j) = j == k

-- how many back arcs of all loops of a total a walk takes
abbrev pub total_turns : Graph → List ℕ → ℕ → ℕ
total_turns g walk k = sum_by (λ l. (if is_total k l.total then turns walk l else 0)) g.loops

-- a walk keeps to every count and every total
pub record KeepsCounts (g : Graph) (v : ℕ) (walk : List ℕ) : Type 0 where
  pub loops : (l : ℕ) → l < length g.loops → KeepsCount v walk (loop_at g l)
  pub totals : (k : ℕ) → k < length g.totals → total_turns g walk k ≤ slice_index g.totals k

-- what the loops around the first vertex allow, each as many turns as its count at its price
abbrev pub loops_worth : Graph → LoopPrices → ℕ → ℕ
loops_worth g prices v = sum_by (λ (l, price). (if has l.members v then l.maxcount * price else 0)) (zip g.loops prices.loops)

-- what the totals allow, each at its price
abbrev pub totals_worth : Graph → LoopPrices → ℕ
totals_worth g prices = sum_by (λ (count, price). count * price) (zip g.totals prices.totals)

-- A walk's own weights and its last finish are at most the potential of its first vertex, what the loops around that vertex allow,
-- and what the totals allow.
abbrev pub PricesBoundWalks : Type 0
PricesBoundWalks = (g : Graph) (prices : LoopPrices) (p : List ℕ) → IsGraph g → HasPrices g prices → Cover g prices p
    → (v w : ℕ) (walk : List ℕ) → v < length g.finish → IsWalk g v walk w → KeepsCounts g v walk
    → (weight_along (λ a. (arc_at g a).weight) walk +ℤ finish_at g w)
    ≤ℤ pos (slice_index p v + loops_worth g prices v + totals_worth g prices)
