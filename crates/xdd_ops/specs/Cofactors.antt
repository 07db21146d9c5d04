-- A diagram with an event given, and how two diagrams are taken apart at their first event.
-- Source: Shannon's expansion, as the literature of decision diagrams uses it.
use Rattle.std.specs.Prelude.{◌≡◌, ℕ, ◌+◌, ◌<◌, ◌≤◌, true, false, List, length, slice_get, Some, IfSome, if◌then◌else◌}
use Rattle.xdd_table.specs.declared.node.Dd.{Dd}
use Rattle.xdd_table.specs.declared.node.Node.{Node}
use Rattle.xdd_table.specs.declared.node.Node.TheVariants.{Leaf, Branch}
use Rattle.xdd_table.specs.Diagram.{Combination, with_event, time, BeginsAfter, EventsLess, IsBelow}
use Rattle.xdd_ops.specs.declared.cofactors.Split.{Split}
use Rattle.xdd_ops.specs.declared.cofactors.Expansion.{Expansion}
use Rattle.xdd_ops.specs.declared.cofactors.Expansion.TheVariants.{Leaves, Branches}

-- a node whose event, if it has one, is not before the given event
abbrev pub ReadsFrom : ℕ → Node → Type 0
ReadsFrom e (Leaf t) = Unit {0}
ReadsFrom e (Branch e' hit miss) = e ≤ e'

-- the diagram at a place begins with no event before the given one
abbrev pub BeginsFrom : List Node → ℕ → ℕ → Type 0
BeginsFrom nodes e p = IfSome (slice_get nodes p) (ReadsFrom e)

-- the event stands at the root
pub record HasRoot (nodes : List Node) (e p : ℕ) : Type 0 where
  pub hit : Dd
  pub miss : Dd
  pub at : slice_get nodes p ≡ Some (Branch e hit miss)

-- the diagrams at `hit` and `miss` are the diagram at a place with the event given
pub record IsCofactors (nodes : List Node) (p event hit miss : ℕ) : Type 0 where
  pub hit_in : hit < length nodes
  pub miss_in : miss < length nodes
  pub hit_after : BeginsAfter nodes event hit
  pub miss_after : BeginsAfter nodes event miss
  pub hit_before : hit ≤ p
  pub miss_before : miss ≤ p
  pub hit_less : HasRoot nodes event p → hit < p
  pub miss_less : HasRoot nodes event p → miss < p
  pub hit_below : IsBelow nodes p hit
  pub miss_below : IsBelow nodes p miss
  pub hit_time : (f : Combination) → time nodes f hit ≡ time nodes (with_event f event false) p
  pub miss_time : (f : Combination) → time nodes f miss ≡ time nodes (with_event f event true) p
  pub times : (f : Combination) → time nodes f p ≡ (if f event then time nodes f miss else time nodes f hit)
  pub hit_events : (bound : ℕ) → EventsLess nodes p bound → EventsLess nodes hit bound
  pub miss_events : (bound : ℕ) → EventsLess nodes p bound → EventsLess nodes miss bound

-- two diagrams taken apart at the first event of either
pub record IsSplit (nodes : List Node) (a b event : ℕ) (hits misses : Dd × Dd) : Type 0 where
  pub first : IsCofactors nodes a event hits.0.place misses.0.place
  pub second : IsCofactors nodes b event hits.1.place misses.1.place
  pub hits_less : hits.0.place + hits.1.place < a + b
  pub misses_less : misses.0.place + misses.1.place < a + b
  pub root : (e : ℕ) → BeginsAfter nodes e a → BeginsAfter nodes e b → e < event
  pub bound : (n : ℕ) → EventsLess nodes a n → EventsLess nodes b n → event < n

-- two diagrams that are leaves with these times
pub record AreLeaves (nodes : List Node) (a b t u : ℕ) : Type 0 where
  pub first : (f : Combination) → time nodes f a ≡ t
  pub second : (f : Combination) → time nodes f b ≡ u

-- the pair and its two halves
pub record IsSplitOf (nodes : List Node) (pair : Dd × Dd) (s : Split) : Type 0 where
  pub same : s.pair ≡ pair
  pub parts : IsSplit nodes pair.0.place pair.1.place s.event s.hits s.misses

-- two leaves, or the two diagrams taken apart
abbrev pub IsExpansion : List Node → Dd × Dd → Expansion → Type 0
IsExpansion nodes pair (Leaves t u) = AreLeaves nodes pair.0.place pair.1.place t u
IsExpansion nodes pair (Branches s) = IsSplitOf nodes pair s
