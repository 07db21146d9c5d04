-- A diagram with an event given, the greatest difference of two diagrams, and answers kept by their places.
use Rattle.std.specs.Prelude.{◌≡◌, ℕ, ◌-◌, ◌<◌, ◌≤◌, Bool, List, length, Option, Some, nat_eq, ◌&&◌}
use Rattle.xdd_table.specs.declared.node.Dd.{Dd}
use Rattle.xdd_table.specs.declared.node.Node.{Node}
use Rattle.xdd_table.specs.Diagram.{Combination, with_event, time, BeginsAfter, EventsLess}

-- the diagram at the place `r` is the one at the place `p` with the event given
pub record IsFixed (nodes : List Node) (event : ℕ) (miss : Bool) (p r : ℕ) : Type 0 where
  pub source : p < length nodes
  pub within : r < length nodes
  pub times : (f : Combination) → time nodes f r ≡ time nodes (with_event f event miss) p
  pub after : (e : ℕ) → BeginsAfter nodes e p → BeginsAfter nodes e r
  pub events : (bound : ℕ) → EventsLess nodes p bound → EventsLess nodes r bound

-- each answer that is kept for a place is its diagram with the event given
pub record AreFixed (nodes : List Node) (event : ℕ) (miss : Bool) (kept : ℕ → Option Dd) : Type 0 where
  pub each : (p : ℕ) (r : Dd) → kept p ≡ Some r → IsFixed nodes event miss p r.place

-- the greatest difference of the times of two diagrams at one combination
pub record IsGreatestDifference (nodes : List Node) (a b n : ℕ) : Type 0 where
  pub bound : (f : Combination) → time nodes f a - time nodes f b ≤ n
  pub attained : (f : Combination) × (n ≡ time nodes f a - time nodes f b)

-- two pairs of places are one
abbrev pub same_places : ℕ × ℕ → ℕ × ℕ → Bool
same_places x y = nat_eq x.0 y.0 && nat_eq x.1 y.1

-- each number that is kept for two places is the greatest difference of their diagrams
pub record AreDifferences (nodes : List Node) (kept : ℕ × ℕ → Option ℕ) : Type 0 where
  pub each : (a b n : ℕ) → kept (a, b) ≡ Some n → IsGreatestDifference nodes a b n
