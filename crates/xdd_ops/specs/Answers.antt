-- What an operation makes of two diagrams, and answers kept for pairs of places.
-- Source: this project; the memo of an operation is that of the literature of decision diagrams.
use Rattle.std.specs.Prelude.{◌≡◌, ℕ, ◌+◌, ◌<◌, ◌⊎◌, List, length, Option, Some}
use Rattle.xdd_table.specs.declared.node.Dd.{Dd}
use Rattle.xdd_table.specs.declared.node.Node.{Node}
use Rattle.xdd_table.specs.Diagram.{Combination, time, BeginsAfter, EventsLess, IsBelow, IsTable, Keeps}
use Rattle.xdd_ops.specs.Pairs.{IsPairOf}

-- the diagram at the place `d` is what an operation makes of those at `a` and `b`, where `gives` tells which time it makes of two times
pub record IsAnswer (nodes : List Node) (gives : ℕ → ℕ → ℕ → Type 0) (a b d : ℕ) : Type 0 where
  pub first : a < length nodes
  pub second : b < length nodes
  pub within : d < length nodes
  pub times : (f : Combination) → gives (time nodes f a) (time nodes f b) (time nodes f d)
  pub after : (e : ℕ) → BeginsAfter nodes e a → BeginsAfter nodes e b → BeginsAfter nodes e d
  pub events : (bound : ℕ) → EventsLess nodes a bound → EventsLess nodes b bound → EventsLess nodes d bound

-- each answer that is kept for two places, in this order, is the operation's answer for them
pub record AreAnswers (nodes : List Node) (gives : ℕ → ℕ → ℕ → Type 0) (kept : ℕ × ℕ → Option Dd) : Type 0 where
  pub each : (a b : ℕ) (d : Dd) → kept (a, b) ≡ Some d → IsAnswer nodes gives a b d.place

-- a pair of places below two places, one below each, whose sum is less than the limit
pub record IsPairBelow (nodes : List Node) (a b limit p q : ℕ) : Type 0 where
  pub first : IsBelow nodes a p
  pub second : IsBelow nodes b q
  pub less : p + q < limit

-- what is kept was kept before, or is for such a pair below the two places
pub record KeepsBelow (nodes : List Node) (a b limit : ℕ) (old new : ℕ × ℕ → Option Dd) : Type 0 where
  pub added : (p q : ℕ) (d : Dd) → new (p, q) ≡ Some d → (old (p, q) ≡ Some d) ⊎ IsPairBelow nodes a b limit p q

-- what an operation gave for two times it still gives
pub record Stays (old new : ℕ → ℕ → ℕ → Type 0) : Type 0 where
  pub given : (a b r : ℕ) → old a b r → new a b r

-- what an operation could be asked it still can
pub record CanStill (old new : ℕ → ℕ → Type 0) : Type 0 where
  pub asked : (a b : ℕ) → old a b → new a b

-- an operation gives no more than before, but for times that have the property
pub record GivesMore (old new : ℕ → ℕ → ℕ → Type 0) (P : ℕ × ℕ → Type 0) : Type 0 where
  pub more : (a b r : ℕ) → new a b r → old a b r ⊎ P (a, b)

-- how a call for two places leaves the table and the operation, whatever its outcome
pub record Passes (old new : List Node) (gives given : ℕ → ℕ → ℕ → Type 0) (can could : ℕ → ℕ → Type 0) (a b : ℕ) : Type 0 where
  pub table : IsTable new
  pub kept : Keeps old new
  pub stays : Stays gives given
  pub able : CanStill can could
  pub only : GivesMore gives given (IsPairOf old a b)
