-- Pairs of the times of two diagrams, in lists that grow at their end.
use Rattle.std.specs.Prelude.{◌≡◌, ℕ, ◌⊎◌, List, slice_get, Some}
use Rattle.xdd_table.specs.declared.node.Node.{Node}
use Rattle.xdd_table.specs.Diagram.{Combination, time}

-- earlier positions keep their pairs
pub record Extends (old new : List (ℕ × ℕ)) : Type 0 where
  pub kept : (i : ℕ) (x : ℕ × ℕ) → slice_get old i ≡ Some x → slice_get new i ≡ Some x

-- each pair that was added has the property
pub record AddsOnly (old new : List (ℕ × ℕ)) (P : ℕ × ℕ → Type 0) : Type 0 where
  pub added : (i : ℕ) (x : ℕ × ℕ) → slice_get new i ≡ Some x → (slice_get old i ≡ Some x) ⊎ P x

-- the times of two diagrams at one combination
abbrev pub IsPairOf : List Node → ℕ → ℕ → ℕ × ℕ → Type 0
IsPairOf nodes a b x = (f : Combination) × (x ≡ (time nodes f a, time nodes f b))
