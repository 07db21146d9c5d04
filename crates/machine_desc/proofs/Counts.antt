-- How many elements an array has.
use Rattle.std.proofs.Common.{◌≡◌, ℕ, ℤ, pos, ◌<◌, ◌^◌, Bool, true, false, List, [], ◌∷◌, length, Some, None, refl, ap, arith, suc, to_z, of_z, w64, SFits}
use Rattle.std.specs.Prelude.{int_le}
use Rattle.std.proofs.lemmas.Int.{ints}
use Rattle.toml.specs.View.{items_view}
use Rattle.toml.specs.declared.value.Value.{Value}
use Rattle.machine_desc.specs.declared.fault.Fault.TheVariants.{Range}
use Rattle.machine_desc.specs.Faults.{count, count_fault}

pub count_view : (vs : List Value) → count (items_view vs) ≡ length vs
count_view [] = refl
count_view (v ∷ vs) = ap suc (count_view vs)

-- a count as a signed number
counted : (n : ℕ) → n < 2 ^ 63 → to_z w64 n ≡ pos n
counted n h = omega (arith, ints)

same_test : (most : ℤ) (n : ℕ) (answer : Bool) → n < 2 ^ 63 → SFits w64 most → int_le (to_z w64 n) (to_z w64 (of_z w64 most)) ≡ answer → int_le (pos n) most ≡ answer
same_test most n answer h f t = grind (arith, ints)

pub count_within : (most : ℤ) (n : ℕ) (vs : List Value) → n < 2 ^ 63 → SFits w64 most → n ≡ length vs → int_le (to_z w64 n) (to_z w64 (of_z w64 most)) ≡ true
    → None ≡ count_fault most (items_view vs)
count_within most n vs small f e h = rw (count_view vs, ← e, same_test most n true small f h)

pub count_past : (most : ℤ) (n : ℕ) (vs : List Value) → n < 2 ^ 63 → SFits w64 most → n ≡ length vs → int_le (to_z w64 n) (to_z w64 (of_z w64 most)) ≡ false
    → Some (Range (to_z w64 n)) ≡ count_fault most (items_view vs)
count_past most n vs small f e h = rw (count_view vs, ← e, same_test most n false small f h, counted n small)
