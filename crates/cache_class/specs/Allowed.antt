-- Which outcomes of a node's events its classes allow. This project's own.
use Rattle.std.specs.Prelude.{◌≡◌, ℕ, Bool, true, false, List, slice_get, Some}
use Rattle.cache_class.specs.declared.class.Class.{Class}
use Rattle.cache_class.specs.declared.class.Class.TheVariants.{AlwaysHit, AlwaysMiss, FirstMiss, Open}

-- what always hits does not miss, and what always misses does; for multiplications and accesses to data, to miss is to be slow
abbrev pub Allows : Class → Bool → Type 0
Allows AlwaysHit miss = miss ≡ false
Allows AlwaysMiss miss = miss ≡ true
Allows (FirstMiss scope) miss = Unit {0}
Allows Open miss = Unit {0}

-- a combination says of each event, by its number, whether it misses; it is allowed if each class allows what it says
abbrev pub IsAllowed : List Class → (ℕ → Bool) → Type 0
IsAllowed classes misses = (number : ℕ) (class : Class) → slice_get classes number ≡ Some class → Allows class (misses number)
