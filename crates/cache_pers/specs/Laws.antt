-- What younger lines are worth against the content of a cache. This project's own.
use Rattle.std.specs.Prelude.{◌≡◌, ℕ, ◌≤◌, true, List, All}
use Rattle.wx_base.specs.declared.machine.Shape.{Shape}
use Rattle.wx_base.specs.Machine.{IsShape}
use Rattle.wx_base.specs.Cache.{Lines, IsCache, holds_line}
use Rattle.wx_base.specs.CacheStates.{Younger, younger_start, younger_accessed, younger_joined, YoungerCovers, is_kept}
use Rattle.cache_ages.specs.Bounds.{is_one_of}
use Rattle.cache_pers.specs.Stays.{younger_along, cache_along, kept_misses}

-- In one stay, whatever the cache was at its begin: a line that was accessed and is kept is in the cache.
abbrev pub KeptIsHeld : Type 0
KeptIsHeld = (shape : Shape) (lines : List ℕ) (cache : Lines) (accesses : List ℕ) (line : ℕ) → IsShape shape → IsCache shape cache
    → All (λ next. is_one_of lines next ≡ true) accesses
    → (younger_along shape younger_start accesses).known line ≡ true
    → is_kept shape lines (younger_along shape younger_start accesses) line ≡ true
    → holds_line shape (cache_along shape cache accesses) line ≡ true

-- In one stay, whatever the cache was at its begin: the accesses to a line where it is kept miss at most once.
abbrev pub OneMissPerStay : Type 0
OneMissPerStay = (shape : Shape) (lines : List ℕ) (cache : Lines) (accesses : List ℕ) (line : ℕ) → IsShape shape → IsCache shape cache
    → All (λ next. is_one_of lines next ≡ true) accesses → kept_misses shape lines line younger_start cache accesses ≤ 1

-- what is kept in a state is kept in each state that it covers
abbrev pub CoveringKeeps : Type 0
CoveringKeeps = (shape : Shape) (lines : List ℕ) (covering covered : Younger) (line : ℕ)
    → YoungerCovers covering covered → is_kept shape lines covering line ≡ true → is_kept shape lines covered line ≡ true

-- an access keeps one state covered by another
abbrev pub YoungerAccessKeepsOrder : Type 0
YoungerAccessKeepsOrder = (shape : Shape) (covering covered : Younger) (line : ℕ)
    → YoungerCovers covering covered → YoungerCovers (younger_accessed shape covering line) (younger_accessed shape covered line)

-- a join covers both of its states
abbrev pub YoungerJoinCovers : Type 0
YoungerJoinCovers = (a b : Younger) → YoungerCovers (younger_joined a b) a × YoungerCovers (younger_joined a b) b
