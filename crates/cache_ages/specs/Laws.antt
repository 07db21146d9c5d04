-- What bounds on ages are worth against the content of a cache, as textbooks of cache analysis prove it.
use Rattle.std.specs.Prelude.{◌≡◌, ℕ, true, false, ◌⊎◌, List}
use Rattle.wx_base.specs.declared.machine.Shape.{Shape}
use Rattle.wx_base.specs.Machine.{IsShape}
use Rattle.wx_base.specs.Cache.{Lines, IsCache, holds_line, accessed}
use Rattle.wx_base.specs.CacheStates.{Ages, must_start, must_accessed, must_joined, MustCovers, MustCoversCache, must_hold, may_start, may_accessed, may_joined, MayCovers, MayCoversCache, may_hold}
use Rattle.cache_ages.specs.Bounds.{among, AreAges}

-- ---- must

-- at the start every cache is covered
abbrev pub MustStartCovers : Type 0
MustStartCovers = (shape : Shape) (cache : Lines) → MustCoversCache shape (must_start shape) cache

-- an access in the state and in the cache keeps the cache covered
abbrev pub MustAccessCovers : Type 0
MustAccessCovers = (shape : Shape) (ages : Ages) (cache : Lines) (line : ℕ) → IsShape shape → IsCache shape cache
    → MustCoversCache shape ages cache → MustCoversCache shape (must_accessed shape ages line) (accessed shape cache line)

-- what one of two states covers their join covers
abbrev pub MustJoinCovers : Type 0
MustJoinCovers = (shape : Shape) (a b : Ages) (cache : Lines)
    → MustCoversCache shape a cache ⊎ MustCoversCache shape b cache → MustCoversCache shape (must_joined a b) cache

-- a state that covers another covers each cache that the other covers
abbrev pub MustCoveringCovers : Type 0
MustCoveringCovers = (shape : Shape) (covering covered : Ages) (cache : Lines)
    → MustCovers covering covered → MustCoversCache shape covered cache → MustCoversCache shape covering cache

-- an access keeps one state covered by another
abbrev pub MustAccessKeepsOrder : Type 0
MustAccessKeepsOrder = (shape : Shape) (covering covered : Ages) (line : ℕ)
    → MustCovers covering covered → MustCovers (must_accessed shape covering line) (must_accessed shape covered line)

-- a line that is held for sure is in every cache that the state covers
abbrev pub MustHoldsLine : Type 0
MustHoldsLine = (shape : Shape) (ages : Ages) (cache : Lines) (line : ℕ)
    → MustCoversCache shape ages cache → must_hold shape ages line ≡ true → holds_line shape cache line ≡ true

-- ---- may

-- at the start every cache is covered
abbrev pub MayStartCovers : Type 0
MayStartCovers = (shape : Shape) (cache : Lines) → MayCoversCache shape may_start cache

-- an access in the state and in the cache keeps the cache covered
abbrev pub MayAccessCovers : Type 0
MayAccessCovers = (shape : Shape) (ages : Ages) (cache : Lines) (line : ℕ) → IsShape shape → IsCache shape cache
    → MayCoversCache shape ages cache → MayCoversCache shape (may_accessed shape ages line) (accessed shape cache line)

-- what one of two states covers their join covers
abbrev pub MayJoinCovers : Type 0
MayJoinCovers = (shape : Shape) (a b : Ages) (cache : Lines)
    → MayCoversCache shape a cache ⊎ MayCoversCache shape b cache → MayCoversCache shape (may_joined a b) cache

-- a state that covers another covers each cache that the other covers
abbrev pub MayCoveringCovers : Type 0
MayCoveringCovers = (shape : Shape) (covering covered : Ages) (cache : Lines)
    → MayCovers covering covered → MayCoversCache shape covered cache → MayCoversCache shape covering cache

-- an access keeps one state covered by another, if no bound is above the number of ways
abbrev pub MayAccessKeepsOrder : Type 0
MayAccessKeepsOrder = (shape : Shape) (covering covered : Ages) (line : ℕ) → AreAges shape covering
    → MayCovers covering covered → MayCovers (may_accessed shape covering line) (may_accessed shape covered line)

-- bounds of some lines alone cover what all bounds cover
abbrev pub AmongCovers : Type 0
AmongCovers = (lines : List ℕ) (ages : Ages) → MayCovers (among lines ages) ages

-- a line whose bound is the number of ways is in no cache that the state covers
abbrev pub MayBarsLine : Type 0
MayBarsLine = (shape : Shape) (ages : Ages) (cache : Lines) (line : ℕ) → IsShape shape → IsCache shape cache
    → MayCoversCache shape ages cache → may_hold shape ages line ≡ false → holds_line shape cache line ≡ false
