-- What an access does to a cache that replaces the least recently used line, as every textbook of cache analysis says it.
use Rattle.std.specs.Prelude.{◌≡◌, ℕ, true, List, ◌∷◌}
use Rattle.wx_base.specs.declared.machine.Shape.{Shape}
use Rattle.wx_base.specs.Machine.{IsShape}
use Rattle.wx_base.specs.Cache.{Lines, IsCache, lines_with, holds_line, accessed}

-- the line is the youngest of its set
abbrev pub IsYoungest : Shape → Lines → ℕ → Type 0
IsYoungest shape cache line = (older : List ℕ) × (lines_with shape cache line ≡ line ∷ older)

-- after an access the cache holds the line, and the line is the youngest of its set
abbrev pub AccessedIsYoungest : Type 0
AccessedIsYoungest = (shape : Shape) (cache : Lines) (line : ℕ) → IsShape shape → IsCache shape cache
    → (holds_line shape (accessed shape cache line) line ≡ true) × IsYoungest shape (accessed shape cache line) line

-- a second access of the line at once hits and changes nothing
abbrev pub SecondAccessHits : Type 0
SecondAccessHits = (shape : Shape) (cache : Lines) (line : ℕ) → IsShape shape → IsCache shape cache
    → (holds_line shape (accessed shape cache line) line ≡ true) × (accessed shape (accessed shape cache line) line ≡ accessed shape cache line)

-- a cache stays one
abbrev pub AccessKeepsCache : Type 0
AccessKeepsCache = (shape : Shape) (cache : Lines) (line : ℕ) → IsShape shape → IsCache shape cache → IsCache shape (accessed shape cache line)
