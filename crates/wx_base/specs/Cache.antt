-- An instruction cache with replacement of the least recently used line, as textbooks of cache analysis define it: a
-- list of lines for each set, the youngest first.
use Rattle.std.specs.Prelude.{◌≡◌, ℕ, ◌<◌, ◌≤◌, ◌/◌, ◌%◌, Bool, not, ◌==◌, List, [], ◌∷◌, length, slice_index_or, slice_set, All, filter, take, nat_eq}
use Rattle.std.specs.List.{list_any, IsDistinct}
use Rattle.wx_base.specs.declared.machine.Shape.{Shape}

abbrev pub Lines : Type 0
Lines = List (List ℕ)

-- the line of an address
abbrev pub line_of : Shape → ℕ → ℕ
line_of shape address = address / shape.line

-- the set of a line
abbrev pub set_of : Shape → ℕ → ℕ
set_of shape line = line % shape.sets

-- the lines that the line's set holds
abbrev pub lines_with : Shape → Lines → ℕ → List ℕ
lines_with shape cache line = slice_index_or cache (set_of shape line) []

-- whether the cache holds the line
abbrev pub holds_line : Shape → Lines → ℕ → Bool
holds_line shape cache line = list_any (λ other. other == line) (lines_with shape cache line)

-- a set after an access to a line: the line comes to the front, and what no longer fits drops out
abbrev pub touched : ℕ → List ℕ → ℕ → List ℕ
touched ways lines line = take ways (line ∷ filter (λ other. not (other == line)) lines)

-- the cache after an access to a line
abbrev pub accessed : Shape → Lines → ℕ → Lines
accessed shape cache line = slice_set cache (set_of shape line) (touched shape.ways (lines_with shape cache line) line)

-- a set's list: different lines of this set, no more than there are ways
pub record IsSet (shape : Shape) (set : ℕ) (lines : List ℕ) : Type 0 where
  pub fits : length lines ≤ shape.ways
  pub different : IsDistinct nat_eq lines
  pub own : All (λ line. set_of shape line ≡ set) lines

-- one such list for each set
pub record IsCache (shape : Shape) (cache : Lines) : Type 0 where
  pub sets : length cache ≡ shape.sets
  pub each : (set : ℕ) → set < shape.sets → IsSet shape set (slice_index_or cache set [])
