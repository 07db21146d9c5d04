-- What a stay in one part of a program tells of lines, as lists beside the program's lines. This project's own.
use Rattle.std.specs.Prelude.{◌≡◌, ℕ, ◌+◌, Bool, false, ◌==◌, ◌&&◌, ◌||◌, not, slice_index_or, if◌then◌else◌, List, [], ◌∷◌, length, All}
use Rattle.wx_base.specs.declared.machine.Shape.{Shape}
use Rattle.wx_base.specs.Cache.{Lines, holds_line, accessed}
use Rattle.wx_base.specs.CacheStates.{Younger, younger_accessed, is_rival, is_kept}
use Rattle.wx_base.specs.Facts.{AreAscending}
use Rattle.wx_base.specs.Machine.{IsShape}
use Rattle.cache_ages.specs.Bounds.{beside}

-- the lines of a program, whether each is known, and which of the lines are held for each
pub record Stay : Type 0 where
  pub shape : Shape
  pub lines : List ℕ
  pub known : List Bool
  pub held : List (List Bool)

-- the lists as functions of lines: a line that is not listed is not known, and held for none
abbrev pub younger_of : Stay → Younger
younger_of stay =
    record {
      known = beside false stay.lines stay.known;
      held = λ line. beside false stay.lines (beside [] stay.lines stay.held line);
    }

-- one entry for each line, in ascending order
pub record IsStay (stay : Stay) : Type 0 where
  pub shape : IsShape stay.shape
  pub ascending : AreAscending stay.lines
  pub known : length stay.known ≡ length stay.lines
  pub held : length stay.held ≡ length stay.lines
  pub each : All (λ row. length row ≡ length stay.lines) stay.held

-- a stay with this shape and these lines
pub record IsFor (stay : Stay) (form : Shape) (program : List ℕ) : Type 0 where
  pub shape : stay.shape ≡ form
  pub lines : stay.lines ≡ program

-- whether an entry of a list is set; none is set behind its end
abbrev pub is_set_at : List Bool → ℕ → Bool
is_set_at entries place = slice_index_or entries place false

-- whether an entry of a row is set
abbrev pub is_set_in : List (List Bool) → ℕ → ℕ → Bool
is_set_in rows row place = is_set_at (slice_index_or rows row []) place

-- whether one line is held for another after an access: `held` before, `here` for the accessed line itself
abbrev pub noted : Shape → ℕ → Bool → ℕ → Bool → Bool → Bool
noted shape line known accessed here held =
    if line == accessed then false else (held || (known && is_rival shape line accessed && here))

-- what is known behind a list of accesses
abbrev pub younger_along : Shape → Younger → List ℕ → Younger
younger_along shape younger [] = younger
younger_along shape younger (next ∷ accesses) = younger_along shape (younger_accessed shape younger next) accesses

-- the cache behind a list of accesses
abbrev pub cache_along : Shape → Lines → List ℕ → Lines
cache_along shape cache [] = cache
cache_along shape cache (next ∷ accesses) = cache_along shape (accessed shape cache next) accesses

-- how many accesses of a list to one line miss at a place where the line is kept
abbrev pub kept_misses : Shape → List ℕ → ℕ → Younger → Lines → List ℕ → ℕ
kept_misses shape lines line younger cache [] = 0
kept_misses shape lines line younger cache (next ∷ accesses) =
    (if (next == line) && is_kept shape lines younger line && not (holds_line shape cache line) then 1 else 0)
    + kept_misses shape lines line (younger_accessed shape younger next) (accessed shape cache next) accesses
