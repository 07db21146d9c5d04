-- What an analysis knows of a cache's content: which lines it holds for sure, which it may hold, and, in one part of a program,
-- which lines came since a line was used last. Must and may are the analyses of textbooks on cache analysis (abstract
-- interpretation of replacement by least recent use); the third, a form of persistence, is this project's own.
use Rattle.std.specs.Prelude.{◌≡◌, ℕ, ◌+◌, ◌<◌, ◌≤◌, Bool, true, false, ◌&&◌, ◌||◌, ◌==◌, not, nat_lt, nat_le, min, max, if◌then◌else◌, List, length, slice_get, Some}
use Rattle.std.specs.List.{filter}
use Rattle.wx_base.specs.declared.machine.Shape.{Shape}
use Rattle.wx_base.specs.Cache.{Lines, set_of, lines_with}

-- a number of accesses for each line
abbrev pub Ages : Type 0
Ages = ℕ → ℕ

-- whether two lines share a set and are not one
abbrev pub is_rival : Shape → ℕ → ℕ → Bool
is_rival shape a b = (set_of shape a == set_of shape b) && not (a == b)

-- a cache has the line at a place of its set's list, counted from the youngest
abbrev pub StandsAt : Shape → Lines → ℕ → ℕ → Type 0
StandsAt shape cache line place = slice_get (lines_with shape cache line) place ≡ Some line

-- ---- must: upper bounds on places; the number of ways stands for 'perhaps not there'

-- nothing is known
abbrev pub must_start : Shape → Ages
must_start shape = λ line. shape.ways

-- an access makes its line the youngest, and those of its set that were younger are one older
abbrev pub must_accessed : Shape → Ages → ℕ → Ages
must_accessed shape ages line =
    λ other.
    if other == line then 0 else
    (if is_rival shape other line && nat_lt (ages other) (ages line) then ages other + 1 else ages other)

-- what both know
abbrev pub must_joined : Ages → Ages → Ages
must_joined a b = λ line. max (a line) (b line)

-- whatever the first knows the second knows too, and no less exactly
pub record MustCovers (covering covered : Ages) : Type 0 where
  pub each : (line : ℕ) → covered line ≤ covering line

-- the cache has each line that is known, no older than its bound
pub record MustCoversCache (shape : Shape) (ages : Ages) (cache : Lines) : Type 0 where
  pub each : (line : ℕ) → ages line < shape.ways → (place : ℕ) × (place ≤ ages line) × StandsAt shape cache line place

-- a line that is in the cache for sure
abbrev pub must_hold : Shape → Ages → ℕ → Bool
must_hold shape ages line = nat_lt (ages line) shape.ways

-- ---- may: lower bounds on places; the number of ways stands for 'not there'

-- each line may be anywhere
abbrev pub may_start : Ages
may_start = λ line. 0

-- an access makes its line the youngest, and those of its set that were no older are one older
abbrev pub may_accessed : Shape → Ages → ℕ → Ages
may_accessed shape ages line =
    λ other.
    if other == line then 0 else
    (if is_rival shape other line && nat_le (ages other) (ages line) then min (ages other + 1) shape.ways else ages other)

-- what one of them allows
abbrev pub may_joined : Ages → Ages → Ages
may_joined a b = λ line. min (a line) (b line)

-- whatever the second allows the first allows too
pub record MayCovers (covering covered : Ages) : Type 0 where
  pub each : (line : ℕ) → covering line ≤ covered line

-- the cache has no line younger than its bound
pub record MayCoversCache (shape : Shape) (ages : Ages) (cache : Lines) : Type 0 where
  pub each : (line place : ℕ) → StandsAt shape cache line place → ages line ≤ place

-- a line that is perhaps in the cache
abbrev pub may_hold : Shape → Ages → ℕ → Bool
may_hold shape ages line = nat_lt (ages line) shape.ways

-- ---- younger: which other lines of a known line's set were accessed since the line was, in this part of the run

-- which lines are known, and which others are held for each
pub record Younger : Type 0 where
  pub known : ℕ → Bool
  pub held : ℕ → ℕ → Bool

-- nothing is known
abbrev pub younger_start : Younger
younger_start = record { known = λ line. false; held = λ line other. false }

-- an access makes its line known with nothing held, and is held for each other known line of its set
abbrev pub younger_accessed : Shape → Younger → ℕ → Younger
younger_accessed shape younger line =
    record {
      known = λ other. (other == line) || younger.known other;
      held =
          λ other newer.
          if other == line then false else
          (younger.held other newer || (younger.known other && is_rival shape other line && (newer == line)));
    }

-- what either of them tells
abbrev pub younger_joined : Younger → Younger → Younger
younger_joined a b =
    record { known = λ line. a.known line || b.known line; held = λ line other. a.held line other || b.held line other }

-- each line that the second knows the first knows too, and holds no less for it
pub record YoungerCovers (covering covered : Younger) : Type 0 where
  pub known : (line : ℕ) → covered.known line ≡ true → covering.known line ≡ true
  pub held : (line other : ℕ) → covered.known line ≡ true → covered.held line other ≡ true → covering.held line other ≡ true

-- A line is kept: if it was accessed in this part of the run, fewer other lines of its set came since than there are ways. The
-- lines are those of the program, each once.
abbrev pub is_kept : Shape → List ℕ → Younger → ℕ → Bool
is_kept shape lines younger line =
    not (younger.known line) || nat_lt (length (filter (younger.held line) lines)) shape.ways
