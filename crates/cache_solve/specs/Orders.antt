-- When what is known of some lines covers what else is known of them. This project's own.
use Rattle.std.specs.Prelude.{◌≡◌, ℕ, ◌+◌, ◌-◌, ◌≤◌, Bool, true, if◌then◌else◌, List, sum_by, slice_get}
use Rattle.std.specs.Option.{option_map_or}
use Rattle.wx_base.specs.declared.machine.Shape.{Shape}
use Rattle.wx_base.specs.CacheStates.{Ages, must_start, Younger, younger_start}
use Rattle.cache_ages.specs.Bounds.{Bounds, must_ages, may_ages, is_one_of}
use Rattle.cache_pers.specs.Stays.{Stay, younger_of}

-- at some lines the second knows whatever the first knows, and no less exactly
pub record MustCoversAt (lines : List ℕ) (covering covered : Ages) : Type 0 where
  pub each : (line : ℕ) → is_one_of lines line ≡ true → covered line ≤ covering line

-- at some lines the first allows whatever the second allows
pub record MayCoversAt (lines : List ℕ) (covering covered : Ages) : Type 0 where
  pub each : (line : ℕ) → is_one_of lines line ≡ true → covering line ≤ covered line

-- only some lines are known, and only these are held, for known lines alone
pub record IsOfLines (lines : List ℕ) (younger : Younger) : Type 0 where
  pub known : (line : ℕ) → younger.known line ≡ true → is_one_of lines line ≡ true
  pub held : (line other : ℕ) → younger.held line other ≡ true → (is_one_of lines line ≡ true) × (is_one_of lines other ≡ true)
  pub only : (line other : ℕ) → younger.held line other ≡ true → younger.known line ≡ true

-- by how much the bounds of a state can still change
abbrev pub must_left : Bounds → ℕ
must_left bounds = sum_by (λ line. bounds.shape.ways - must_ages bounds line) bounds.lines

abbrev pub may_left : Bounds → ℕ
may_left bounds = sum_by (may_ages bounds) bounds.lines

abbrev pub unset : Bool → ℕ
unset b = if b then 0 else 1

-- how many lines are not known or held
abbrev pub younger_left : Stay → ℕ
younger_left stay =
    sum_by (λ line. unset ((younger_of stay).known line) + sum_by (λ other. unset ((younger_of stay).held line other)) stay.lines) stay.lines

-- the states of nodes in a list, as functions
abbrev pub must_table : Shape → List Bounds → ℕ → Ages
must_table shape states node = option_map_or must_ages (slice_get states node) (must_start shape)

abbrev pub may_table : List Bounds → ℕ → Ages
may_table states node = option_map_or may_ages (slice_get states node) (λ line. 0)

abbrev pub younger_table : List Stay → ℕ → Younger
younger_table states node = option_map_or younger_of (slice_get states node) younger_start
