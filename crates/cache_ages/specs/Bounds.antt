-- Bounds on ages that a program keeps: numbers beside the lines of a list. This project's own.
use Rattle.std.specs.Prelude.{◌≡◌, ℕ, ◌+◌, ◌≤◌, Bool, nat_lt, ◌&&◌, ◌==◌, if◌then◌else◌, List, [], ◌∷◌, length, All}
use Rattle.std.specs.List.{list_any}
use Rattle.wx_base.specs.declared.machine.Shape.{Shape}
use Rattle.wx_base.specs.Facts.{AreAscending}
use Rattle.wx_base.specs.Machine.{IsShape}
use Rattle.wx_base.specs.CacheStates.{Ages, is_rival}

-- the lines of a program, and an age for each
pub record Bounds : Type 0 where
  pub shape : Shape
  pub lines : List ℕ
  pub ages : List ℕ

-- what stands beside a line in a second list; beside a line that is not listed stands `outside`
abbrev pub beside : {X : Type 0} → X → List ℕ → List X → ℕ → X
beside outside [] values line = outside
beside outside (x ∷ lines) [] line = outside
beside outside (x ∷ lines) (value ∷ values) line = if x == line then value else beside outside lines values line

-- the age of a line after an access to one of its set that makes those younger than `below` older
abbrev pub aged_as : Shape → ℕ → ℕ → ℕ → ℕ → ℕ
aged_as shape accessed below line age =
    if line == accessed then 0 else (if is_rival shape line accessed && nat_lt age below then age + 1 else age)

-- whether the line is one of the list
abbrev pub is_one_of : List ℕ → ℕ → Bool
is_one_of lines line = list_any (λ other. other == line) lines

-- upper bounds: of a line that is not listed nothing is known
abbrev pub must_ages : Bounds → Ages
must_ages bounds = beside bounds.shape.ways bounds.lines bounds.ages

-- lower bounds: a line that is not listed may be anywhere
abbrev pub may_ages : Bounds → Ages
may_ages bounds = beside 0 bounds.lines bounds.ages

-- the bounds of listed lines alone; another line may be anywhere
abbrev pub among : List ℕ → Ages → Ages
among lines ages = λ line. if is_one_of lines line then ages line else 0

-- ages for lines in ascending order, none above the number of ways
pub record AreBounds (bounds : Bounds) : Type 0 where
  pub shape : IsShape bounds.shape
  pub ascending : AreAscending bounds.lines
  pub each : length bounds.ages ≡ length bounds.lines
  pub within : All (λ age. age ≤ bounds.shape.ways) bounds.ages

-- no age is above the number of ways
pub record AreAges (shape : Shape) (ages : Ages) : Type 0 where
  pub each : (line : ℕ) → ages line ≤ shape.ways

-- bounds for a cache of this shape and these lines
pub record AreFor (bounds : Bounds) (form : Shape) (program : List ℕ) : Type 0 where
  pub shape : bounds.shape ≡ form
  pub lines : bounds.lines ≡ program
