-- What solutions show of a line where a node accesses it. What some solution shows is so; that the least solution shows it is the same,
-- since each solution covers the least one. This project's own.
use Rattle.std.specs.Prelude.{◌≡◌, ◌↔◌, ℕ, ◌<◌, true, false, length, Contains}
use Rattle.wx_base.specs.declared.machine.Shape.{Shape}
use Rattle.wx_base.specs.CacheStates.{Ages, must_hold, may_hold, Younger, is_kept}
use Rattle.cache_ages.specs.Bounds.{is_one_of}
use Rattle.cache_flow.specs.declared.flow.Flow.{Flow}
use Rattle.cache_flow.specs.Flows.{Part, IsFlow}
use Rattle.cache_flow.specs.Solutions.{must_at, IsMustSolution, IsLeastMust, may_at, IsMaySolution, IsLeastMay, younger_at, IsYoungerSolution, IsLeastYounger}

-- A line is held for sure where a node accesses it behind so many other accesses: some must solution holds it there.
pub record IsHeld (shape : Shape) (flow : Flow) (node place line : ℕ) : Type 0 where
  pub states : ℕ → Ages
  pub solution : IsMustSolution shape flow states
  pub holds : must_hold shape (must_at shape flow states node place) line ≡ true

-- it cannot be there: some may solution bars it
pub record IsBarred (shape : Shape) (flow : Flow) (node place line : ℕ) : Type 0 where
  pub states : ℕ → Ages
  pub solution : IsMaySolution shape flow states
  pub bars : may_hold shape (may_at shape flow states node place) line ≡ false

-- it is kept there in a stay in a part: some solution for the part keeps it
pub record IsKept (shape : Shape) (flow : Flow) (part : Part) (node place line : ℕ) : Type 0 where
  pub states : ℕ → Younger
  pub solution : IsYoungerSolution shape flow part states
  pub kept : is_kept shape flow.lines (younger_at shape flow states node place) line ≡ true

-- what the least solutions show at an access is what some solution shows there
abbrev pub LeastMustShows : Type 0
LeastMustShows = (shape : Shape) (flow : Flow) (states : ℕ → Ages) (node place line : ℕ) → IsFlow flow → IsLeastMust shape flow states
    → node < length flow.nodes → is_one_of flow.lines line ≡ true
    → (must_hold shape (must_at shape flow states node place) line ≡ true) ↔ IsHeld shape flow node place line

abbrev pub LeastMayShows : Type 0
LeastMayShows = (shape : Shape) (flow : Flow) (states : ℕ → Ages) (node place line : ℕ) → IsFlow flow → IsLeastMay shape flow states
    → node < length flow.nodes → is_one_of flow.lines line ≡ true
    → (may_hold shape (may_at shape flow states node place) line ≡ false) ↔ IsBarred shape flow node place line

abbrev pub LeastYoungerShows : Type 0
LeastYoungerShows = (shape : Shape) (flow : Flow) (part : Part) (states : ℕ → Younger) (node place line : ℕ) → IsFlow flow
    → IsLeastYounger shape flow part states → Contains part.members node → is_one_of flow.lines line ≡ true
    → (is_kept shape flow.lines (younger_at shape flow states node place) line ≡ true) ↔ IsKept shape flow part node place line
