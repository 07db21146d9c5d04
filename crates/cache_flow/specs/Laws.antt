-- What solutions are worth on runs, and that there is one least of each kind. The argument is that of textbooks on abstract
-- interpretation.
use Rattle.std.specs.Prelude.{◌≡◌, ℕ, ◌<◌, true, false, List, ◌++◌, take, length, Contains}
use Rattle.wx_base.specs.declared.machine.Shape.{Shape}
use Rattle.wx_base.specs.Machine.{IsShape}
use Rattle.wx_base.specs.Cache.{Lines, IsCache, holds_line}
use Rattle.wx_base.specs.CacheStates.{Ages, must_hold, MustCoversCache, may_hold, MayCoversCache, Younger, younger_start, YoungerCovers, is_kept}
use Rattle.cache_ages.specs.Bounds.{is_one_of}
use Rattle.cache_pers.specs.Stays.{cache_along, younger_along}
use Rattle.cache_flow.specs.declared.flow.Flow.{Flow}
use Rattle.cache_flow.specs.Flows.{Part, IsFlow, Comes, Stays, accesses_of}
use Rattle.cache_flow.specs.Solutions.{IsMustSolution, IsLeastMust, must_at, IsMaySolution, IsLeastMay, may_at, IsYoungerSolution, IsLeastYounger, younger_at, YoungerCoversAt}

-- Whatever the cache was at the start of a run that comes to a node, the node's must state covers what the cache is there.
abbrev pub MustSolutionsHold : Type 0
MustSolutionsHold = (shape : Shape) (flow : Flow) (states : ℕ → Ages) (node : ℕ) (accesses : List ℕ) (cache : Lines) → IsShape shape
    → IsCache shape cache → IsMustSolution shape flow states → Comes flow node accesses
    → MustCoversCache shape (states node) (cache_along shape cache accesses)

-- Whatever the cache was at the start of a run that comes to a node, the node's may state covers what the cache is there.
abbrev pub MaySolutionsHold : Type 0
MaySolutionsHold = (shape : Shape) (flow : Flow) (states : ℕ → Ages) (node : ℕ) (accesses : List ℕ) (cache : Lines) → IsShape shape
    → IsCache shape cache → IsMaySolution shape flow states → Comes flow node accesses
    → MayCoversCache shape (states node) (cache_along shape cache accesses)

-- In a stay in a part that comes to a node, the node's state covers what the accesses of the stay tell.
abbrev pub YoungerSolutionsHold : Type 0
YoungerSolutionsHold = (shape : Shape) (flow : Flow) (part : Part) (states : ℕ → Younger) (node : ℕ) (accesses : List ℕ)
    → IsYoungerSolution shape flow part states → Stays flow part node accesses
    → YoungerCovers (states node) (younger_along shape younger_start accesses)

-- A line that the must state at an access holds is in the cache there, in every run from every cache.
abbrev pub HeldLinesAreThere : Type 0
HeldLinesAreThere = (shape : Shape) (flow : Flow) (states : ℕ → Ages) (node place line : ℕ) (accesses : List ℕ) (cache : Lines)
    → IsShape shape → IsCache shape cache → IsMustSolution shape flow states → Comes flow node accesses
    → must_hold shape (must_at shape flow states node place) line ≡ true
    → holds_line shape (cache_along shape cache (accesses ++ take place (accesses_of flow node))) line ≡ true

-- A line that the may state at an access bars is not in the cache there, in every run from every cache.
abbrev pub BarredLinesAreAbsent : Type 0
BarredLinesAreAbsent = (shape : Shape) (flow : Flow) (states : ℕ → Ages) (node place line : ℕ) (accesses : List ℕ) (cache : Lines)
    → IsShape shape → IsCache shape cache → IsMaySolution shape flow states → Comes flow node accesses
    → may_hold shape (may_at shape flow states node place) line ≡ false
    → holds_line shape (cache_along shape cache (accesses ++ take place (accesses_of flow node))) line ≡ false

-- In one stay in a part, whatever the cache was at its begin: a line that is kept at an access, and was accessed before in the
-- stay, is in the cache. So of the accesses of a stay to a line where it is kept at most one misses: the stay's first to the line.
abbrev pub KeptInStays : Type 0
KeptInStays = (shape : Shape) (flow : Flow) (part : Part) (states : ℕ → Younger) (node place line : ℕ) (accesses : List ℕ) (cache : Lines)
    → IsShape shape → IsCache shape cache → IsFlow flow → IsYoungerSolution shape flow part states → Stays flow part node accesses
    → is_kept shape flow.lines (younger_at shape flow states node place) line ≡ true
    → Contains (accesses ++ take place (accesses_of flow node)) line
    → holds_line shape (cache_along shape cache (accesses ++ take place (accesses_of flow node))) line ≡ true

-- there is one least must solution: two have the same ages of the flow's lines at each node
abbrev pub LeastMustIsOne : Type 0
LeastMustIsOne = (shape : Shape) (flow : Flow) (states others : ℕ → Ages) → IsLeastMust shape flow states → IsLeastMust shape flow others
    → (node : ℕ) → node < length flow.nodes → (line : ℕ) → is_one_of flow.lines line ≡ true → states node line ≡ others node line

-- there is one least may solution: two have the same ages of the flow's lines at each node
abbrev pub LeastMayIsOne : Type 0
LeastMayIsOne = (shape : Shape) (flow : Flow) (states others : ℕ → Ages) → IsLeastMay shape flow states → IsLeastMay shape flow others
    → (node : ℕ) → node < length flow.nodes → (line : ℕ) → is_one_of flow.lines line ≡ true → states node line ≡ others node line

-- there is one least solution of a part: of two each covers the other at the flow's lines
abbrev pub LeastYoungerIsOne : Type 0
LeastYoungerIsOne = (shape : Shape) (flow : Flow) (part : Part) (states others : ℕ → Younger) → IsLeastYounger shape flow part states
    → IsLeastYounger shape flow part others → (node : ℕ) → Contains part.members node
    → YoungerCoversAt flow.lines (states node) (others node) × YoungerCoversAt flow.lines (others node) (states node)
