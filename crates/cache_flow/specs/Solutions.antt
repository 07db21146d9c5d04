-- States for the nodes of a flow that fit together, and the least of them, as textbooks on abstract interpretation define a
-- solution of data flow equations. States are compared at the lines of the flow.
use Rattle.std.specs.Prelude.{◌≡◌, ℕ, ◌<◌, ◌≤◌, Bool, true, List, [], ◌∷◌, length, take, Contains}
use Rattle.wx_base.specs.declared.machine.Shape.{Shape}
use Rattle.wx_base.specs.CacheStates.{Ages, must_start, must_accessed, MustCovers, may_start, may_accessed, MayCovers, Younger, younger_start, YoungerCovers}
use Rattle.cache_ages.specs.Bounds.{AreAges, is_one_of}
use Rattle.cache_pers.specs.Stays.{younger_along}
use Rattle.cache_flow.specs.declared.flow.Flow.{Flow}
use Rattle.cache_flow.specs.declared.flow.Move.{Move}
use Rattle.cache_flow.specs.Flows.{Part, accesses_of}

-- the state behind a list of accesses
abbrev pub must_along : Shape → Ages → List ℕ → Ages
must_along shape ages [] = ages
must_along shape ages (next ∷ accesses) = must_along shape (must_accessed shape ages next) accesses

abbrev pub may_along : Shape → Ages → List ℕ → Ages
may_along shape ages [] = ages
may_along shape ages (next ∷ accesses) = may_along shape (may_accessed shape ages next) accesses

-- the state at an access of a node, which is that behind the accesses of the node before it
abbrev pub must_at : Shape → Flow → (ℕ → Ages) → ℕ → ℕ → Ages
must_at shape flow states node place = must_along shape (states node) (take place (accesses_of flow node))

abbrev pub may_at : Shape → Flow → (ℕ → Ages) → ℕ → ℕ → Ages
may_at shape flow states node place = may_along shape (states node) (take place (accesses_of flow node))

abbrev pub younger_at : Shape → Flow → (ℕ → Younger) → ℕ → ℕ → Younger
younger_at shape flow states node place = younger_along shape (states node) (take place (accesses_of flow node))

-- the start's state covers that where nothing is known, and over each move the target's covers what the source's becomes
pub record IsMustSolution (shape : Shape) (flow : Flow) (states : ℕ → Ages) : Type 0 where
  pub start : MustCovers (states flow.start) (must_start shape)
  pub moves : (move : Move) → Contains flow.moves move
      → MustCovers (states move.to) (must_along shape (states move.from) (accesses_of flow move.from))

-- the solution that every other one covers
pub record IsLeastMust (shape : Shape) (flow : Flow) (states : ℕ → Ages) : Type 0 where
  pub solution : IsMustSolution shape flow states
  pub least : (others : ℕ → Ages) → IsMustSolution shape flow others → (node : ℕ) → node < length flow.nodes
      → (line : ℕ) → is_one_of flow.lines line ≡ true → states node line ≤ others node line

-- the start's state covers that where each line may be anywhere, and over each move the target's covers what the source's becomes;
-- no bound is above the number of ways
pub record IsMaySolution (shape : Shape) (flow : Flow) (states : ℕ → Ages) : Type 0 where
  pub within : (node : ℕ) → node < length flow.nodes → AreAges shape (states node)
  pub start : MayCovers (states flow.start) may_start
  pub moves : (move : Move) → Contains flow.moves move
      → MayCovers (states move.to) (may_along shape (states move.from) (accesses_of flow move.from))

-- the solution that every other one covers
pub record IsLeastMay (shape : Shape) (flow : Flow) (states : ℕ → Ages) : Type 0 where
  pub solution : IsMaySolution shape flow states
  pub least : (others : ℕ → Ages) → IsMaySolution shape flow others → (node : ℕ) → node < length flow.nodes
      → (line : ℕ) → is_one_of flow.lines line ≡ true → others node line ≤ states node line

-- at the head of a part the state covers that where nothing is known, and over each move between members the target's covers what
-- the source's becomes
pub record IsYoungerSolution (shape : Shape) (flow : Flow) (part : Part) (states : ℕ → Younger) : Type 0 where
  pub head : YoungerCovers (states part.head) younger_start
  pub moves : (move : Move) → Contains flow.moves move → Contains part.members move.from → Contains part.members move.to
      → YoungerCovers (states move.to) (younger_along shape (states move.from) (accesses_of flow move.from))

-- at some lines the first state knows whatever the second knows, and holds no less for it
pub record YoungerCoversAt (lines : List ℕ) (covering covered : Younger) : Type 0 where
  pub known : (line : ℕ) → is_one_of lines line ≡ true → covered.known line ≡ true → covering.known line ≡ true
  pub held : (line other : ℕ) → is_one_of lines line ≡ true → is_one_of lines other ≡ true
      → covered.known line ≡ true → covered.held line other ≡ true → covering.held line other ≡ true

-- the solution that every other one covers
pub record IsLeastYounger (shape : Shape) (flow : Flow) (part : Part) (states : ℕ → Younger) : Type 0 where
  pub solution : IsYoungerSolution shape flow part states
  pub least : (others : ℕ → Younger) → IsYoungerSolution shape flow part others → (node : ℕ) → Contains part.members node
      → YoungerCoversAt flow.lines (others node) (states node)
