-- Parts of a flow made ready for searches, and where a line is known in them. This project's own.
use Rattle.std.specs.Prelude.{◌≡◌, ◌↔◌, ◌||◌, ℕ, Bool, true, List, length, Contains}
use Rattle.wx_base.specs.declared.machine.Shape.{Shape}
use Rattle.wx_base.specs.CacheStates.{Younger}
use Rattle.cache_ages.specs.Bounds.{is_one_of}
use Rattle.cache_flow.specs.declared.flow.Flow.{Flow}
use Rattle.cache_flow.specs.declared.flow.Move.{Move}
use Rattle.cache_flow.specs.Flows.{Part, accesses_of}
use Rattle.cache_flow.specs.Solutions.{IsYoungerSolution}
use Rattle.cache_kept.specs.declared.stretch.Stretch.{Stretch}
use Rattle.cache_kept.specs.Walk.{is_marked}

-- the marks tell which nodes are members
pub record AreInside (count : ℕ) (members : List ℕ) (marks : List Bool) : Type 0 where
  pub long : length marks ≡ count
  pub exact : (node : ℕ) → (is_marked marks node ≡ true) ↔ Contains members node

-- a move leads from a member to a member
pub record IsInner (moves : List Move) (members : List ℕ) (source target : ℕ) : Type 0 where
  pub move : Contains moves (record { from = source; to = target })
  pub from : Contains members source
  pub to : Contains members target

-- Moves between members lead from each member to each. So what is set by a member's accesses, or holds at its begin, and then
-- holds behind each move from it, holds at all members if it is set by one.
abbrev pub IsCycle : List Move → List ℕ → Type 0
IsCycle moves members =
    (sets holds : ℕ → Bool)
    → ((source target : ℕ) → IsInner moves members source target → (sets source || holds source) ≡ true
    → holds target ≡ true)
    → (source target : ℕ) → Contains members source → sets source ≡ true → Contains members target → holds target ≡ true

-- a part of a flow with so many nodes, ready for searches
pub record IsStretch (count : ℕ) (moves : List Move) (stretch : Stretch) : Type 0 where
  pub inside : AreInside count stretch.members.now stretch.inside.items
  pub cycle : stretch.is_cycle ≡ true → IsCycle moves stretch.members.now

-- marks of nodes at whose begin a line may be known: it goes along moves, and begins where the line is accessed
pub record IsClosed (flow : Flow) (members : List ℕ) (line : ℕ) (marks : List Bool) : Type 0 where
  pub long : length marks ≡ length flow.nodes
  pub goes : (source target : ℕ) → IsInner flow.moves members source target
      → (is_marked marks source || is_one_of (accesses_of flow source) line) ≡ true → is_marked marks target ≡ true

-- at the begin of each marked node the line is known, whatever solution for the part there is
pub record IsSure (shape : Shape) (flow : Flow) (part : Part) (line : ℕ) (marks : List Bool) : Type 0 where
  pub known : (states : ℕ → Younger) → IsYoungerSolution shape flow part states → (node : ℕ)
      → is_marked marks node ≡ true → (states node).known line ≡ true
