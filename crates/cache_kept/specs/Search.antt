-- How a search goes back from an access to a line, in a stay in a part. This project's own.
use Rattle.std.specs.Prelude.{◌≡◌, ◌<◌, ◌≤◌, ◌⊎◌, ℕ, true, false, nat_eq, List, ◌++◌, take, length}
use Rattle.std.specs.Prelude.{slice_index, Contains}
use Rattle.std.specs.List.{IsDistinct}
use Rattle.wx_base.specs.CacheStates.{Younger}
use Rattle.cache_ages.specs.Bounds.{is_one_of}
use Rattle.cache_pers.specs.Stays.{younger_along}
use Rattle.cache_flow.specs.Flows.{Part, IsFlow, accesses_of}
use Rattle.cache_flow.specs.Solutions.{IsYoungerSolution, younger_at}
use Rattle.cache_kept.specs.declared.look.Look.{Look}
use Rattle.cache_kept.specs.Newer.{newer}
use Rattle.cache_kept.specs.Parts.{AreInside, IsClosed, IsInner, IsSure}
use Rattle.cache_kept.specs.Walk.{is_marked}
use Rattle.cache_kept.specs.Ways.{AreSources}

-- what a search looks at fits together
pub record IsLook (look : Look) : Type 0 where
  pub flow : IsFlow look.flow.now
  pub sources : AreSources (length look.flow.now.nodes) look.flow.now.moves look.sources.now
  pub inside : AreInside (length look.flow.now.nodes) look.members.now look.inside.now
  pub closed : IsClosed look.flow.now look.members.now look.line look.known.now

-- the part; where it is entered does not matter
abbrev pub part_at : Look → Part
part_at look = record { head = 0; members = look.members.now }

-- the solutions for it
abbrev pub Solves : Look → (ℕ → Younger) → Type 0
Solves look states = IsYoungerSolution look.shape look.flow.now (part_at look) states

-- what a solution tells behind all accesses of a node
abbrev pub behind : Look → (ℕ → Younger) → ℕ → Younger
behind look states node = younger_along look.shape (states node) (accesses_of look.flow.now node)

-- whatever solution there is, at the access the line is known and the other one is held for it
pub record IsHeldAt (look : Look) (node place rival : ℕ) : Type 0 where
  pub known : (states : ℕ → Younger) → Solves look states
      → (younger_at look.shape look.flow.now states node place).known look.line ≡ true
  pub held : (states : ℕ → Younger) → Solves look states
      → (younger_at look.shape look.flow.now states node place).held look.line rival ≡ true

-- whatever solution there is, what is held for the line behind a node is held for it at the access
pub record LeadsTo (look : Look) (node place from : ℕ) : Type 0 where
  pub known : (states : ℕ → Younger) → Solves look states → (rival : ℕ)
      → (behind look states from).known look.line ≡ true → (behind look states from).held look.line rival ≡ true
      → (younger_at look.shape look.flow.now states node place).known look.line ≡ true
  pub held : (states : ℕ → Younger) → Solves look states → (rival : ℕ)
      → (behind look states from).known look.line ≡ true → (behind look states from).held look.line rival ≡ true
      → (younger_at look.shape look.flow.now states node place).held look.line rival ≡ true

-- the search went back over accesses of a node: it has what these add, and where they leave the line alone it came to the
-- sources
pub record IsPassed (look : Look) (found queue : List ℕ) (node : ℕ) (accesses : List ℕ) : Type 0 where
  pub noted : (rival : ℕ) → Contains (newer look.shape look.line (is_marked look.known.now node) accesses) rival
      → Contains found rival
  pub sources : is_one_of accesses look.line ≡ false → (source : ℕ)
      → IsInner look.flow.now.moves look.members.now source node → Contains queue source

-- one step back: what it adds, and where it comes to
pub record IsStep (look : Look) (node : ℕ) (accesses found queue found_after queue_after : List ℕ) : Type 0 where
  pub more : List ℕ
  pub grown : queue_after ≡ queue ++ more
  pub free : (source : ℕ) → Contains more source → is_one_of accesses look.line ≡ false
  pub inner : (source : ℕ) → Contains more source → IsInner look.flow.now.moves look.members.now source node
  pub kept : (rival : ℕ) → Contains found rival → Contains found_after rival
  pub new : (rival : ℕ) → Contains found_after rival
      → Contains found rival ⊎ Contains (newer look.shape look.line (is_marked look.known.now node) accesses) rival
  pub passed : IsPassed look found_after queue_after node accesses

-- a search that went back over the first so many nodes that it came to
pub record IsSearched (look : Look) (node place count : ℕ) (found queue : List ℕ) : Type 0 where
  pub distinct : IsDistinct nat_eq found
  pub listed : (rival : ℕ) → Contains found rival → is_one_of look.flow.now.lines rival ≡ true
  pub sure : IsSure look.shape look.flow.now (part_at look) look.line look.known.now → (rival : ℕ)
      → Contains found rival → IsHeldAt look node place rival
  pub members : (source : ℕ) → Contains queue source → Contains look.members.now source
  pub leads : (source : ℕ) → Contains queue source → LeadsTo look node place source
  pub first : IsPassed look found queue node (take place (accesses_of look.flow.now node))
  pub each : (k : ℕ) → k < count
      → IsPassed look found queue (slice_index queue k) (accesses_of look.flow.now (slice_index queue k))

-- a search that is over: it found as many rivals as there are ways, or went back over all nodes that it came to
pub record IsOver (look : Look) (node place : ℕ) (found : List ℕ) : Type 0 where
  pub count : ℕ
  pub queue : List ℕ
  pub searched : IsSearched look node place count found queue
  pub over : (look.shape.ways ≤ length found) ⊎ (length queue ≤ count)
