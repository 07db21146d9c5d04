-- Solutions over the moves of a flow, whatever the states are. This project's own; the form is that of textbooks on abstract
-- interpretation.
use Rattle.std.specs.Prelude.{◌≡◌, ◌↔◌, ℕ, ◌<◌, ◌==◌, Bool, true, false, List, [], ◌∷◌, length, All, Contains, slice_get, Some}
use Rattle.wx_base.specs.declared.machine.Shape.{Shape}
use Rattle.cache_ages.specs.Bounds.{is_one_of}
use Rattle.cache_flow.specs.declared.flow.Flow.{Flow}
use Rattle.cache_flow.specs.declared.flow.Move.{Move}
use Rattle.cache_flow.specs.Flows.{Part, accesses_of}

-- what is known behind a list of accesses
abbrev pub along : {V : Type 0} → (V → ℕ → V) → V → List ℕ → V
along access known [] = known
along access known (next ∷ accesses) = along access (access known next) accesses

-- over a move the target's state covers what the source's becomes
abbrev pub Follows : {V : Type 0} → (V → V → Type 0) → (V → ℕ → V) → Flow → (ℕ → V) → Move → Type 0
Follows Covers access flow states move = Covers (states move.to) (along access (states move.from) (accesses_of flow move.from))

-- that is so over each of some moves
pub record FollowsEach {V : Type 0} (Covers : V → V → Type 0) (access : V → ℕ → V) (flow : Flow) (moves : List Move) (states : ℕ → V) : Type 0 where
  pub each : (move : Move) → Contains moves move → Follows Covers access flow states move

-- each of some states is covered by the one with its number
pub record AreBelow {S V : Type 0} (Covers : V → V → Type 0) (known : S → V) (states : List S) (others : ℕ → V) : Type 0 where
  pub each : (number : ℕ) (state : S) → slice_get states number ≡ Some state → Covers (others number) (known state)

-- over each of some moves the state of the target in a list covers what the source's becomes
pub record AreSettled {S V : Type 0} (Covers : V → V → Type 0) (access : V → ℕ → V) (known : S → V) (flow : Flow) (moves : List Move) (states : List S) : Type 0 where
  pub each : (move : Move) (from to : S) → Contains moves move → slice_get states move.from ≡ Some from → slice_get states move.to ≡ Some to
      → Covers (known to) (along access (known from) (accesses_of flow move.from))

-- States raised so far as some moves ask: each covers what it was, and no solution of the moves that covered all of them ceases to.
pub record AreRaised {S V : Type 0} (Covers : V → V → Type 0) (access : V → ℕ → V) (known : S → V) (flow : Flow) (moves : List Move) (old new : List S) : Type 0 where
  pub long : length new ≡ length old
  pub grown : (number : ℕ) (before after : S) → slice_get old number ≡ Some before → slice_get new number ≡ Some after
      → Covers (known after) (known before)
  pub least : (others : ℕ → V) → FollowsEach Covers access flow moves others → AreBelow Covers known old others
      → AreBelow Covers known new others

-- one state behind some accesses: it tells what the definition tells
pub record IsBehind {S V : Type 0} (Covers : V → V → Type 0) (access : V → ℕ → V) (known : S → V) (accesses : List ℕ) (before after : S) : Type 0 where
  pub covers : Covers (known after) (along access (known before) accesses)
  pub least : (other : V) → Covers other (known before) → Covers (along access other accesses) (known after)

-- states of one cache and one list of lines
pub record AreAlike {S : Type 0} (IsOf : S → Type 0) (states : List S) : Type 0 where
  pub each : (number : ℕ) (state : S) → slice_get states number ≡ Some state → IsOf state

-- a state of this cache and these lines, in range
pub record IsOf {S V : Type 0} (known : S → V) (shape_of : S → Shape) (lines_of : S → List ℕ) (IsWithin : Shape → List ℕ → V → Type 0) (shape : Shape) (lines : List ℕ) (state : S) : Type 0 where
  pub of_shape : shape_of state ≡ shape
  pub of_lines : lines_of state ≡ lines
  pub within : IsWithin shape lines (known state)

-- nodes access listed lines
pub record AreListed (flow : Flow) : Type 0 where
  pub each : (number : ℕ) (accesses : List ℕ) → slice_get flow.nodes number ≡ Some accesses
      → All (λ line. is_one_of flow.lines line ≡ true) accesses

-- moves lead from nodes to nodes
pub record AreWithin (flow : Flow) (moves : List Move) : Type 0 where
  pub from : All (λ move. move.from < length flow.nodes) moves
  pub to : All (λ move. move.to < length flow.nodes) moves

-- What is known at a node before anything is followed: at the first node what is known where runs start, and elsewhere what each
-- fair state covers.
pub record IsFirst {S V : Type 0} (known : S → V) (shape_of : S → Shape) (lines_of : S → List ℕ) (IsWithin : Shape → List ℕ → V → Type 0)
    (Covers : List ℕ → V → V → Type 0) (start : Shape → V) (IsFair : Shape → V → Type 0) (shape : Shape) (lines : List ℕ) (at : Bool) (state : S) : Type 0 where
  pub of : IsOf known shape_of lines_of IsWithin shape lines state
  pub covers : at ≡ true → Covers lines (known state) (start shape)
  pub covered : at ≡ true → Covers lines (start shape) (known state)
  pub elsewhere : at ≡ false → (other : V) → IsFair shape other → Covers lines other (known state)

pub record AreFirst {S V : Type 0} (known : S → V) (shape_of : S → Shape) (lines_of : S → List ℕ) (IsWithin : Shape → List ℕ → V → Type 0)
    (Covers : List ℕ → V → V → Type 0) (start : Shape → V) (IsFair : Shape → V → Type 0) (shape : Shape) (lines : List ℕ) (first : ℕ) (states : List S) : Type 0 where
  pub each : (number : ℕ) (state : S) → slice_get states number ≡ Some state
      → IsFirst known shape_of lines_of IsWithin Covers start IsFair shape lines (number == first) state

-- the states of the solution that every fair one covers
pub record IsLeast {S V : Type 0} (known : S → V) (Covers : List ℕ → V → V → Type 0) (accessed : Shape → V → ℕ → V) (start : Shape → V)
    (IsFair : Shape → V → Type 0) (shape : Shape) (flow : Flow) (moves : List Move) (first : ℕ) (states : List S) : Type 0 where
  pub begins : (state : S) → slice_get states first ≡ Some state → Covers flow.lines (known state) (start shape)
  pub settled : AreSettled (Covers flow.lines) (accessed shape) known flow moves states
  pub least : (others : ℕ → V) → ((number : ℕ) → number < length flow.nodes → IsFair shape (others number)) → Covers flow.lines (others first) (start shape)
      → FollowsEach (Covers flow.lines) (accessed shape) flow moves others → AreBelow (Covers flow.lines) known states others

-- the moves of a flow within a part
pub record AreInner (flow : Flow) (part : Part) (inner : List Move) : Type 0 where
  pub exact : (move : Move) → Contains inner move ↔ (Contains flow.moves move × Contains part.members move.from × Contains part.members move.to)
