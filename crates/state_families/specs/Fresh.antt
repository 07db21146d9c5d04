-- Rounds in which a vector brings its exits once, in the round after it came. This project's own.
use Rattle.std.specs.Prelude.{◌≡◌, ◌⊎◌, ℕ, ◌+◌, ◌*◌, ◌-◌, ◌<◌, ◌≤◌, List, [], ◌∷◌, length, sum_by, Contains, slice_get, Option, Some, None, ◌==◌, if◌then◌else◌}
use Rattle.std.specs.List.Sorted.{IsStrictlySortedBy}
use Rattle.std.specs.Ordering.{nat_cmp}
use Rattle.std.specs.Cmp.Lexicographic.{slice_cmp}
use Rattle.wx_base.specs.Vector.{AreWithin, Covers, slot_count, zero_slots}
use Rattle.state_families.specs.declared.node_set.NodeSet.{NodeSet}
use Rattle.state_families.specs.Families.{IsListedAt, IsVectorOf, Arrives, NextSet, AreAfterRounds}

-- a whole vector whose slots are at most the bound
pub record IsBounded (bound : ℕ) (slots : List ℕ) : Type 0 where
  pub long : length slots ≡ slot_count
  pub within : AreWithin bound slots

-- a node has the vector or, if it is joined, one that covers it
abbrev pub IsCoveredBy : List (List ℕ) → Option (List (List ℕ)) → List ℕ → Type 0
IsCoveredBy vectors None slots = Contains vectors slots
IsCoveredBy vectors (Some kept) slots = (one : List ℕ) × (vectors ≡ one ∷ []) × Covers one slots

abbrev pub IsCoveredIn : NodeSet → List ℕ → Type 0
IsCoveredIn set slots = IsCoveredBy set.vectors set.kept slots

pub record IsCoveredAt (sets : List NodeSet) (node : ℕ) (slots : List ℕ) : Type 0 where
  pub set : NodeSet
  pub stands : slice_get sets node ≡ Some set
  pub covered : IsCoveredIn set slots

-- vectors of a node that is not joined: they ascend, and are not too many
pub record IsOpen (states : ℕ) (vectors : List (List ℕ)) : Type 0 where
  pub ascending : IsStrictlySortedBy (slice_cmp nat_cmp) vectors
  pub few : length vectors ≤ states

-- what each set is
abbrev pub IsFit : ℕ → List (List ℕ) → Option (List (List ℕ)) → Type 0
IsFit states vectors None = IsOpen states vectors
IsFit states vectors (Some kept) = (one : List ℕ) × (vectors ≡ one ∷ [])

pub record IsSet (states bound : ℕ) (set : NodeSet) : Type 0 where
  pub fit : IsFit states set.vectors set.kept
  pub bounded : (slots : List ℕ) → Contains set.vectors slots → IsBounded bound slots

-- how far the slots lie below the bound, all together
abbrev pub below : ℕ → List ℕ → ℕ
below bound slots = sum_by (λ time. bound - time) slots

-- how often a set may still change at most
abbrev pub left_of : ℕ → ℕ → List (List ℕ) → Option (List (List ℕ)) → ℕ
left_of states bound vectors None = slot_count * bound + 1 + (states - length vectors)
left_of states bound vectors (Some kept) = sum_by (λ slots. below bound slots) vectors

abbrev pub left : ℕ → ℕ → NodeSet → ℕ
left states bound set = left_of states bound set.vectors set.kept

-- what becomes of a node in a round in which some vectors arrive, and which of its vectors are new
pub record IsGrown (states bound : ℕ) (Arrive : List ℕ → Type 0) (old new : NodeSet) (fresh : List (List ℕ)) : Type 0 where
  pub next : NextSet states (λ slots. Contains old.vectors slots ⊎ Arrive slots) old new
  pub sound : IsSet states bound new
  pub listed : (slots : List ℕ) → Contains fresh slots → Contains new.vectors slots
  pub all : (slots : List ℕ) → Contains new.vectors slots → Contains old.vectors slots ⊎ Contains fresh slots

-- the sets behind some rounds, where the exits of all vectors but the new ones are there
pub record AreReached (Exits : ℕ → ℕ → List ℕ → List ℕ → Type 0) (states bound count start : ℕ) (sets : List NodeSet) (fresh : List (List (List ℕ)))
    : Type 0 where
  pub rounds : AreAfterRounds Exits states count start sets
  pub long : length sets ≡ count
  pub fresh_long : length fresh ≡ count
  pub sound : (node : ℕ) (set : NodeSet) → slice_get sets node ≡ Some set → IsSet states bound set
  pub listed : (node : ℕ) (slots : List ℕ) → IsListedAt fresh node slots → IsVectorOf sets node slots
  pub closed : (from to : ℕ) (source slots : List ℕ) → IsVectorOf sets from source → Exits from to source slots
      → IsListedAt fresh from source ⊎ IsCoveredAt sets to slots

-- each set has grown by what arrives from the vectors that were new
pub record AreGrown (Exits : ℕ → ℕ → List ℕ → List ℕ → Type 0) (states bound : ℕ) (sets : List NodeSet) (fresh : List (List (List ℕ)))
    (next : List NodeSet) (new : List (List (List ℕ))) : Type 0 where
  pub long : length next ≡ length sets
  pub new_long : length new ≡ length sets
  pub each : (node : ℕ) (before after : NodeSet) (list : List (List ℕ)) → slice_get sets node ≡ Some before → slice_get next node ≡ Some after
      → slice_get new node ≡ Some list → IsGrown states bound (Arrives Exits (IsListedAt fresh) node) before after list

-- the same of the nodes before a number; the others stand as they did. No set may change more often than before, and fewer times if something is new.
pub record AreGrownTo (Exits : ℕ → ℕ → List ℕ → List ℕ → Type 0) (states bound count : ℕ) (sets : List NodeSet) (fresh : List (List (List ℕ)))
    (next : List NodeSet) (new : List (List (List ℕ))) : Type 0 where
  pub long : length next ≡ length sets
  pub new_long : length new ≡ count
  pub each : (node : ℕ) (before after : NodeSet) (list : List (List ℕ)) → slice_get sets node ≡ Some before → slice_get next node ≡ Some after
      → slice_get new node ≡ Some list → IsGrown states bound (Arrives Exits (IsListedAt fresh) node) before after list
  pub rest : (node : ℕ) → count ≤ node → slice_get next node ≡ slice_get sets node
  pub no_more : sum_by (left states bound) next ≤ sum_by (left states bound) sets
  pub fewer : (node : ℕ) (list : List (List ℕ)) → slice_get new node ≡ Some list → 0 < length list
      → sum_by (left states bound) next < sum_by (left states bound) sets

-- some list of a list has an element
pub record HasAny (lists : List (List (List ℕ))) : Type 0 where
  pub place : ℕ
  pub list : List (List ℕ)
  pub stands : slice_get lists place ≡ Some list
  pub some : 0 < length list

-- what is new before the first round, of so many nodes
pub record AreFirstFresh (count start : ℕ) (fresh : List (List (List ℕ))) : Type 0 where
  pub long : length fresh ≡ count
  pub each : (node : ℕ) → node < count → slice_get fresh node ≡ Some (if node == start then zero_slots ∷ [] else [])
