-- How a node's vectors grow in a round. This project's own.
use Rattle.std.specs.Prelude.{◌≡◌, ◌⊎◌, ◌↔◌, ℕ, ◌+◌, ◌<◌, List, [], ◌∷◌, length, max, take, Contains, Some}
use Rattle.std.specs.List.Sorted.{IsStrictlySortedBy}
use Rattle.std.specs.Ordering.{nat_cmp}
use Rattle.std.specs.Cmp.Lexicographic.{slice_cmp}
use Rattle.wx_base.specs.Recurrence.{slot}
use Rattle.wx_base.specs.Vector.{slot_count}
use Rattle.state_families.specs.declared.node_set.NodeSet.{NodeSet}
use Rattle.state_families.specs.Families.{IsGreatest}
use Rattle.state_families.specs.Fresh.{IsGrown, left}

-- each slot is the greater of two
pub record AreHigher (a b slots : List ℕ) : Type 0 where
  pub long : length slots ≡ slot_count
  pub each : (k : ℕ) → slot slots k ≡ max (slot a k) (slot b k)

-- What becomes of a node in a round. Where nothing is new it stays as it is; else it may change less often from then on.
pub record IsGrowth (states bound : ℕ) (Arrive : List ℕ → Type 0) (old new : NodeSet) (fresh : List (List ℕ)) : Type 0 where
  pub grown : IsGrown states bound Arrive old new fresh
  pub same : fresh ≡ [] → new ≡ old
  pub fewer : 0 < length fresh → left states bound new < left states bound old

-- the vectors of two lists, ascending; the fresh ones are those that the first lacks, each once
pub record IsMerged (old arrivals union fresh : List (List ℕ)) : Type 0 where
  pub ascending : IsStrictlySortedBy (slice_cmp nat_cmp) union
  pub exact : (slots : List ℕ) → Contains union slots ↔ (Contains old slots ⊎ Contains arrivals slots)
  pub listed : (slots : List ℕ) → Contains fresh slots → Contains union slots
  pub all : (slots : List ℕ) → Contains union slots → Contains old slots ⊎ Contains fresh slots
  pub count : length union ≡ length old + length fresh

-- vectors that a set lacked were added to it, each once
pub record IsAdded (old arrivals union fresh : List (List ℕ)) : Type 0 where
  pub exact : (slots : List ℕ) → Contains union slots ↔ (Contains old slots ⊎ Contains arrivals slots)
  pub listed : (slots : List ℕ) → Contains fresh slots → Contains union slots
  pub all : (slots : List ℕ) → Contains union slots → Contains old slots ⊎ Contains fresh slots
  pub count : length union ≡ length old + length fresh

-- a node is joined: one vector, which is new, stands for those of a list, and the first of them are kept
pub record Joins (states : ℕ) (union : List (List ℕ)) (new : NodeSet) (fresh : List (List ℕ)) : Type 0 where
  pub first : List ℕ
  pub one : List ℕ
  pub listed : Contains union first
  pub great : IsGreatest (λ slots. (slots ≡ first) ⊎ Contains union slots) one
  pub is : new ≡ record { vectors = one ∷ []; kept = Some (take (states + 1) union) }
  pub fresh_is : fresh ≡ one ∷ []
