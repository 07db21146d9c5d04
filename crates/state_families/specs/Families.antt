-- The vectors of the nodes of an unfolding: those that runs may have when they come to the node, or, where these are too many, one that
-- covers them all. They are made in rounds. A vector is told by its slots. This project's own.
use Rattle.std.specs.Prelude.{◌≡◌, ◌⊎◌, ◌↔◌, ℕ, ◌+◌, ◌<◌, ◌≤◌, ◌==◌, List, [], ◌∷◌, ◌++◌, length, map, take, Contains, slice_get, Option, Some, None, if◌then◌else◌}
use Rattle.std.specs.List.Sorted.{IsStrictlySortedBy}
use Rattle.std.specs.Ordering.{nat_cmp}
use Rattle.std.specs.Cmp.Lexicographic.{slice_cmp}
use Rattle.wx_base.specs.declared.machine.Machine.{Machine}
use Rattle.wx_base.specs.Recurrence.{slot}
use Rattle.wx_base.specs.Vector.{Covers, slot_count, zero_slots}
use Rattle.wx_base.specs.Blocks.{exit_from}
use Rattle.xdd_table.specs.Diagram.{Combination}
use Rattle.pipe_time.specs.declared.vector.Vector.{Vector}
use Rattle.pipe_block.specs.Events.{entries_of}
use Rattle.flow_block.specs.declared.block.Block.{Block}
use Rattle.flow_ctx.specs.declared.unfolded.Edge.{Edge}
use Rattle.flow_ctx.specs.declared.unfolded.Unfolded.{Unfolded}
use Rattle.cache_class.specs.declared.class.Class.{Class}
use Rattle.cache_class.specs.declared.class.Classes.{Classes}
use Rattle.cache_class.specs.Allowed.{IsAllowed}
use Rattle.cert_rules.specs.Rules.{IsClassed}
use Rattle.state_families.specs.declared.family_set.FamilySet.{FamilySet}
use Rattle.state_families.specs.declared.family_set.Joined.{Joined}
use Rattle.state_families.specs.declared.node_set.NodeSet.{NodeSet}

-- ---- exits
-- the slots are those of an exit along an edge from a vector, under a combination that the classes allow
pub record IsExitOf (u : Unfolded) (m : Machine) (classes : Classes) (edge : Edge) (source slots : List ℕ) : Type 0 where
  pub block : Block
  pub kinds : List Class
  pub f : Combination
  pub classed : IsClassed u classes edge.from block kinds
  pub allowed : IsAllowed kinds f
  pub is : slots ≡ (exit_from m source (entries_of block f) edge.taken).slots

-- such an exit along an edge, which leads from one node to another
pub record IsExitTo (u : Unfolded) (m : Machine) (classes : Classes) (from to : ℕ) (source slots : List ℕ) : Type 0 where
  pub number : ℕ
  pub edge : Edge
  pub stands : slice_get u.edges number ≡ Some edge
  pub leaves : edge.from ≡ from
  pub comes : edge.to ≡ to
  pub exits : IsExitOf u m classes edge source slots

-- a list of lists has it at a place
pub record IsListedAt (lists : List (List (List ℕ))) (place : ℕ) (slots : List ℕ) : Type 0 where
  pub list : List (List ℕ)
  pub stands : slice_get lists place ≡ Some list
  pub listed : Contains list slots

-- the vector is one of a node's
pub record IsVectorOf (sets : List NodeSet) (node : ℕ) (slots : List ℕ) : Type 0 where
  pub set : NodeSet
  pub stands : slice_get sets node ≡ Some set
  pub listed : Contains set.vectors slots

-- it is an exit into a node, where `Exits` has the exits and `Of` the vectors that nodes have
pub record Arrives (Exits : ℕ → ℕ → List ℕ → List ℕ → Type 0) (Of : ℕ → List ℕ → Type 0) (node : ℕ) (slots : List ℕ) : Type 0 where
  pub from : ℕ
  pub source : List ℕ
  pub listed : Of from source
  pub exits : Exits from node source slots

-- ---- a round at a node
-- the slots are, one by one, the greatest of some vectors
pub record IsGreatest (In : List ℕ → Type 0) (slots : List ℕ) : Type 0 where
  pub long : length slots ≡ slot_count
  pub covers : (other : List ℕ) → In other → Covers slots other
  pub reached : (k : ℕ) → k < slot_count → (other : List ℕ) × In other × (slot slots k ≡ slot other k)

-- the vectors of a list are those of a set, and ascend as lists of their slots
pub record IsUnion (In : List ℕ → Type 0) (union : List (List ℕ)) : Type 0 where
  pub ascending : IsStrictlySortedBy (slice_cmp nat_cmp) union
  pub exact : (slots : List ℕ) → Contains union slots ↔ In slots

-- What becomes of a node in a round, by the union of its vectors and the exits into it: a joined node stays joined; another is joined if its
-- vectors are more than the machine allows, and then keeps the first of them.
pub data NextSet (states : ℕ) (In : List ℕ → Type 0) : NodeSet → NodeSet → Type 0 where
  grows : (vectors union : List (List ℕ)) → IsUnion In union → length union ≤ states
      → NextSet states In (record { vectors = vectors; kept = None }) (record { vectors = union; kept = None })
  joins : (vectors union : List (List ℕ)) (slots : List ℕ) → IsUnion In union → states < length union → IsGreatest In slots
      → NextSet states In (record { vectors = vectors; kept = None })
      (record { vectors = slots ∷ []; kept = Some (take (states + 1) union) })
  stays : (vectors kept : List (List ℕ)) (slots : List ℕ) → IsGreatest In slots
      → NextSet states In (record { vectors = vectors; kept = Some kept })
      (record { vectors = slots ∷ []; kept = Some kept })

-- ---- rounds, where `Exits` has the exits from a node's vector to another node
-- a vector that a node has or that comes to it
abbrev pub IsInUnion : (ℕ → ℕ → List ℕ → List ℕ → Type 0) → List NodeSet → ℕ → List ℕ → Type 0
IsInUnion Exits sets node slots = IsVectorOf sets node slots ⊎ Arrives Exits (IsVectorOf sets) node slots

-- a node's set before a round and after it
pub record IsNext (Exits : ℕ → ℕ → List ℕ → List ℕ → Type 0) (states : ℕ) (sets next : List NodeSet) (node : ℕ) : Type 0 where
  pub old : NodeSet
  pub new : NodeSet
  pub before : slice_get sets node ≡ Some old
  pub after : slice_get next node ≡ Some new
  pub becomes : NextSet states (IsInUnion Exits sets node) old new

-- a round over so many nodes: each node's set becomes the next
pub record IsRound (Exits : ℕ → ℕ → List ℕ → List ℕ → Type 0) (states count : ℕ) (sets next : List NodeSet) : Type 0 where
  pub long : length sets ≡ count
  pub same : length next ≡ count
  pub each : (node : ℕ) → node < count → IsNext Exits states sets next node

-- the sets before the first round: the vector of the empty pipeline at the start, and none elsewhere
pub record AreFirst (count start : ℕ) (sets : List NodeSet) : Type 0 where
  pub long : length sets ≡ count
  pub each : (node : ℕ) → node < count
      → slice_get sets node ≡ Some (record { vectors = if node == start then zero_slots ∷ [] else []; kept = None })

-- the sets after some rounds
pub data AreAfterRounds (Exits : ℕ → ℕ → List ℕ → List ℕ → Type 0) (states count start : ℕ) : List NodeSet → Type 0 where
  first : (sets : List NodeSet) → AreFirst count start sets → AreAfterRounds Exits states count start sets
  next : (before sets : List NodeSet) → AreAfterRounds Exits states count start before → IsRound Exits states count before sets
      → AreAfterRounds Exits states count start sets

-- what the rounds come to when one of them changes nothing
pub record AreSettled (Exits : ℕ → ℕ → List ℕ → List ℕ → Type 0) (states count start : ℕ) (sets : List NodeSet) : Type 0 where
  pub rounds : AreAfterRounds Exits states count start sets
  pub settled : IsRound Exits states count sets sets

-- ---- the answer
-- the vector with these slots
abbrev pub vector_of : List ℕ → Vector
vector_of slots = record { slots = slots }

-- a node as a joined one, if it is
abbrev pub joined_one : ℕ → Option (List (List ℕ)) → List Joined
joined_one number None = []
joined_one number (Some kept) = record { node = number; kept = map vector_of kept } ∷ []

-- the joined ones of some nodes, which are numbered on from a number
abbrev pub joined_from : ℕ → List NodeSet → List Joined
joined_from number [] = []
joined_from number (set ∷ sets) = joined_one number set.kept ++ joined_from (number + 1) sets

-- the vectors of an unfolding
pub record AreFamilies (u : Unfolded) (m : Machine) (classes : Classes) (f : FamilySet) : Type 0 where
  pub sets : List NodeSet
  pub settled : AreSettled (IsExitTo u m classes) m.states (length u.nodes) u.start sets
  pub vectors : f.vectors ≡ map (λ set. map vector_of set.vectors) sets
  pub joined : f.joined ≡ joined_from 0 sets
