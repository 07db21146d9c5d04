-- Where blocks begin, while it is found out, and what a block's last instruction leads to. This project's own.
use Rattle.std.specs.Prelude.{◌≡◌, ◌<◌, ◌⊎◌, ◌++◌, [], ◌∷◌, slice_set, ℕ, suc, true, false, Bool, List, length, slice_index, if◌then◌else◌, Some, None, Contains, map, All}
use Rattle.wx_base.specs.declared.machine.Machine.{Machine}
use Rattle.wx_base.specs.Facts.{AreAscending}
use Rattle.wx_base.specs.Functions.{callees_at}
use Rattle.flow_block.specs.declared.block.Block.{Block}
use Rattle.flow_block.specs.declared.blocks.Ending.{Ending}
use Rattle.flow_block.specs.Blocks.{IsLeader, IsLength, Begins, IsBlock}
use Rattle.flow_block.specs.Code.{Subject, IsPlace, is_marked}
use Rattle.flow_block.specs.Sites.{behind, flow_at, is_end, jumps_at, goes_past_at}

-- the block that begins at the start is cut before the next address
pub record IsCut (s : Subject) (machine : Machine) (start next : ℕ) : Type 0 where
  pub last : ℕ
  pub count : IsLength s.image s.facts machine s.entry start (suc last)
  pub unended : is_end (flow_at s.image (behind start last)) ≡ false
  pub next_is : next ≡ behind start (suc last)

-- the list has the addresses whose marks are set, ascending
pub record AreThoseMarked (addresses : List ℕ) (marks : List Bool) (list : List ℕ) : Type 0 where
  pub ascending : AreAscending list
  pub sound : (i : ℕ) → i < length list → (place : ℕ) × IsPlace addresses (slice_index list i) place × (is_marked marks place ≡ true)
  pub whole : (address place : ℕ) → IsPlace addresses address place → is_marked marks place ≡ true → Contains list address

-- Some starts of blocks are marked, and queued: all where blocks begin whatever stands before, and the cuts of the first so
-- many of the queue.
pub record StartsTo (s : Subject) (machine : Machine) (addresses : List ℕ) (marks : List Bool) (queue : List ℕ) (upto : ℕ) : Type 0 where
  pub long : length marks ≡ length addresses
  pub sound : (i : ℕ) → i < length queue → Begins s.image s.facts machine s.entry (slice_index queue i)
  pub queued : (address place : ℕ) → IsPlace addresses address place → is_marked marks place ≡ true → Contains queue address
  pub leaders : (address place : ℕ) → IsPlace addresses address place → IsLeader s.image s.facts s.entry address → is_marked marks place ≡ true
  pub done : (i next place : ℕ) → i < upto → IsCut s machine (slice_index queue i) next → IsPlace addresses next place → is_marked marks place ≡ true

-- the start is marked and queued before
pub record WasAdded (addresses : List ℕ) (start : ℕ) (marks marks_then : List Bool) (queue queue_then : List ℕ) : Type 0 where
  pub place : ℕ
  pub at : IsPlace addresses start place
  pub marked : is_marked marks place ≡ true
  pub marks_are : marks_then ≡ marks
  pub queue_is : queue_then ≡ queue

-- the start is marked and queued now
pub record IsAddedNow (addresses : List ℕ) (start : ℕ) (marks marks_then : List Bool) (queue queue_then : List ℕ) : Type 0 where
  pub place : ℕ
  pub at : IsPlace addresses start place
  pub marks_are : marks_then ≡ slice_set marks place true
  pub queue_is : queue_then ≡ queue ++ start ∷ []

-- what adding a start does
abbrev pub AddsStart : List ℕ → ℕ → List Bool → List Bool → List ℕ → List ℕ → Type 0
AddsStart addresses start marks marks_then queue queue_then =
    WasAdded addresses start marks marks_then queue queue_then ⊎ IsAddedNow addresses start marks marks_then queue queue_then

-- marks at the addresses where blocks begin
pub record AreStarts (s : Subject) (machine : Machine) (addresses : List ℕ) (marks : List Bool) : Type 0 where
  pub long : length marks ≡ length addresses
  pub sound : (address place : ℕ) → IsPlace addresses address place → is_marked marks place ≡ true → Begins s.image s.facts machine s.entry address
  pub whole : (address place : ℕ) → IsPlace addresses address place → Begins s.image s.facts machine s.entry address → is_marked marks place ≡ true

-- what the instruction at an address, the last of a block, leads to
pub record IsEnding (s : Subject) (address : ℕ) (ending : Ending) : Type 0 where
  pub next : ending.next ≡ (if goes_past_at s.image address then Some (behind address 1) else None)
  pub jumps : ending.jumps ≡ jumps_at s.image s.facts address
  pub calls : ending.calls ≡ callees_at s.image s.facts address
  pub ret : ending.ret ≡ (flow_at s.image address).ret

-- blocks begin at all of these addresses
pub record AllBegin (s : Subject) (machine : Machine) (starts : List ℕ) : Type 0 where
  pub each : (i : ℕ) → i < length starts → Begins s.image s.facts machine s.entry (slice_index starts i)

-- these are the blocks that begin at these addresses
pub record AreBlocksAt (s : Subject) (machine : Machine) (starts : List ℕ) (blocks : List Block) : Type 0 where
  pub starts_are : map (λ b. b.start) blocks ≡ starts
  pub each : All (λ b. IsBlock s.image s.facts machine s.entry b) blocks
