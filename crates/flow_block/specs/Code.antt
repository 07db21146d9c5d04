-- The instructions of a function as code reads them, and marks on them. This project's own.
use Rattle.std.specs.Prelude.{◌≡◌, ◌<◌, ◌^◌, ◌⊎◌, ℕ, ◌++◌, Bool, true, false, List, [], ◌∷◌, length, slice_index, slice_index_or, if◌then◌else◌, Option, Some, None, Contains}
use Rattle.wx_base.specs.declared.facts.Facts.{Facts}
use Rattle.wx_base.specs.declared.flow.FlowKind.{FlowKind}
use Rattle.wx_base.specs.declared.image.Image.{Image}
use Rattle.wx_base.specs.Facts.{AreAscending}
use Rattle.wx_base.specs.Functions.{code_at}
use Rattle.arm_code.specs.declared.insn.Insn.{Insn}
use Rattle.arm_code.specs.Encoding.{IsValid, decoded, word_of}
use Rattle.flow_block.specs.Blocks.{IsOfFunction, IsLeader}
use Rattle.flow_block.specs.Sites.{behind, is_end, jumps_by}

-- a function of an image with facts
pub record Subject : Type 0 where
  pub image : Image
  pub facts : Facts
  pub entry : ℕ

-- the list has the address at this place
pub record IsPlace (addresses : List ℕ) (address place : ℕ) : Type 0 where
  pub within : place < length addresses
  pub stands : slice_index addresses place ≡ address

-- the list has the address
pub record IsThere (addresses : List ℕ) (address : ℕ) : Type 0 where
  pub place : ℕ
  pub at : IsPlace addresses address place

-- where the list has the address, or that it has it nowhere
abbrev pub Found : List ℕ → ℕ → Option ℕ → Type 0
Found addresses address None = (place : ℕ) → IsPlace addresses address place → ⊥
Found addresses address (Some place) = IsPlace addresses address place

-- the instruction stands at the address
pub record IsInsn (image : Image) (address : ℕ) (insn : Insn) : Type 0 where
  pub stands : code_at image address ≡ Some (word_of insn)
  pub means : decoded (word_of insn) ≡ Some insn
  pub valid : IsValid insn

-- whether the mark at a place is set
abbrev pub is_marked : List Bool → ℕ → Bool
is_marked marks place = slice_index_or marks place false

-- addresses ascending, the instruction at each, and marks at those of the function; none of the function is missing
pub record IsCode (s : Subject) (addresses : List ℕ) (insns : List Insn) (body : List Bool) : Type 0 where
  pub ascending : AreAscending addresses
  pub small : (place : ℕ) → place < length addresses → slice_index addresses place < 2 ^ 32
  pub insn_each : length insns ≡ length addresses
  pub mark_each : length body ≡ length addresses
  pub each : (place : ℕ) (d : Insn) → place < length addresses → IsInsn s.image (slice_index addresses place) (slice_index_or insns place d)
  pub own : (place : ℕ) → place < length addresses → is_marked body place ≡ true → IsOfFunction s.image s.facts s.entry (slice_index addresses place)
  pub whole : (address : ℕ) → IsOfFunction s.image s.facts s.entry address → (place : ℕ) × IsPlace addresses address place × (is_marked body place ≡ true)

-- where an instruction lets blocks begin: at the targets of its jumps, and behind it if it may jump, call, return or end the run
abbrev pub entered_by : Facts → ℕ → FlowKind → List ℕ
entered_by facts address flow = jumps_by facts address flow ++ (if is_end flow then behind address 1 ∷ [] else [])

-- the marks with those of the function besides that stand at some addresses
pub record AreMarked (addresses : List ℕ) (body before after : List Bool) (list : List ℕ) : Type 0 where
  pub long : length after ≡ length before
  pub kept : (place : ℕ) → is_marked before place ≡ true → is_marked after place ≡ true
  pub sound : (place : ℕ) → is_marked after place ≡ true
      → (is_marked before place ≡ true) ⊎ ((is_marked body place ≡ true) × Contains list (slice_index addresses place))
  pub put : (address place : ℕ) → Contains list address → IsPlace addresses address place → is_marked body place ≡ true → is_marked after place ≡ true

-- marks at the addresses of a list where blocks begin whatever stands before
pub record AreLeaders (s : Subject) (addresses : List ℕ) (marks : List Bool) : Type 0 where
  pub long : length marks ≡ length addresses
  pub sound : (place : ℕ) → is_marked marks place ≡ true → IsLeader s.image s.facts s.entry (slice_index addresses place)
  pub whole : (address place : ℕ) → IsPlace addresses address place → IsLeader s.image s.facts s.entry address → is_marked marks place ≡ true
  pub listed : (address : ℕ) → IsLeader s.image s.facts s.entry address → IsThere addresses address

-- addresses and instructions that hold the function
pub record HasCode (s : Subject) (addresses : List ℕ) (insns : List Insn) : Type 0 where
  pub body : List Bool
  pub code : IsCode s addresses insns body
