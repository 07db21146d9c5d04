-- Why an image with facts is refused: the cause of each refusal, and which of them comes.
use Rattle.std.specs.Prelude.{◌≡◌, ◌<◌, ◌≤◌, ◌⊎◌, ℕ, ◌++◌, true, false, [], Contains, Some, None}
use Rattle.wx_base.specs.declared.facts.Facts.{Facts}
use Rattle.wx_base.specs.declared.image.Image.{Image}
use Rattle.wx_base.specs.declared.machine.Machine.{Machine}
use Rattle.wx_base.specs.Facts.{targets_of}
use Rattle.wx_base.specs.Functions.{code_at, ways_at, callees_at, IsReached, IsEntry, IsRecursive, fact_of}
use Rattle.wx_base.specs.Image.{is_code_word}
use Rattle.wx_base.specs.Paths.{IsHead, IsOnForwardCycle}
use Rattle.arm_code.specs.Encoding.{decoded}
use Rattle.flow_graph.specs.declared.error.FlowError.{FlowError}
use Rattle.flow_graph.specs.declared.error.FlowError.TheVariants.{NoMemory, Unsupported, LeavesCode, IndirectNoTargets, BadTarget, Recursion, Irreducible, LoopNoBound, TooManyBlocks}
use Rattle.flow_graph.specs.declared.program.Program.{Program}
use Rattle.flow_graph.specs.Program.{IsProgram, block_count}
use Rattle.flow_block.specs.Sites.{behind, flow_at, jumps_at}

-- a word that is reached and no instruction
pub record IsForeign (image : Image) (facts : Facts) (start address word : ℕ) : Type 0 where
  pub reached : IsReached image facts start address
  pub stands : code_at image address ≡ Some word
  pub foreign : decoded word ≡ None

-- an instruction that is reached may go on at an address, the one behind it
pub record IsGoneTo (image : Image) (facts : Facts) (start address : ℕ) : Type 0 where
  pub from : ℕ
  pub reached : IsReached image facts start from
  pub next : (flow_at image from).next ≡ true
  pub behind : address ≡ behind from 1

-- no word of code stands at the start, or where an instruction goes on
pub record IsOutside (image : Image) (facts : Facts) (start address : ℕ) : Type 0 where
  pub come : (address ≡ start) ⊎ IsGoneTo image facts start address
  pub empty : is_code_word image address ≡ false

-- an indirect jump, or a call by register, that is reached and for which no target is listed
pub record IsUntold (image : Image) (facts : Facts) (start address : ℕ) : Type 0 where
  pub reached : IsReached image facts start address
  pub untold : (((flow_at image address).indirect ≡ true) × (targets_of facts.branches address ≡ []))
      ⊎ (((flow_at image address).call_any ≡ true) × (targets_of facts.calls address ≡ []))

-- a target of a jump or call that is reached is no word of code
pub record IsBadTarget (image : Image) (facts : Facts) (start address target : ℕ) : Type 0 where
  pub reached : IsReached image facts start address
  pub listed : Contains (jumps_at image facts address ++ callees_at image facts address) target
  pub empty : is_code_word image target ≡ false

-- a call that is reached and recursive
pub record IsRecursion (image : Image) (facts : Facts) (start address : ℕ) : Type 0 where
  pub reached : IsReached image facts start address
  pub recursive : IsRecursive image facts address

-- an address on a cycle of some function's ways that are no back edges
pub record IsIrreducible (image : Image) (facts : Facts) (start address : ℕ) : Type 0 where
  pub entry : ℕ
  pub function : IsEntry image facts start entry
  pub cycle : IsOnForwardCycle (ways_at image facts) entry address

-- a head of some function's loop that no fact names
pub record IsUnbounded (image : Image) (facts : Facts) (start address : ℕ) : Type 0 where
  pub entry : ℕ
  pub function : IsEntry image facts start entry
  pub head : IsHead (ways_at image facts) entry address
  pub unbounded : fact_of facts address ≡ None

-- the greatest number of blocks
abbrev pub most_blocks : ℕ
most_blocks = 16384

-- the image has a program, but with too many blocks
pub record HasTooManyBlocks (image : Image) (facts : Facts) (start : ℕ) (machine : Machine) : Type 0 where
  pub program : Program
  pub is_program : IsProgram image facts start machine program
  pub many : most_blocks < block_count program

-- the cause of each refusal; want of memory has none
abbrev pub IsCause : Image → Facts → ℕ → Machine → FlowError → Type 0
IsCause image facts start machine NoMemory = ⊥
IsCause image facts start machine (Unsupported address word) = IsForeign image facts start address word
IsCause image facts start machine (LeavesCode address) = IsOutside image facts start address
IsCause image facts start machine (IndirectNoTargets address) = IsUntold image facts start address
IsCause image facts start machine (BadTarget address target) = IsBadTarget image facts start address target
IsCause image facts start machine (Recursion address) = IsRecursion image facts start address
IsCause image facts start machine (Irreducible address) = IsIrreducible image facts start address
IsCause image facts start machine (LoopNoBound address) = IsUnbounded image facts start address
IsCause image facts start machine TooManyBlocks = HasTooManyBlocks image facts start machine

-- where a refusal stands in the order of kinds
abbrev pub rank : FlowError → ℕ
rank NoMemory = 0
rank (Unsupported address word) = 1
rank (LeavesCode address) = 2
rank (IndirectNoTargets address) = 3
rank (BadTarget address target) = 4
rank (Recursion address) = 5
rank (Irreducible address) = 6
rank (LoopNoBound address) = 7
rank TooManyBlocks = 8

-- the address, and the target, that decide among refusals of one kind
abbrev pub address_of : FlowError → ℕ
address_of NoMemory = 0
address_of (Unsupported address word) = address
address_of (LeavesCode address) = address
address_of (IndirectNoTargets address) = address
address_of (BadTarget address target) = address
address_of (Recursion address) = address
address_of (Irreducible address) = address
address_of (LoopNoBound address) = address
address_of TooManyBlocks = 0

abbrev pub target_of : FlowError → ℕ
target_of (BadTarget address target) = target
target_of _ = 0

-- one refusal comes before another, or is no other: by kind, then by address, then by target
abbrev pub IsNotAfter : FlowError → FlowError → Type 0
IsNotAfter e f =
    (rank e < rank f)
    ⊎ ((rank e ≡ rank f) × ((address_of e < address_of f) ⊎ ((address_of e ≡ address_of f) × (target_of e ≤ target_of f))))

-- the refusal that is due: its cause stands, and none before it
pub record IsFirst (image : Image) (facts : Facts) (start : ℕ) (machine : Machine) (e : FlowError) : Type 0 where
  pub cause : IsCause image facts start machine e
  pub first : (other : FlowError) → IsCause image facts start machine other → IsNotAfter e other

-- no cause of the first so many kinds stands
pub record IsClean (image : Image) (facts : Facts) (start : ℕ) (machine : Machine) (kinds : ℕ) : Type 0 where
  pub none : (e : FlowError) → IsCause image facts start machine e → rank e ≤ kinds → ⊥

-- the program that an image has with facts, from a start and on a machine: no cause stands against it
pub record IsSoundProgram (image : Image) (facts : Facts) (start : ℕ) (machine : Machine) (program : Program) : Type 0 where
  pub is : IsProgram image facts start machine program
  pub sound : (cause : FlowError) → IsCause image facts start machine cause → ⊥
