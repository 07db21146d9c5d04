-- A run stays in what ways and calls lead to from its entry, and each of its frames in its function. This project's own.
use Rattle.std.specs.Prelude.{◌≡◌, ◌≢◌, ℕ, true, [], All, Some, None}
use Rattle.wx_base.specs.declared.facts.Facts.{Facts}
use Rattle.wx_base.specs.declared.image.Image.{Image}
use Rattle.wx_base.specs.declared.machine.Machine.{Machine}
use Rattle.wx_base.specs.declared.step.Why.TheVariants.{Fetch, Word}
use Rattle.wx_base.specs.Functions.{code_at, leads_at, ways_at, IsEntry, IsReached}
use Rattle.wx_base.specs.Image.{is_code_word}
use Rattle.wx_base.specs.Instruction.{kind_of}
use Rattle.wx_base.specs.Monitor.{Rules, Frame}
use Rattle.wx_base.specs.Paths.{Path}
use Rattle.wx_base.specs.Run.{Halted, IsStart, Start, run_of}

-- the rules take the targets of indirect jumps and calls from the facts
pub record TakesTargets (facts : Facts) (rules : Rules) : Type 0 where
  pub branches : rules.branches ≡ facts.branches
  pub calls : rules.calls ≡ facts.calls

-- each instruction that a run executed is reached
abbrev pub RunsStayInReached : Type 0
RunsStayInReached = (machine : Machine) (image : Image) (facts : Facts) (rules : Rules) (entry : ℕ) (start : Start) (n : ℕ)
    → IsStart machine image entry start → TakesTargets facts rules
    → All (λ i. IsReached image facts entry i.address) (run_of machine image rules entry start n).executed

-- a frame is one of a function that is called, and ways of this function lead to what was executed last in it
pub record IsInFunction (image : Image) (facts : Facts) (entry : ℕ) (frame : Frame) : Type 0 where
  pub function : IsEntry image facts entry frame.function
  pub last : (a : ℕ) → frame.last ≡ Some a → Path (ways_at image facts) [] frame.function a

abbrev pub FramesStayInFunctions : Type 0
FramesStayInFunctions = (machine : Machine) (image : Image) (facts : Facts) (rules : Rules) (entry : ℕ) (start : Start) (n : ℕ)
    → IsStart machine image entry start → TakesTargets facts rules
    → All (IsInFunction image facts entry) (run_of machine image rules entry start n).watch.frames

-- wherever ways and calls lead from the entry an instruction stands
pub record LeadsToInstructions (image : Image) (facts : Facts) (entry : ℕ) : Type 0 where
  pub code : (a : ℕ) → Path (leads_at image facts) [] entry a → is_code_word image a ≡ true
  pub insn : (a word : ℕ) → Path (leads_at image facts) [] entry a → code_at image a ≡ Some word → kind_of word ≢ None

-- then no run stops for want of an instruction
abbrev pub RunsFindInstructions : Type 0
RunsFindInstructions = (machine : Machine) (image : Image) (facts : Facts) (rules : Rules) (entry : ℕ) (start : Start) (n : ℕ)
    → IsStart machine image entry start → TakesTargets facts rules → LeadsToInstructions image facts entry
    → ((run_of machine image rules entry start n).end ≢ Some (Halted Fetch)) × ((run_of machine image rules entry start n).end ≢ Some (Halted Word))
