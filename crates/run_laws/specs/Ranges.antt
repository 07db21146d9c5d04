-- Along a run registers hold words and memory holds bytes, and code stays as the image has it. This project's own.
use Rattle.std.specs.Prelude.{◌≡◌, ℕ, ◌<◌, ◌^◌, true, All, Some}
use Rattle.wx_base.specs.declared.image.Image.{Image}
use Rattle.wx_base.specs.declared.machine.Machine.{Machine}
use Rattle.wx_base.specs.Functions.{code_at}
use Rattle.wx_base.specs.Image.{byte_of, has_code, is_code_word}
use Rattle.wx_base.specs.Monitor.{Rules}
use Rattle.wx_base.specs.Run.{IsStart, Start, run_of}
use Rattle.wx_base.specs.State.{State, Went, Next, pc}
use Rattle.wx_base.specs.Step.{current_word, step}

-- the registers hold words, and each address has a byte
pub record IsInRange (state : State) : Type 0 where
  pub words : (r : ℕ) → state.registers r < 2 ^ 32
  pub bytes : (address : ℕ) → state.memory address < 256

-- a step keeps them so
abbrev pub StepsStayInRange : Type 0
StepsStayInRange = (machine : Machine) (image : Image) (state : State) (went : Went) → IsInRange state
    → step machine image state ≡ Next went → IsInRange went.state

-- and keeps each byte of code
abbrev pub StepsKeepCode : Type 0
StepsKeepCode = (machine : Machine) (image : Image) (state : State) (went : Went) → IsInRange state
    → step machine image state ≡ Next went
    → (address : ℕ) → address < 2 ^ 32 → has_code image address ≡ true → went.state.memory address ≡ state.memory address

-- the bytes of code in memory are those of the image
pub record HasCode (image : Image) (state : State) : Type 0 where
  pub code : (address byte : ℕ) → address < 2 ^ 32 → has_code image address ≡ true → byte_of image address ≡ Some byte
      → state.memory address ≡ byte

-- all this holds along every run from a start
abbrev pub RunsStayInRange : Type 0
RunsStayInRange = (machine : Machine) (image : Image) (rules : Rules) (entry : ℕ) (start : Start) (n : ℕ)
    → IsStart machine image entry start → IsInRange (run_of machine image rules entry start n).state

abbrev pub RunsKeepCode : Type 0
RunsKeepCode = (machine : Machine) (image : Image) (rules : Rules) (entry : ℕ) (start : Start) (n : ℕ)
    → IsStart machine image entry start → HasCode image (run_of machine image rules entry start n).state

-- where a word of code stands at pc, it is the image's
abbrev pub CodeIsTheImages : Type 0
CodeIsTheImages = (image : Image) (state : State) → IsInRange state → HasCode image state
    → is_code_word image (state.registers pc) ≡ true → code_at image (state.registers pc) ≡ Some (current_word state)

-- so each instruction that a run executed is the image's at its address
abbrev pub ExecutedWordsAreTheImages : Type 0
ExecutedWordsAreTheImages = (machine : Machine) (image : Image) (rules : Rules) (entry : ℕ) (start : Start) (n : ℕ)
    → IsStart machine image entry start
    → All (λ i. code_at image i.address ≡ Some i.done.entry.word) (run_of machine image rules entry start n).executed
