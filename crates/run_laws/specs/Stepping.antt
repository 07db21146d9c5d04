-- Which steps may be slow and which end a run, by the word at pc. This project's own.
use Rattle.std.specs.Prelude.{◌≡◌, ℕ, true, false, Any}
use Rattle.wx_base.specs.declared.image.Image.{Image}
use Rattle.wx_base.specs.declared.machine.Machine.{Machine}
use Rattle.wx_base.specs.declared.machine.UnitKind.TheVariants as unit_kind
use Rattle.wx_base.specs.Arithmetic.{passes}
use Rattle.wx_base.specs.Flow.{flow_of}
use Rattle.wx_base.specs.Instruction.{condition, unit_of}
use Rattle.wx_base.specs.State.{State, Went, Next, Ended, pc}
use Rattle.wx_base.specs.Step.{current_word, step}

-- an instruction that may be slow: a multiplication, or a transfer on a machine with a slow region
pub data MayBeSlow (machine : Machine) (word : ℕ) : Type 0 where
  multiplies : unit_of word ≡ unit_kind.Mul → MayBeSlow machine word
  transfers : unit_of word ≡ unit_kind.Mem → Any (λ region. region.slow ≡ true) machine.regions → MayBeSlow machine word

-- no other step is slow
abbrev pub SlowStepsMayBeSlow : Type 0
SlowStepsMayBeSlow = (machine : Machine) (image : Image) (state : State) (went : Went)
    → step machine image state ≡ Next went → went.slow ≡ true → MayBeSlow machine (current_word state)

-- a step that ends the run is one of an instruction that stops it
abbrev pub EndsAreStops : Type 0
EndsAreStops = (machine : Machine) (image : Image) (state : State) → step machine image state ≡ Ended
    → (flow_of (current_word state) (state.registers pc)).stop ≡ true

-- the instruction at pc was passed over, since its condition failed
pub record IsPassedOver (state : State) (went : Went) : Type 0 where
  pub fails : passes (condition (current_word state)) state.flags ≡ false
  pub untaken : went.taken ≡ false

-- an instruction that stops the run goes on only so
abbrev pub StopsGoOnPassedOver : Type 0
StopsGoOnPassedOver = (machine : Machine) (image : Image) (state : State) (went : Went)
    → step machine image state ≡ Next went → (flow_of (current_word state) (state.registers pc)).stop ≡ true → IsPassedOver state went
