-- What the machine does with the instruction at pc, and which instruction that is.
use Rattle.std.specs.Prelude.{◌≡◌}
use Rattle.wx_base.specs.declared.image.Image.{Image}
use Rattle.wx_base.specs.declared.machine.Machine.{Machine}
use Rattle.wx_base.specs.State.{Next, Ended, Stopped}
use Rattle.wx_base.specs.Step.{current_word, step}
use Rattle.arm_code.specs.declared.insn.Insn.{Insn}
use Rattle.arm_code.specs.Encoding.{IsValid, word_of}
use Rattle.arm_step.specs.declared.cpu.Cpu.{Cpu}
use Rattle.arm_step.specs.Cpu.{state_of}
use Rattle.run_machine.specs.declared.look.Looked.{Looked}
use Rattle.run_machine.specs.declared.look.Looked.TheVariants as looked

-- the instruction is the one at pc
pub record IsCurrent (image : Image) (cpu : Cpu) (insn : Insn) : Type 0 where
  pub word : word_of insn ≡ current_word (state_of image cpu)
  pub valid : IsValid insn

-- one step of the machine, from a processor to another
abbrev pub Looks : Machine → Image → Cpu → Cpu → Looked → Type 0
Looks machine image old new (looked.Next insn taken slow) =
    (step machine image (state_of image old) ≡ Next (record { state = state_of image new; taken = taken; slow = slow }))
    × IsCurrent image old insn
Looks machine image old new (looked.Ended insn) =
    (step machine image (state_of image old) ≡ Ended) × (new ≡ old) × IsCurrent image old insn
Looks machine image old new (looked.Stopped why) = (step machine image (state_of image old) ≡ Stopped why) × (new ≡ old)
