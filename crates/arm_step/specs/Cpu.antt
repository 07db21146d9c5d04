-- A processor's registers, flags and memory, together with an image, as a state of the machine. This project's own.
use Rattle.std.specs.Prelude.{ℕ, List, slice_index, if◌then◌else◌}
use Rattle.std.specs.Option.{unwrap_or}
use Rattle.wx_base.specs.declared.image.Image.{Image}
use Rattle.wx_base.specs.declared.step.Flags.{Flags}
use Rattle.wx_base.specs.Image.{byte_of}
use Rattle.wx_base.specs.State.{State}
use Rattle.wx_mem.specs.Memory.{Bytes, is_written, byte_at}
use Rattle.arm_step.specs.declared.cpu.Cpu.{Cpu}

-- the byte at an address: the last that was written there, else the image's, else the one that stands wherever none was
-- written
abbrev pub held : Image → Bytes → ℕ → ℕ
held image memory address =
    if is_written memory address then byte_at memory address else unwrap_or (byte_of image address) (byte_at memory address)

-- registers by their numbers
abbrev pub registers_of : List ℕ → ℕ → ℕ
registers_of list = λ register. slice_index list register

abbrev pub flags_in : Cpu → Flags
flags_in cpu = record { n = cpu.n; z = cpu.z; c = cpu.c; v = cpu.v }

-- the state that a processor with an image stands for
abbrev pub state_of : Image → Cpu → State
state_of image cpu =
    record { registers = registers_of cpu.regs; flags = flags_in cpu; memory = held image cpu.memory }
