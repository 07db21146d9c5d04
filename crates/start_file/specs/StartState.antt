-- A start as the processor and the cache that stand for it. This project's own.
use Rattle.std.specs.Prelude.{ℕ, ◌<◌, ◌^◌, slice_index}
use Rattle.wx_base.specs.declared.image.Image.{Image}
use Rattle.wx_base.specs.Run as runs
use Rattle.wx_mem.specs.Memory.{HoldsBytes}
use Rattle.arm_step.specs.Cpu.{state_of}
use Rattle.start_file.specs.declared.start_state.Start.{Start}

-- the start that a processor with an image and a cache stand for
abbrev pub start_of : Image → Start → runs.Start
start_of image start = record { state = state_of image start.cpu; cache = start.cache.lists }

-- registers hold words, and memory bytes
pub record AreInRange (start : Start) : Type 0 where
  pub words : (r : ℕ) → slice_index start.cpu.regs r < 2 ^ 32
  pub bytes : HoldsBytes start.cpu.memory
