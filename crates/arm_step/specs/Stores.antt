-- Which bytes an instruction stores. ARM Architecture Reference Manual, "Load and store instructions".
use Rattle.std.specs.Prelude.{ℕ, Bool, ◌&&◌, if◌then◌else◌, List, [], length, take, ⊤}
use Rattle.wx_base.specs.declared.step.Transfer.{Transfer}
use Rattle.wx_base.specs.declared.step.BlockTransfer.{BlockTransfer}
use Rattle.wx_base.specs.Arithmetic.{passes}
use Rattle.wx_base.specs.Bits.{bytes_of_word}
use Rattle.wx_base.specs.State.{State, value_of}
use Rattle.wx_base.specs.Transfer.{address_of, size_of, block_first, block_bytes}
use Rattle.wx_mem.specs.Memory.{Bytes, LacksSome, with_bytes}
use Rattle.arm_code.specs.declared.insn.Insn.{Insn}
use Rattle.arm_code.specs.declared.insn.Op.{Op}
use Rattle.arm_code.specs.declared.insn.Op.TheVariants as op
use Rattle.arm_code.specs.Columns.{half_loads}
use Rattle.arm_step.specs.declared.step_end.StepEnd.{StepEnd}
use Rattle.arm_step.specs.declared.step_end.StepEnd.TheVariants as end
use Rattle.arm_step.specs.Effects.{transfer_of, single_datum, half_datum_of, offset_value, half_offset_value, stores}

-- bytes that are stored at an address and those behind it, modulo 2^32
pub record Stored : Type 0 where
  pub first : ℕ
  pub bytes : List ℕ

abbrev pub nothing : Stored
nothing = record { first = 0; bytes = [] }

-- those of a transfer of one register
abbrev pub stored_by_transfer : (ℕ → ℕ) → Transfer → Stored
stored_by_transfer registers t =
    if t.load
    then nothing
    else record { first = address_of registers t; bytes = take (size_of t.datum) (bytes_of_word (value_of registers t.register)) }

-- those of a transfer of a block
abbrev pub stored_by_block : (ℕ → ℕ) → BlockTransfer → Stored
stored_by_block registers t =
    if t.load then nothing else record { first = block_first registers t; bytes = block_bytes registers t.list }

-- those of an operation whose condition holds
abbrev pub stored_by : State → Op → Stored
stored_by state (op.Alu code s first to second) = nothing
stored_by state (op.Mul accumulate s result added a b) = nothing
stored_by state (op.MulLong signed accumulate s hi lo a b) = nothing
stored_by state (op.Single load byte to base index up by) =
    stored_by_transfer state.registers (transfer_of load (single_datum byte) to base index up (offset_value state by))
stored_by state (op.Half kind to base index up by) =
    stored_by_transfer state.registers
    (transfer_of (half_loads kind) (half_datum_of kind) to base index up (half_offset_value state by))
stored_by state (op.Block load before up wback base list) =
    stored_by_block state.registers
    (record { load = load; before = before; up = up; changes = wback; base = base; list = list })
stored_by state (op.Branch link by) = nothing
stored_by state (op.Exchange link register) = nothing
stored_by state (op.Svc number) = nothing
stored_by state op.MovPcLr = nothing

-- those of an instruction: none where its condition fails
abbrev pub stored_bytes : State → Insn → Stored
stored_bytes state insn = if passes insn.cond state.flags then stored_by state insn.op else nothing

-- whether an instruction stores: its operation does, and its condition holds
abbrev pub stores_now : State → Insn → Bool
stores_now state insn = passes insn.cond state.flags && stores insn.op

-- a memory in which they are written, and nothing else
abbrev pub with_stored : Bytes → Stored → Bytes
with_stored memory stored = record memory { written = with_bytes memory.written stored.first stored.bytes }

-- they need memory: some of their addresses was never written
abbrev pub NeedsRoom : Bytes → Stored → Type 0
NeedsRoom memory stored = LacksSome memory.written stored.first (length stored.bytes)

-- what holds where the machine goes on
abbrev pub WhereNext : StepEnd → Type 0 → Type 0
WhereNext (end.Next taken slow) p = p
WhereNext end.Ended p = ⊤
WhereNext (end.Stopped why addr) p = ⊤
