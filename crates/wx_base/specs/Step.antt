-- One step of the machine. ARM Architecture Reference Manual; where the machine stops, that a call of the supervisor ends
-- a run, and which instructions are slow is this project's own.
use Rattle.std.specs.Prelude.{ℕ, ◌+◌, ◌*◌, ◌/◌, ◌%◌, ◌^◌, Bool, true, false, ◌==◌, if◌then◌else◌, Option, Some, None}
use Rattle.wx_base.specs.declared.machine.Machine.{Machine}
use Rattle.wx_base.specs.declared.image.Image.{Image}
use Rattle.wx_base.specs.declared.step.Why.TheVariants.{Fetch, Word}
use Rattle.wx_base.specs.declared.step.Datum.{Datum}
use Rattle.wx_base.specs.declared.step.Datum.TheVariants as datum
use Rattle.wx_base.specs.Bits.{is_in, is_negative}
use Rattle.wx_base.specs.Image.{is_code_word}
use Rattle.wx_base.specs.Instruction.{Kind, AluImmediate, AluShift, AluByRegister, Mul, MulLong, SingleImmediate, SingleRegister, HalfImmediate, HalfRegister, Block, Branch, Exchange, Svc, MovPcLr, kind_of, condition, opcode, sets_flags, rn, rd, rs, rm, rotation, immediate, shift_amount, shift_kind, accumulates, is_signed, product, addend, is_before, is_up, is_byte, writes_back, is_load, offset, half_sort, offset_high, offset_low, block_list, links, branch_offset, exchange_links, is_compare, changes_base}
use Rattle.wx_base.specs.Flow.{branch_target}
use Rattle.wx_base.specs.Shifter.{shifted_by_number, shifted_by_register, rotated_immediate}
use Rattle.wx_base.specs.Arithmetic.{passes, computed, flags_of, product_of, long_product_of, product_flags, is_slow_factor}
use Rattle.wx_base.specs.State.{State, Outcome, Ended, Stopped, pc, lr, replaced, word_in, value_of, goes_on, jumps}
use Rattle.wx_base.specs.declared.step.Flags.{Flags}
use Rattle.wx_base.specs.declared.step.Shifted.{Shifted}
use Rattle.wx_base.specs.declared.step.Computed.{Computed}
use Rattle.wx_base.specs.declared.step.Transfer.{Transfer}
use Rattle.wx_base.specs.declared.step.BlockTransfer.{BlockTransfer}
use Rattle.wx_base.specs.Transfer.{transfer_effect, block_effect}

-- the registers after data processing, but for the address, and the flags; a comparison has no result
abbrev pub alu_registers : (ℕ → ℕ) → ℕ → ℕ → ℕ → ℕ → ℕ
alu_registers registers code to value = if is_compare code then registers else replaced registers to value

abbrev pub alu_flags : Flags → Bool → Computed → Flags
alu_flags flags sets result = if sets then flags_of result else flags

-- data processing, with its second operand
unfoldable pub alu_effect : State → ℕ → Bool → ℕ → ℕ → Shifted → Outcome
alu_effect state code sets first to second =
    let result = computed code (value_of state.registers first) second state.flags in
    goes_on state (alu_registers state.registers code to result.value) (alu_flags state.flags sets result) false

-- a shifted register as an operand
abbrev pub shift_operand : State → ℕ → ℕ → ℕ → Shifted
shift_operand state register kind amount =
    shifted_by_number kind (value_of state.registers register) amount state.flags.c

abbrev pub register_operand : State → ℕ → ℕ → ℕ → Shifted
register_operand state register kind by =
    shifted_by_register kind (state.registers register) (state.registers by) state.flags.c

-- the product of two registers, to which another may be added
abbrev pub product_in : (ℕ → ℕ) → Bool → ℕ → ℕ → ℕ → ℕ
product_in registers accumulate added factor multiplier =
    product_of (registers factor) (registers multiplier) (if accumulate then registers added else 0)

-- the same in 64 bits; two registers may be added
abbrev pub long_product_in : (ℕ → ℕ) → Bool → Bool → ℕ → ℕ → ℕ → ℕ → ℕ
long_product_in registers signed accumulate hi lo factor multiplier =
    long_product_of signed (registers factor) (registers multiplier)
    (if accumulate then registers hi * 2 ^ 32 + registers lo else 0)

-- a multiplication
unfoldable pub mul_effect : State → Bool → Bool → ℕ → ℕ → ℕ → ℕ → Outcome
mul_effect state accumulate sets to added factor multiplier =
    let value = product_in state.registers accumulate added factor multiplier in
    goes_on state (replaced state.registers to value) (if sets then product_flags (is_negative value) (value == 0) state.flags else state.flags)
    (is_slow_factor (state.registers multiplier))

-- the registers after a long multiplication, but for the address
abbrev pub long_registers : (ℕ → ℕ) → ℕ → ℕ → ℕ → ℕ → ℕ
long_registers registers hi lo value = replaced (replaced registers lo (value % 2 ^ 32)) hi (value / 2 ^ 32)

-- a long multiplication
unfoldable pub mul_long_effect : State → Bool → Bool → Bool → ℕ → ℕ → ℕ → ℕ → Outcome
mul_long_effect state signed accumulate sets hi lo factor multiplier =
    let value = long_product_in state.registers signed accumulate hi lo factor multiplier in
    goes_on state (long_registers state.registers hi lo value) (if sets then product_flags (is_in value 63) (value == 0) state.flags else state.flags)
    (is_slow_factor (state.registers multiplier))

-- what a transfer of a half word or a signed byte moves, by the code of its sort
abbrev pub half_datum : ℕ → Datum
half_datum sort = if sort == 1 then datum.Half else (if sort == 2 then datum.SignedByte else datum.SignedHalf)

-- whether it loads; what has a sign is never stored
abbrev pub half_loads : ℕ → Bool → Bool
half_loads sort load = if sort == 1 then load else true

-- a transfer of one register as a word says it; whether it loads, what it moves and the offset are given
abbrev pub transfer_by : ℕ → Bool → Datum → ℕ → Transfer
transfer_by word load what by =
    record {
      load = load;
      datum = what;
      register = rd word;
      base = rn word;
      offset = by;
      up = is_up word;
      before = is_before word;
      changes = changes_base (is_before word) (writes_back word);
    }

abbrev pub single_by : ℕ → ℕ → Transfer
single_by word by = transfer_by word (is_load word) (if is_byte word then datum.Byte else datum.Word) by

abbrev pub half_by : ℕ → ℕ → Transfer
half_by word by = transfer_by word (half_loads (half_sort word) (is_load word)) (half_datum (half_sort word)) by

abbrev pub block_by : ℕ → BlockTransfer
block_by word =
    record {
      load = is_load word;
      before = is_before word;
      up = is_up word;
      changes = writes_back word;
      base = rn word;
      list = block_list word;
    }

-- what an instruction does whose condition holds, by its row
abbrev pub effect : Machine → Image → State → ℕ → Kind → Outcome
effect machine image state word AluImmediate =
    alu_effect state (opcode word) (sets_flags word) (rn word) (rd word)
    (rotated_immediate (immediate word) (rotation word) state.flags.c)
effect machine image state word AluShift =
    alu_effect state (opcode word) (sets_flags word) (rn word) (rd word)
    (shift_operand state (rm word) (shift_kind word) (shift_amount word))
effect machine image state word AluByRegister =
    alu_effect state (opcode word) (sets_flags word) (rn word) (rd word)
    (register_operand state (rm word) (shift_kind word) (rs word))
effect machine image state word Mul =
    mul_effect state (accumulates word) (sets_flags word) (product word) (addend word) (rm word) (rs word)
effect machine image state word MulLong =
    mul_long_effect state (is_signed word) (accumulates word) (sets_flags word) (product word) (addend word) (rm word) (rs word)
effect machine image state word SingleImmediate = transfer_effect machine image state (single_by word (offset word))
effect machine image state word SingleRegister =
    transfer_effect machine image state
    (single_by word (shift_operand state (rm word) (shift_kind word) (shift_amount word)).value)
effect machine image state word HalfImmediate =
    transfer_effect machine image state (half_by word (offset_high word * 2 ^ 4 + offset_low word))
effect machine image state word HalfRegister =
    transfer_effect machine image state (half_by word (state.registers (rm word)))
effect machine image state word Block = block_effect machine image state (block_by word)
effect machine image state word Branch =
    jumps state (links word) (branch_target (state.registers pc) (branch_offset word))
effect machine image state word Exchange = jumps state (exchange_links word) (state.registers (rm word))
effect machine image state word Svc = Ended
effect machine image state word MovPcLr = jumps state false (state.registers lr)

-- The outcome of a word by its row: an instruction whose condition fails goes on, and does nothing else.
abbrev pub executed : Machine → Image → State → ℕ → Option Kind → Outcome
executed machine image state word None = Stopped Word
executed machine image state word (Some kind) =
    if passes (condition word) state.flags
    then effect machine image state word kind
    else goes_on state state.registers state.flags false

-- the word that the machine looks at
abbrev pub current_word : State → ℕ
current_word state = word_in state.memory (state.registers pc)

-- one step of the machine
unfoldable pub step : Machine → Image → State → Outcome
step machine image state =
    if is_code_word image (state.registers pc)
    then executed machine image state (current_word state) (kind_of (current_word state))
    else Stopped Fetch
