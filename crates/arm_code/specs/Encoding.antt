-- Instructions as values, and the words that they stand for. ARM Architecture Reference Manual, A32 encodings.
use Rattle.std.specs.Prelude.{◌≡◌, ℕ, ℤ, pos, ◌-ℤ◌, ◌+◌, ◌*◌, ◌/◌, ◌%◌, ◌^◌, ◌<◌, nat_lt, Bool, true, ◌==◌, if◌then◌else◌, List, find, Option, Some}
use Rattle.std.specs.Option.{option_map}
use Rattle.std.specs.Int.{cast_unsigned, w32}
use Rattle.arm_code.specs.declared.insn.Insn.{Insn}
use Rattle.arm_code.specs.declared.insn.Op.{Op}
use Rattle.arm_code.specs.declared.insn.Op.TheVariants as op
use Rattle.arm_code.specs.declared.insn.Operand.{Operand}
use Rattle.arm_code.specs.declared.insn.Operand.TheVariants as operand
use Rattle.arm_code.specs.declared.insn.Offset.{Offset}
use Rattle.arm_code.specs.declared.insn.Offset.TheVariants as offset_of
use Rattle.arm_code.specs.declared.insn.HalfOffset.{HalfOffset}
use Rattle.arm_code.specs.declared.insn.HalfOffset.TheVariants as half_offset_of
use Rattle.arm_code.specs.declared.insn.HalfKind.{HalfKind}
use Rattle.arm_code.specs.declared.insn.HalfKind.TheVariants.{Ldrh, Strh, Ldrsb, Ldrsh}
use Rattle.arm_code.specs.declared.insn.Index.{Index}
use Rattle.arm_code.specs.declared.insn.Index.TheVariants.{Plain, Pre, Post}
use Rattle.wx_base.specs.Instruction.{Kind, AluImmediate, AluShift, AluByRegister, Mul, MulLong, SingleImmediate, SingleRegister, HalfImmediate, HalfRegister, Block, Branch, Exchange, Svc, MovPcLr, row_of, meets, matches, kind_of, condition, opcode, sets_flags, rn, rd, rs, rm, rotation, immediate, shift_amount, shift_kind, accumulates, is_signed, product, addend, is_before, is_up, is_byte, writes_back, is_load, offset, half_sort, offset_high, offset_low, block_list, links, branch_offset, exchange_links, svc_number}

-- how a transfer uses its offset: only for the address, also for the base, or after the transfer for the base alone
abbrev pub index_by : Bool → Bool → Index
index_by before back = if before then (if back then Pre else Plain) else Post

-- the sort of a transfer of a half word or a signed byte, by its code; a store has the code of an unsigned half word
abbrev pub half_kind_by : Bool → ℕ → HalfKind
half_kind_by load sort = if sort == 1 then (if load then Ldrh else Strh) else (if sort == 2 then Ldrsb else Ldrsh)

-- 24 bits as a signed number
abbrev pub signed_offset : ℕ → ℤ
signed_offset words = if nat_lt words (2 ^ 23) then pos words else pos words -ℤ pos (2 ^ 24)

-- data processing with some second operand
abbrev pub alu_with : ℕ → Operand → Op
alu_with word second = op.Alu (opcode word) (sets_flags word) (rn word) (rd word) second

-- a transfer of a word or byte with some offset
abbrev pub single_with : ℕ → Offset → Op
single_with word by =
    op.Single (is_load word) (is_byte word) (rd word) (rn word) (index_by (is_before word) (writes_back word)) (is_up word) by

-- a transfer of a half word or signed byte with some offset
abbrev pub half_with : ℕ → HalfOffset → Op
half_with word by =
    op.Half (half_kind_by (is_load word) (half_sort word)) (rd word) (rn word) (index_by (is_before word) (writes_back word)) (is_up word) by

-- what a row reads in a word, its condition aside
abbrev pub op_by : ℕ → Kind → Op
op_by word AluImmediate = alu_with word (operand.Imm (immediate word) (rotation word))
op_by word AluShift = alu_with word (operand.Shift (rm word) (shift_kind word) (shift_amount word))
op_by word AluByRegister = alu_with word (operand.ByReg (rm word) (shift_kind word) (rs word))
op_by word Mul = op.Mul (accumulates word) (sets_flags word) (product word) (addend word) (rs word) (rm word)
op_by word MulLong =
    op.MulLong (is_signed word) (accumulates word) (sets_flags word) (product word) (addend word) (rs word) (rm word)
op_by word SingleImmediate = single_with word (offset_of.Imm (offset word))
op_by word SingleRegister = single_with word (offset_of.Reg (rm word) (shift_kind word) (shift_amount word))
op_by word HalfImmediate = half_with word (half_offset_of.Imm (offset_high word * 2 ^ 4 + offset_low word))
op_by word HalfRegister = half_with word (half_offset_of.Reg (rm word))
op_by word Block =
    op.Block (is_load word) (is_before word) (is_up word) (writes_back word) (rn word) (block_list word)
op_by word Branch = op.Branch (links word) (signed_offset (branch_offset word))
op_by word Exchange = op.Exchange (exchange_links word) (rm word)
op_by word Svc = op.Svc (svc_number word)
op_by word MovPcLr = op.MovPcLr

-- the instruction that a row reads in a word
abbrev pub insn_by : ℕ → Kind → Insn
insn_by word kind = record { cond = condition word; op = op_by word kind }

-- what the first of some rows that the word meets reads in it
abbrev pub read_among : ℕ → List Kind → Option Op
read_among word kinds = option_map (op_by word) (find (λ kind. meets word (row_of kind)) kinds)

-- the instruction that a word is, if it is one
unfoldable pub decoded : ℕ → Option Insn
decoded word = option_map (insn_by word) (kind_of word)

-- some word is this instruction
pub record IsValid (insn : Insn) : Type 0 where
  pub word : ℕ
  pub fits : word < 2 ^ 32
  pub means : decoded word ≡ Some insn

-- a bit of a word
abbrev pub flag_bit : Bool → ℕ → ℕ
flag_bit set at = if set then 2 ^ at else 0

-- the bits of a shifted register
abbrev pub shift_bits : ℕ → ℕ → ℕ → ℕ
shift_bits amount kind register = amount * 2 ^ 7 + kind * 2 ^ 5 + register

-- the bits of an operand, the bit that tells an immediate one among them
abbrev pub operand_bits : Operand → ℕ
operand_bits (operand.Imm value rot) = 2 ^ 25 + rot * 2 ^ 8 + value
operand_bits (operand.Shift register kind amount) = shift_bits amount kind register
operand_bits (operand.ByReg register kind amount) = amount * 2 ^ 8 + kind * 2 ^ 5 + 2 ^ 4 + register

-- the bits of a transfer's offset, the bit that tells one in a register among them
abbrev pub offset_bits : Offset → ℕ
offset_bits (offset_of.Imm value) = value
offset_bits (offset_of.Reg register kind amount) = 2 ^ 25 + shift_bits amount kind register

-- the same of a transfer of a half word, whose immediate offset stands in two halves
abbrev pub half_offset_bits : HalfOffset → ℕ
half_offset_bits (half_offset_of.Imm value) = 2 ^ 22 + value / 2 ^ 4 * 2 ^ 8 + value % 2 ^ 4
half_offset_bits (half_offset_of.Reg register) = register

-- the bits that say how the offset is used
abbrev pub index_bits : Index → ℕ
index_bits Plain = 2 ^ 24
index_bits Pre = 2 ^ 24 + 2 ^ 21
index_bits Post = 0

-- the bits that say what a transfer of a half word moves
abbrev pub half_kind_bits : HalfKind → ℕ
half_kind_bits Ldrh = 2 ^ 20 + 1 * 2 ^ 5
half_kind_bits Strh = 1 * 2 ^ 5
half_kind_bits Ldrsb = 2 ^ 20 + 2 * 2 ^ 5
half_kind_bits Ldrsh = 2 ^ 20 + 3 * 2 ^ 5

-- two registers in the places of a first operand and of a result
abbrev pub register_pair : ℕ → ℕ → ℕ
register_pair first to = first * 2 ^ 16 + to * 2 ^ 12

-- the bits of a multiplication's factors
abbrev pub factor_bits : ℕ → ℕ → ℕ
factor_bits a b = a * 2 ^ 8 + 9 * 2 ^ 4 + b

-- the bits of an instruction below its condition
abbrev pub op_bits : Op → ℕ
op_bits (op.Alu code s first to second) =
    code * 2 ^ 21 + flag_bit s 20 + register_pair first to + operand_bits second
op_bits (op.Mul accumulate s result added a b) =
    flag_bit accumulate 21 + flag_bit s 20 + register_pair result added + factor_bits a b
op_bits (op.MulLong signed accumulate s hi lo a b) =
    2 ^ 23 + flag_bit signed 22 + flag_bit accumulate 21 + flag_bit s 20 + register_pair hi lo + factor_bits a b
op_bits (op.Single load byte to base index up by) =
    2 ^ 26 + index_bits index + flag_bit up 23 + flag_bit byte 22 + flag_bit load 20 + register_pair base to + offset_bits by
op_bits (op.Half kind to base index up by) =
    index_bits index + flag_bit up 23 + register_pair base to + 9 * 2 ^ 4 + half_kind_bits kind + half_offset_bits by
op_bits (op.Block load before up wback base list) =
    2 ^ 27 + flag_bit before 24 + flag_bit up 23 + flag_bit wback 21 + flag_bit load 20 + base * 2 ^ 16 + list
op_bits (op.Branch link by) = 5 * 2 ^ 25 + flag_bit link 24 + cast_unsigned w32 by % 2 ^ 24
op_bits (op.Exchange link register) = 0x012fff10 + flag_bit link 5 + register
op_bits (op.Svc number) = 15 * 2 ^ 24 + number
op_bits op.MovPcLr = 0x01a0f00e

-- the word of an instruction
unfoldable pub word_of : Insn → ℕ
word_of insn = insn.cond * 2 ^ 28 + op_bits insn.op

-- no word matches two rows
abbrev pub RowsAreApart : Type 0
RowsAreApart = (word : ℕ) (a b : Kind) → matches a word ≡ true → matches b word ≡ true → a ≡ b

-- a word of 32 bits that is an instruction is that instruction's word
abbrev pub WordsAreSpelled : Type 0
WordsAreSpelled = (word : ℕ) (insn : Insn) → word < 2 ^ 32 → decoded word ≡ Some insn → word_of insn ≡ word
