-- The text of an instruction at an address: this project's own spelling, one for each instruction, after the assembly
-- language of the ARM Architecture Reference Manual.
use Rattle.std.specs.Prelude.{ℕ, ℤ, ◌*◌, ◌%◌, ◌^◌, nat_lt, Bool, false, ◌==◌, not, ◌&&◌, if◌then◌else◌, List, [], ◌∷◌, ◌++◌, codes}
use Rattle.std.specs.Int.{w32, rotate_left, rotate_right}
use Rattle.std.specs.List.{list_any, range_with_len, flat_map}
use Rattle.wx_base.specs.Bits.{is_in}
use Rattle.wx_base.specs.Instruction.{is_compare, is_move}
use Rattle.wx_text.specs.Decimal.{decimal}
use Rattle.wx_text.specs.Hexadecimal.{hex_word}
use Rattle.arm_code.specs.Flows.{offset_target}
use Rattle.arm_code.specs.declared.insn.Insn.{Insn}
use Rattle.arm_code.specs.declared.insn.Op.{Op}
use Rattle.arm_code.specs.declared.insn.Op.TheVariants as op
use Rattle.arm_code.specs.declared.insn.Operand.{Operand}
use Rattle.arm_code.specs.declared.insn.Operand.TheVariants as operand
use Rattle.arm_code.specs.declared.insn.Offset.{Offset}
use Rattle.arm_code.specs.declared.insn.Offset.TheVariants as offset_of
use Rattle.arm_code.specs.declared.insn.HalfOffset.{HalfOffset}
use Rattle.arm_code.specs.declared.insn.HalfOffset.TheVariants as half_offset_of
use Rattle.arm_code.specs.declared.insn.HalfKind.{HalfKind}
use Rattle.arm_code.specs.declared.insn.Index.{Index}
use Rattle.arm_code.specs.declared.insn.Index.TheVariants.{Plain, Pre, Post}
use Rattle.arm_text.specs.Names.{where_set, name_at, register_name, condition_suffix, opcode_name, mul_name, mul_long_name, single_name, half_name, block_name, shift_name}

-- a further operand
abbrev pub further : List ℕ → List ℕ
further text = codes ", " ++ text

-- A mnemonic, with its suffixes for flags and condition, and the space behind it.
abbrev pub mnemonic : List ℕ → Bool → List ℕ → List ℕ
mnemonic name flags suffix = name ++ where_set flags (codes "s") ++ suffix ++ codes " "

-- a number, marked as one
abbrev pub numeral : ℕ → List ℕ
numeral n = codes "#" ++ decimal n

-- what an immediate operand stands for: eight bits, rotated right by twice their rotation
abbrev pub rotated : ℕ → ℕ → ℕ
rotated value rot = rotate_right w32 value (2 * rot)

-- whether eight bits can stand for a number by a rotation
abbrev pub has_rotation : ℕ → ℕ → Bool
has_rotation n rot = nat_lt (rotate_left w32 n (2 * rot)) 256

-- whether no smaller rotation stands for the same number
abbrev pub is_least_rotation : ℕ → ℕ → Bool
is_least_rotation value rot = not (list_any (has_rotation (rotated value rot)) (range_with_len 0 rot))

-- An immediate operand is the number that it stands for, or else its bits and by how much they are rotated.
abbrev pub immediate_text : ℕ → ℕ → List ℕ
immediate_text value rot =
    if is_least_rotation value rot then numeral (rotated value rot)
    else numeral value ++ codes " ror " ++ decimal (2 * rot)

-- what a shift by an amount of 0 says: nothing, 32 places, or a rotation by one through the carry
abbrev pub shift_by_zero : ℕ → List ℕ
shift_by_zero kind = name_at ([] ∷ codes ", lsr #32" ∷ codes ", asr #32" ∷ codes ", rrx" ∷ []) kind

-- a shift behind a register, by an amount
abbrev pub shift_text : ℕ → ℕ → List ℕ
shift_text kind amount =
    if amount == 0 then shift_by_zero kind else further (shift_name kind) ++ codes " " ++ numeral amount

-- a register that is shifted by an amount, and one that is shifted by another
abbrev pub shifted_text : ℕ → ℕ → ℕ → List ℕ
shifted_text register kind amount = register_name register ++ shift_text kind amount

abbrev pub by_register_text : ℕ → ℕ → ℕ → List ℕ
by_register_text register kind amount =
    register_name register ++ further (shift_name kind) ++ codes " " ++ register_name amount

-- the second operand of data processing
abbrev pub operand_text : Operand → List ℕ
operand_text (operand.Imm value rot) = immediate_text value rot
operand_text (operand.Shift register kind amount) = shifted_text register kind amount
operand_text (operand.ByReg register kind amount) = by_register_text register kind amount

-- The registers of data processing: a comparison has no result, a move no first operand.
abbrev pub alu_registers : ℕ → ℕ → ℕ → List ℕ
alu_registers code first to =
    if is_compare code then register_name first
    else if is_move code then register_name to else register_name to ++ further (register_name first)

-- Data processing; a comparison always sets flags, and does not say so.
abbrev pub alu_text : List ℕ → ℕ → Bool → ℕ → ℕ → Operand → List ℕ
alu_text suffix code flags first to second =
    mnemonic (opcode_name code) (flags && not (is_compare code)) suffix
    ++ alu_registers code first to ++ further (operand_text second)

-- multiplications: the result, the factors, and what is added
abbrev pub mul_text : List ℕ → Bool → Bool → ℕ → ℕ → ℕ → ℕ → List ℕ
mul_text suffix accumulate flags to added second first =
    mnemonic (mul_name accumulate) flags suffix ++ register_name to ++ further (register_name first)
    ++ further (register_name second) ++ where_set accumulate (further (register_name added))

abbrev pub mul_long_text : List ℕ → Bool → Bool → Bool → ℕ → ℕ → ℕ → ℕ → List ℕ
mul_long_text suffix signed accumulate flags high low second first =
    mnemonic (mul_long_name signed accumulate) flags suffix ++ register_name low ++ further (register_name high)
    ++ further (register_name first) ++ further (register_name second)

-- the sign of an offset that is subtracted
abbrev pub sign : Bool → List ℕ
sign up = where_set (not up) (codes "-")

-- an offset as a number, of which 0 has a sign too, and in a register
abbrev pub number_offset : Bool → ℕ → List ℕ
number_offset up value = codes "#" ++ sign up ++ decimal value

abbrev pub register_offset : Bool → ℕ → List ℕ
register_offset up register = sign up ++ register_name register

abbrev pub offset_text : Bool → Offset → List ℕ
offset_text up (offset_of.Imm value) = number_offset up value
offset_text up (offset_of.Reg register kind amount) = register_offset up register ++ shift_text kind amount

abbrev pub half_offset_text : Bool → HalfOffset → List ℕ
half_offset_text up (half_offset_of.Imm value) = number_offset up value
half_offset_text up (half_offset_of.Reg register) = register_offset up register

-- An address: base and offset in brackets, with a mark if the base changes too; or the base alone, and the offset behind.
abbrev pub base_end : Index → List ℕ
base_end Plain = codes ", "
base_end Pre = codes ", "
base_end Post = codes "], "

abbrev pub address_end : Index → List ℕ
address_end Plain = codes "]"
address_end Pre = codes "]!"
address_end Post = []

abbrev pub address_text : Index → ℕ → List ℕ → List ℕ
address_text index base by = codes "[" ++ register_name base ++ base_end index ++ by ++ address_end index

-- transfers of a word or a byte, and of a half word or a signed byte
abbrev pub single_text : List ℕ → Bool → Bool → ℕ → ℕ → Index → Bool → Offset → List ℕ
single_text suffix load byte to base index up by =
    mnemonic (single_name load byte) false suffix ++ register_name to ++ further (address_text index base (offset_text up by))

abbrev pub half_text : List ℕ → HalfKind → ℕ → ℕ → Index → Bool → HalfOffset → List ℕ
half_text suffix kind to base index up by =
    mnemonic (half_name kind) false suffix ++ register_name to ++ further (address_text index base (half_offset_text up by))

-- a register of a list, if it is in it; the first in it has no comma
abbrev pub listed : ℕ → ℕ → List ℕ
listed list register =
    where_set (is_in list register) (where_set (not (list % 2 ^ register == 0)) (codes ", ") ++ register_name register)

-- the registers of a list below some number, ascending
abbrev pub listed_below : ℕ → ℕ → List ℕ
listed_below list end = flat_map (listed list) (range_with_len 0 end)

-- the registers of a list, ascending
unfoldable pub list_text : ℕ → List ℕ
list_text list = listed_below list 16

abbrev pub block_text : List ℕ → Bool → Bool → Bool → Bool → ℕ → ℕ → List ℕ
block_text suffix load before up wback base list =
    block_name load before up ++ suffix ++ codes " " ++ register_name base ++ where_set wback (codes "!")
    ++ codes ", {" ++ list_text list ++ codes "}"

abbrev pub branch_text : ℕ → List ℕ → Bool → ℤ → List ℕ
branch_text address suffix link words =
    codes "b" ++ where_set link (codes "l") ++ suffix ++ codes " 0x" ++ hex_word (offset_target address words)

-- a branch to the address in a register
abbrev pub exchange_text : List ℕ → Bool → ℕ → List ℕ
exchange_text suffix link register =
    (if link then codes "blx" else codes "bx") ++ suffix ++ codes " " ++ register_name register

-- a call of the supervisor, and the return by a move
abbrev pub svc_text : List ℕ → ℕ → List ℕ
svc_text suffix number = codes "svc" ++ suffix ++ codes " " ++ decimal number

abbrev pub mov_pc_lr_text : List ℕ → List ℕ
mov_pc_lr_text suffix = codes "mov" ++ suffix ++ codes " pc, lr"

-- an operation at an address, with the suffix of its condition
abbrev pub op_text : ℕ → List ℕ → Op → List ℕ
op_text address suffix (op.Alu code flags first to second) = alu_text suffix code flags first to second
op_text address suffix (op.Mul accumulate flags to added second first) =
    mul_text suffix accumulate flags to added second first
op_text address suffix (op.MulLong signed accumulate flags high low second first) =
    mul_long_text suffix signed accumulate flags high low second first
op_text address suffix (op.Single load byte to base index up by) = single_text suffix load byte to base index up by
op_text address suffix (op.Half kind to base index up by) = half_text suffix kind to base index up by
op_text address suffix (op.Block load before up wback base list) =
    block_text suffix load before up wback base list
op_text address suffix (op.Branch link words) = branch_text address suffix link words
op_text address suffix (op.Exchange link register) = exchange_text suffix link register
op_text address suffix (op.Svc number) = svc_text suffix number
op_text address suffix op.MovPcLr = mov_pc_lr_text suffix

-- the text of an instruction at an address, without a line end
unfoldable pub text_of : ℕ → Insn → List ℕ
text_of address insn = op_text address (condition_suffix insn.cond) insn.op
