-- The text of an instruction in two parts: the name of its operation, and its operands.
use Rattle.std.specs.Prelude.{ℕ, Bool, false, List, ◌++◌, codes}
use Rattle.wx_text.specs.Decimal.{decimal}
use Rattle.wx_text.specs.Hexadecimal.{hex_word}
use Rattle.arm_code.specs.Flows.{offset_target}
use Rattle.arm_code.specs.declared.insn.Op.{Op}
use Rattle.arm_code.specs.declared.insn.Op.TheVariants as op
use Rattle.arm_text.specs.declared.mnemonics.Name.{Name}
use Rattle.arm_text.specs.declared.mnemonics.Name.TheVariants as name
use Rattle.arm_text.specs.Names.{where_set, register_name}
use Rattle.arm_text.specs.Text.{further, alu_registers, operand_text, offset_text, half_offset_text, address_text, list_text}

-- the name of an operation; a return by a move is named as a move
abbrev pub name_of : Op → Name
name_of (op.Alu code flags first to second) = name.Alu code flags
name_of (op.Mul accumulate flags to added second first) = name.Mul accumulate flags
name_of (op.MulLong signed accumulate flags high low second first) = name.MulLong signed accumulate flags
name_of (op.Single load byte to base index up by) = name.Single load byte
name_of (op.Half kind to base index up by) = name.Half kind
name_of (op.Block load before up wback base list) = name.Block load before up
name_of (op.Branch link words) = name.Branch link
name_of (op.Exchange link register) = name.Exchange link
name_of (op.Svc number) = name.Svc
name_of op.MovPcLr = name.Alu 13 false

-- the factors of a product, and what is added to it
abbrev pub mul_operands : Bool → ℕ → ℕ → ℕ → ℕ → List ℕ
mul_operands accumulate to added second first =
    register_name to ++ further (register_name first) ++ further (register_name second)
    ++ where_set accumulate (further (register_name added))

-- the two halves of a long product, and its factors
abbrev pub mul_long_operands : ℕ → ℕ → ℕ → ℕ → List ℕ
mul_long_operands high low second first =
    register_name low ++ further (register_name high) ++ further (register_name first) ++ further (register_name second)

-- a base with the mark of its change
abbrev pub marked_base : Bool → ℕ → List ℕ
marked_base wback base = register_name base ++ where_set wback (codes "!")

-- the operands of an operation at an address
abbrev pub operands_text : ℕ → Op → List ℕ
operands_text address (op.Alu code flags first to second) = alu_registers code first to ++ further (operand_text second)
operands_text address (op.Mul accumulate flags to added second first) = mul_operands accumulate to added second first
operands_text address (op.MulLong signed accumulate flags high low second first) = mul_long_operands high low second first
operands_text address (op.Single load byte to base index up by) =
    register_name to ++ further (address_text index base (offset_text up by))
operands_text address (op.Half kind to base index up by) =
    register_name to ++ further (address_text index base (half_offset_text up by))
operands_text address (op.Block load before up wback base list) =
    marked_base wback base ++ codes ", {" ++ list_text list ++ codes "}"
operands_text address (op.Branch link words) = codes "0x" ++ hex_word (offset_target address words)
operands_text address (op.Exchange link register) = register_name register
operands_text address (op.Svc number) = decimal number
operands_text address op.MovPcLr = codes "pc, lr"
