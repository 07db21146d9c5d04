-- What stands before the operands of an instruction, and which bytes separate.
use Rattle.std.specs.Prelude.{ℕ, Bool, true, false, not, ◌&&◌, if◌then◌else◌, List, [], ◌∷◌, ◌++◌, codes, ◌==◌}
use Rattle.std.specs.List.{list_all}
use Rattle.wx_base.specs.Instruction.{is_compare}
use Rattle.arm_code.specs.declared.insn.HalfKind.TheVariants as half
use Rattle.arm_text.specs.declared.mnemonics.Name.{Name}
use Rattle.arm_text.specs.declared.mnemonics.Name.TheVariants as name
use Rattle.arm_text.specs.Names.{where_set, opcode_name, mul_name, mul_long_name, single_name, half_name, block_name}

-- the name of an operation, with its mark for flags
abbrev pub name_text : Name → List ℕ
name_text (name.Alu code flags) = opcode_name code ++ where_set (flags && not (is_compare code)) (codes "s")
name_text (name.Mul accumulate flags) = mul_name accumulate ++ where_set flags (codes "s")
name_text (name.MulLong signed accumulate flags) = mul_long_name signed accumulate ++ where_set flags (codes "s")
name_text (name.Single load byte) = single_name load byte
name_text (name.Half kind) = half_name kind
name_text (name.Block load before up) = block_name load before up
name_text (name.Branch link) = codes "b" ++ where_set link (codes "l")
name_text (name.Exchange link) = if link then codes "blx" else codes "bx"
name_text name.Svc = codes "svc"

-- all names; a comparison always sets flags
abbrev pub names : List Name
names =
    name.Alu 0 false
    ∷ name.Alu 0 true
    ∷ name.Alu 1 false
    ∷ name.Alu 1 true
    ∷ name.Alu 2 false
    ∷ name.Alu 2 true
    ∷ name.Alu 3 false
    ∷ name.Alu 3 true
    ∷ name.Alu 4 false
    ∷ name.Alu 4 true
    ∷ name.Alu 5 false
    ∷ name.Alu 5 true
    ∷ name.Alu 6 false
    ∷ name.Alu 6 true
    ∷ name.Alu 7 false
    ∷ name.Alu 7 true
    ∷ name.Alu 8 true
    ∷ name.Alu 9 true
    ∷ name.Alu 10 true
    ∷ name.Alu 11 true
    ∷ name.Alu 12 false
    ∷ name.Alu 12 true
    ∷ name.Alu 13 false
    ∷ name.Alu 13 true
    ∷ name.Alu 14 false
    ∷ name.Alu 14 true
    ∷ name.Alu 15 false
    ∷ name.Alu 15 true
    ∷ name.Mul false false
    ∷ name.Mul false true
    ∷ name.Mul true false
    ∷ name.Mul true true
    ∷ name.MulLong false false false
    ∷ name.MulLong false false true
    ∷ name.MulLong false true false
    ∷ name.MulLong false true true
    ∷ name.MulLong true false false
    ∷ name.MulLong true false true
    ∷ name.MulLong true true false
    ∷ name.MulLong true true true
    ∷ name.Single false false
    ∷ name.Single false true
    ∷ name.Single true false
    ∷ name.Single true true
    ∷ name.Half half.Ldrh
    ∷ name.Half half.Strh
    ∷ name.Half half.Ldrsb
    ∷ name.Half half.Ldrsh
    ∷ name.Block false false false
    ∷ name.Block false false true
    ∷ name.Block false true false
    ∷ name.Block false true true
    ∷ name.Block true false false
    ∷ name.Block true false true
    ∷ name.Block true true false
    ∷ name.Block true true true
    ∷ name.Branch false
    ∷ name.Branch true
    ∷ name.Exchange false
    ∷ name.Exchange true
    ∷ name.Svc
    ∷ []

-- whether a byte does not stand in a text
abbrev pub is_without : ℕ → List ℕ → Bool
is_without byte text = list_all (λ b. not (b == byte)) text
