-- Names of registers, conditions and operations, as assemblers for ARM write them; how numbers and lists are written is
-- this project's own.
use Rattle.std.specs.Prelude.{ℕ, Bool, if◌then◌else◌, List, [], ◌∷◌, ◌++◌, codes, slice_index_or}
use Rattle.arm_code.specs.declared.insn.HalfKind.{HalfKind}
use Rattle.arm_code.specs.declared.insn.HalfKind.TheVariants.{Ldrh, Strh, Ldrsb, Ldrsh}

-- the name with a number among some, counted from 0; nothing behind the last
abbrev pub name_at : List (List ℕ) → ℕ → List ℕ
name_at names number = slice_index_or names number []

-- a text that stands only where something holds
abbrev pub where_set : Bool → List ℕ → List ℕ
where_set set text = if set then text else []

-- the registers, by their numbers
abbrev pub register_names : List (List ℕ)
register_names =
    codes "r0" ∷ codes "r1" ∷ codes "r2" ∷ codes "r3" ∷ codes "r4" ∷ codes "r5" ∷ codes "r6" ∷ codes "r7" ∷ codes "r8"
    ∷ codes "r9" ∷ codes "r10" ∷ codes "r11" ∷ codes "r12" ∷ codes "sp" ∷ codes "lr" ∷ codes "pc" ∷ []

abbrev pub register_name : ℕ → List ℕ
register_name register = name_at register_names register

-- the suffixes of conditions; "always" is the one behind them, and has none
abbrev pub condition_suffixes : List (List ℕ)
condition_suffixes =
    codes "eq" ∷ codes "ne" ∷ codes "cs" ∷ codes "cc" ∷ codes "mi" ∷ codes "pl" ∷ codes "vs" ∷ codes "vc"
    ∷ codes "hi" ∷ codes "ls" ∷ codes "ge" ∷ codes "lt" ∷ codes "gt" ∷ codes "le" ∷ []

abbrev pub condition_suffix : ℕ → List ℕ
condition_suffix cond = name_at condition_suffixes cond

-- the operations of data processing, by their codes
abbrev pub opcode_names : List (List ℕ)
opcode_names =
    codes "and" ∷ codes "eor" ∷ codes "sub" ∷ codes "rsb" ∷ codes "add" ∷ codes "adc" ∷ codes "sbc" ∷ codes "rsc"
    ∷ codes "tst" ∷ codes "teq" ∷ codes "cmp" ∷ codes "cmn" ∷ codes "orr" ∷ codes "mov" ∷ codes "bic" ∷ codes "mvn" ∷ []

abbrev pub opcode_name : ℕ → List ℕ
opcode_name code = name_at opcode_names code

-- multiplications, by whether they add besides, and the long ones by whether they have a sign
abbrev pub mul_name : Bool → List ℕ
mul_name accumulate = if accumulate then codes "mla" else codes "mul"

abbrev pub mul_long_name : Bool → Bool → List ℕ
mul_long_name signed accumulate =
    if signed then (if accumulate then codes "smlal" else codes "smull")
    else (if accumulate then codes "umlal" else codes "umull")

-- transfers of a word or a byte
abbrev pub single_name : Bool → Bool → List ℕ
single_name load byte =
    if load then (if byte then codes "ldrb" else codes "ldr") else (if byte then codes "strb" else codes "str")

-- transfers of a half word or a signed byte
abbrev pub half_name : HalfKind → List ℕ
half_name Ldrh = codes "ldrh"
half_name Strh = codes "strh"
half_name Ldrsb = codes "ldrsb"
half_name Ldrsh = codes "ldrsh"

-- block transfers: upwards or downwards, the base's own word left out or not
abbrev pub block_name : Bool → Bool → Bool → List ℕ
block_name load before up =
    (if load then codes "ldm" else codes "stm") ++ (if up then codes "i" else codes "d")
    ++ (if before then codes "b" else codes "a")

-- shifts, by their codes
abbrev pub shift_names : List (List ℕ)
shift_names = codes "lsl" ∷ codes "lsr" ∷ codes "asr" ∷ codes "ror" ∷ []

abbrev pub shift_name : ℕ → List ℕ
shift_name kind = name_at shift_names kind
