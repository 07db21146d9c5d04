-- The fields of a valid instruction are in range, since some word holds them.
use Rattle.std.proofs.Common.{◌≡◌, ◌≢◌, ℕ, pos, ◌/◌, ◌^◌, ◌<◌, Bool, true, false, cond, not, ◌&&◌, ◌||◌, ◌==◌, ltb, List, [], ◌∷◌, Option, Some, None, refl, sym, ◌∙◌, ap, subst, arith}
use Rattle.std.proofs.lemmas.Bool.{and_parts, false≢true, eqb-true, eq-eqb, ltb-true, ltb-false}
use Rattle.std.proofs.lemmas.Int.{ints}
use Rattle.std.specs.Prelude.{◌-ℤ◌}
use Rattle.std.specs.List.{find, list_all, list_any}
use Rattle.std.specs.Option.{option_map}
use Rattle.wx_base.specs.Bits.{bits}
use Rattle.wx_base.specs.Instruction.{Kind, AluImmediate, AluShift, AluByRegister, Mul, MulLong, SingleImmediate, SingleRegister, HalfImmediate, HalfRegister, Block, Branch, Exchange, Svc, MovPcLr, kinds, row_of, has, has_rest, meets, matches, kind_of, condition, no_condition, opcode, sets_flags, rn, rd, is_compare, is_move, alu_also, alu_barred, branch_offset, accumulates, addend, product, rs, rm, rotation, immediate, shift_kind, shift_amount, mul_also, is_not_pc, is_alu_setting}
use Rattle.arm_code.specs.declared.insn.Insn.{Insn}
use Rattle.arm_code.specs.declared.insn.Op.TheVariants as op
use Rattle.arm_code.specs.declared.insn.Operand.{Operand}
use Rattle.arm_code.specs.declared.insn.Operand.TheVariants as operand
use Rattle.arm_code.specs.Encoding.{insn_by, op_by, decoded, IsValid}
use Rattle.arm_text.specs.Fields.{OpFits, OperandFits, IsBranchOffset}

-- what was found passes the test
found_by : (test : Kind → Bool) (x : Kind) (xs : List Kind) (kind : Kind) (b : Bool) → test x ≡ b → find test (x ∷ xs) ≡ Some kind → (find test xs ≡ Some kind → test kind ≡ true) → test kind ≡ true
found_by test x xs kind true e is rest =
    let first : Some x ≡ Some kind = rw e at is in
    let same : x ≡ kind = cc in
    subst (λ k. test k ≡ true) same e
found_by test x xs kind false e is rest = rest (rw e at is)

found : (test : Kind → Bool) (xs : List Kind) (kind : Kind) → find test xs ≡ Some kind → test kind ≡ true
found test [] kind is = absurd (cc)
found test (x ∷ xs) kind is = found_by test x xs kind (test x) refl is (found test xs kind)

-- a word of a valid instruction, and its row
pub record HasRow (insn : Insn) : Type 0 where
  pub word : ℕ
  pub kind : Kind
  pub matched : matches kind word ≡ true
  pub is : insn ≡ insn_by word kind

row_by : (word : ℕ) (insn : Insn) (o : Option Kind) → kind_of word ≡ o → option_map (insn_by word) o ≡ Some insn → HasRow insn
unfolding kind_of
row_by word insn (Some kind) found_is means = record { word = word; kind = kind; matched = found (λ kind. matches kind word) kinds kind found_is; is = cc }
row_by word insn None found_is means = absurd (cc)

pub row : (insn : Insn) → IsValid insn → HasRow insn
unfolding decoded
row insn valid = row_by valid.word insn (kind_of valid.word) refl valid.means

-- what data processing is barred from
pub record NotBarred (to middle flag : ℕ) : Type 0 where
  pub no_pc : to ≢ 15
  pub sets : middle ≡ 2 → flag ≢ 0

barred_by : (x y : Bool) → x ≡ true → not ((x && true) || y) ≡ true → ⊥
barred_by true y is barred = false≢true barred
barred_by false y is barred = false≢true is

barred_last : (x y z : Bool) → y ≡ true → z ≡ true → not ((x && true) || ((y && (z && true)) || false)) ≡ true → ⊥
barred_last true y z is also barred = false≢true barred
barred_last false true true is also barred = false≢true barred
barred_last false true false is also barred = false≢true also
barred_last false false z is also barred = false≢true is

not_barred : (to middle flag : ℕ) → not (((to == 15) && true) || (((middle == 2) && ((flag == 0) && true)) || false)) ≡ true → NotBarred to middle flag
not_barred to middle flag barred = record {
  no_pc = λ is. barred_by (to == 15) _ (eq-eqb to 15 is) barred;
  sets = λ is none. barred_last (to == 15) (middle == 2) (flag == 0) (eq-eqb middle 2 is) (eq-eqb flag 0 none) barred;
}

-- what its opcode asks of its registers
pub record HasSetting (code first to : ℕ) : Type 0 where
  pub compare : is_compare code ≡ true → to ≡ 0
  pub move : is_move code ≡ true → first ≡ 0

implied : (x y : Bool) → (not x || y) ≡ true → x ≡ true → y ≡ true
implied true y holds is = holds
implied false y holds is = absurd (false≢true is)

has_setting : (code first to : ℕ) → is_alu_setting code first to ≡ true → HasSetting code first to
has_setting code first to holds =
    let parts = and_parts (not (is_compare code) || (to == 0)) (not (is_move code) || (first == 0)) holds in
    record {
      compare = λ is. eqb-true to 0 (implied (is_compare code) (to == 0) parts.0 is);
      move = λ is. eqb-true first 0 (implied (is_move code) (first == 0) parts.1 is);
    }

-- a comparison sets flags
compares : (word : ℕ) → NotBarred (rd word) (bits 24 23 word) (bits 20 20 word) → is_compare (opcode word) ≡ true → sets_flags word ≡ true
compares word not_barred is =
    let quarter : opcode word / 4 ≡ 2 = eqb-true (opcode word / 4) 2 is in
    let middle : bits 24 23 word ≡ 2 = omega arith in
    let some = not_barred.sets middle in
    eq-eqb (bits 20 20 word) 1 (omega arith)

rest_of_row : (word : ℕ) (kind : Kind) → meets word (row_of kind) ≡ true → has_rest word (row_of kind) ≡ true
rest_of_row word kind e = (and_parts (list_all (has word) (row_of kind).fixed) (has_rest word (row_of kind)) e).1

-- data processing with some operand
alu_fits : (word : ℕ) (second : Operand) → OperandFits second → not (list_any (λ settings. list_all (has word) settings) alu_barred) ≡ true → alu_also word ≡ true → OpFits (op.Alu (opcode word) (sets_flags word) (rn word) (rd word) second)
alu_fits word second fits barred also =
    let apart = not_barred (rd word) (bits 24 23 word) (bits 20 20 word) barred in
    let setting = has_setting (opcode word) (rn word) (rd word) also in
    (omega arith, omega arith, omega arith, fits, compares word apart, setting.compare, setting.move, apart.no_pc)

alu_row : (word : ℕ) (kind : Kind) (second : Operand) → OperandFits second → (row_of kind).barred ≡ alu_barred → (row_of kind).also word ≡ alu_also word → meets word (row_of kind) ≡ true → OpFits (op.Alu (opcode word) (sets_flags word) (rn word) (rd word) second)
alu_row word kind second fits barred_is also_is e =
    let parts = and_parts (not (list_any (λ settings. list_all (has word) settings) (row_of kind).barred)) ((row_of kind).also word) (rest_of_row word kind e) in
    alu_fits word second fits (ap (λ b. not (list_any (λ settings. list_all (has word) settings) b)) (sym barred_is) ∙ parts.0) (sym also_is ∙ parts.1)

branch_by : (words : ℕ) (b : Bool) → ltb words (2 ^ 23) ≡ b → words < 2 ^ 24 → IsBranchOffset (cond b (pos words) (pos words -ℤ pos (2 ^ 24)))
branch_by words true e small = let h = ltb-true words (2 ^ 23) e in (omega (arith, ints), omega (arith, ints))
branch_by words false e small = let h = ltb-false words (2 ^ 23) e in (omega (arith, ints), omega (arith, ints))

added : (word : ℕ) → mul_also word ≡ true → accumulates word ≡ false → addend word ≡ 0
added word also none =
    let last = (and_parts (is_not_pc (product word) && is_not_pc (addend word) && is_not_pc (rs word) && is_not_pc (rm word)) (accumulates word || (addend word == 0)) also).1 in
    eqb-true (addend word) 0 (ap (λ b. b || (addend word == 0)) (sym none) ∙ last)

also_of_row : (word : ℕ) (kind : Kind) → meets word (row_of kind) ≡ true → (row_of kind).also word ≡ true
also_of_row word kind e = (and_parts (not (list_any (λ settings. list_all (has word) settings) (row_of kind).barred)) ((row_of kind).also word) (rest_of_row word kind e)).1

by_register_alu : (word : ℕ) → meets word (row_of AluByRegister) ≡ true → alu_also word ≡ true
by_register_alu word e =
    let a = and_parts (alu_also word && is_not_pc (rn word) && is_not_pc (rs word)) (is_not_pc (rm word)) (also_of_row word AluByRegister e) in
    let b = and_parts (alu_also word && is_not_pc (rn word)) (is_not_pc (rs word)) a.0 in
    (and_parts (alu_also word) (is_not_pc (rn word)) b.0).0

fits_by : (word : ℕ) (kind : Kind) → meets word (row_of kind) ≡ true → OpFits (op_by word kind)
fits_by word AluImmediate e = alu_row word AluImmediate (operand.Imm (immediate word) (rotation word)) (omega arith, omega arith) refl refl e
fits_by word AluShift e = alu_row word AluShift (operand.Shift (rm word) (shift_kind word) (shift_amount word)) (omega arith, omega arith, omega arith) refl refl e
fits_by word AluByRegister e =
    alu_fits word (operand.ByReg (rm word) (shift_kind word) (rs word)) (omega arith, omega arith, omega arith)
    (and_parts (not (list_any (λ settings. list_all (has word) settings) (row_of AluByRegister).barred)) ((row_of AluByRegister).also word) (rest_of_row word AluByRegister e)).0
    (by_register_alu word e)
fits_by word Mul e = (omega arith, omega arith, omega arith, omega arith, added word (also_of_row word Mul e))
fits_by word MulLong e = (omega arith, omega arith, omega arith, omega arith)
fits_by word SingleImmediate e = (omega arith, omega arith, omega arith)
fits_by word SingleRegister e = (omega arith, omega arith, (omega arith, omega arith, omega arith))
fits_by word HalfImmediate e = (omega arith, omega arith, omega arith)
fits_by word HalfRegister e = (omega arith, omega arith, omega arith)
fits_by word Block e = (omega arith, omega arith)
fits_by word Branch e = branch_by (branch_offset word) (ltb (branch_offset word) (2 ^ 23)) refl (omega arith)
fits_by word Exchange e = omega arith
fits_by word Svc e = omega arith
fits_by word MovPcLr e = tt

-- the fields of a valid instruction
pub record HasFields (insn : Insn) : Type 0 where
  pub cond_fits : insn.cond < 15
  pub op_fits : OpFits insn.op

condition_fits : (word : ℕ) → not (condition word == no_condition) ≡ true → condition word < 15
condition_fits word not_last =
    let other : condition word ≢ 15 = λ is. false≢true (sym (ap not (eq-eqb (condition word) 15 is)) ∙ not_last) in
    omega arith

fields_by : (word : ℕ) (kind : Kind) → matches kind word ≡ true → HasFields (insn_by word kind)
fields_by word kind matched =
    let parts = and_parts (not (condition word == no_condition)) (meets word (row_of kind)) matched in
    record { cond_fits = condition_fits word parts.0; op_fits = fits_by word kind parts.1 }

pub valid_fields : (insn : Insn) → IsValid insn → HasFields insn
valid_fields insn valid =
    let r = row insn valid in
    subst HasFields (sym r.is) (fields_by r.word r.kind r.matched)
