-- The text of an instruction is its mnemonic, a space and its operands.
use Rattle.std.proofs.Common.{◌≡◌, ℕ, zero, suc, ◌<◌, Bool, true, false, List, [], ◌∷◌, ◌++◌, get_or, refl, sym, ◌∙◌, ap, arith}
use Rattle.std.proofs.lemmas.List.{append_assoc}
use Rattle.std.specs.List.{Contains, list_all, range_with_len}
use Rattle.std.specs.Option.{option_map}
use Rattle.std.proofs.Common.{Option, Some, None}
use Rattle.wx_base.specs.Instruction.{is_compare}
use Rattle.arm_text.proofs.Below.{below_all}
use Rattle.arm_code.specs.declared.insn.Insn.{Insn}
use Rattle.arm_code.specs.declared.insn.HalfKind.TheVariants.{Ldrh, Strh, Ldrsb, Ldrsh}
use Rattle.arm_code.specs.declared.insn.Op.{Op}
use Rattle.arm_code.specs.declared.insn.Op.TheVariants as op
use Rattle.arm_text.specs.declared.mnemonics.Name.{Name}
use Rattle.arm_text.specs.declared.mnemonics.Name.TheVariants as name
use Rattle.arm_text.specs.Names.{condition_suffix}
use Rattle.arm_text.specs.Text.{op_text, text_of}
use Rattle.arm_text.specs.Mnemonics.{names, name_text, is_without}
use Rattle.arm_text.specs.Operands.{name_of, operands_text}
use Rattle.arm_text.specs.Fields.{OpFits}

pub op_text_is : (address : ℕ) (suffix : List ℕ) (o : Op) → op_text address suffix o ≡ name_text (name_of o) ++ suffix ++ 32 ∷ operands_text address o
op_text_is address suffix (op.Alu code flags first to second) = simp append_assoc
op_text_is address suffix (op.Mul accumulate flags to added second first) = simp append_assoc
op_text_is address suffix (op.MulLong signed accumulate flags high low second first) = simp append_assoc
op_text_is address suffix (op.Single load byte to base index up by) = simp append_assoc
op_text_is address suffix (op.Half kind to base index up by) = simp append_assoc
op_text_is address suffix (op.Block load before up wback base list) = simp append_assoc
op_text_is address suffix (op.Branch link words) = simp append_assoc
op_text_is address suffix (op.Exchange link register) = simp append_assoc
op_text_is address suffix (op.Svc number) = simp append_assoc
op_text_is address suffix op.MovPcLr = simp append_assoc

pub text_is : (address : ℕ) (insn : Insn) → text_of address insn ≡ name_text (name_of insn.op) ++ condition_suffix insn.cond ++ 32 ∷ operands_text address insn.op
unfolding text_of
text_is address insn = op_text_is address (condition_suffix insn.cond) insn.op

-- a text that was put together from these parts
pub text_in_parts : (address : ℕ) (insn : Insn) (empty first suffix second space third whole : List ℕ) → empty ≡ []
    → first ≡ empty ++ name_text (name_of insn.op) → suffix ≡ condition_suffix insn.cond → second ≡ first ++ suffix
    → space ≡ 32 ∷ [] → third ≡ second ++ space → whole ≡ third ++ operands_text address insn.op → whole ≡ text_of address insn
text_in_parts address insn empty first suffix second space third whole nothing at_first conditional at_second one at_third in_all =
    let name : List ℕ = name_text (name_of insn.op) in
    let parts : whole ≡ ((([] ++ name) ++ condition_suffix insn.cond) ++ 32 ∷ []) ++ operands_text address insn.op = cc in
    parts ∙ append_assoc (name ++ condition_suffix insn.cond) (32 ∷ []) (operands_text address insn.op)
    ∙ sym (text_is address insn)

-- the names of data processing, by their places in the table
alu_named : (code : ℕ) (flags : Bool) → code < 16 → (is_compare code ≡ true → flags ≡ true) → Contains names (name.Alu code flags)
alu_named zero false below compares = (0, omega arith, refl)
alu_named zero true below compares = (1, omega arith, refl)
alu_named (suc zero) false below compares = (2, omega arith, refl)
alu_named (suc zero) true below compares = (3, omega arith, refl)
alu_named (suc (suc zero)) false below compares = (4, omega arith, refl)
alu_named (suc (suc zero)) true below compares = (5, omega arith, refl)
alu_named (suc (suc (suc zero))) false below compares = (6, omega arith, refl)
alu_named (suc (suc (suc zero))) true below compares = (7, omega arith, refl)
alu_named (suc (suc (suc (suc zero)))) false below compares = (8, omega arith, refl)
alu_named (suc (suc (suc (suc zero)))) true below compares = (9, omega arith, refl)
alu_named (suc (suc (suc (suc (suc zero))))) false below compares = (10, omega arith, refl)
alu_named (suc (suc (suc (suc (suc zero))))) true below compares = (11, omega arith, refl)
alu_named (suc (suc (suc (suc (suc (suc zero)))))) false below compares = (12, omega arith, refl)
alu_named (suc (suc (suc (suc (suc (suc zero)))))) true below compares = (13, omega arith, refl)
alu_named (suc (suc (suc (suc (suc (suc (suc zero))))))) false below compares = (14, omega arith, refl)
alu_named (suc (suc (suc (suc (suc (suc (suc zero))))))) true below compares = (15, omega arith, refl)
alu_named (suc (suc (suc (suc (suc (suc (suc (suc zero)))))))) false below compares = let sets = compares refl in absurd (cc)
alu_named (suc (suc (suc (suc (suc (suc (suc (suc zero)))))))) true below compares = (16, omega arith, refl)
alu_named (suc (suc (suc (suc (suc (suc (suc (suc (suc zero))))))))) false below compares = let sets = compares refl in absurd (cc)
alu_named (suc (suc (suc (suc (suc (suc (suc (suc (suc zero))))))))) true below compares = (17, omega arith, refl)
alu_named (suc (suc (suc (suc (suc (suc (suc (suc (suc (suc zero)))))))))) false below compares = let sets = compares refl in absurd (cc)
alu_named (suc (suc (suc (suc (suc (suc (suc (suc (suc (suc zero)))))))))) true below compares = (18, omega arith, refl)
alu_named (suc (suc (suc (suc (suc (suc (suc (suc (suc (suc (suc zero))))))))))) false below compares = let sets = compares refl in absurd (cc)
alu_named (suc (suc (suc (suc (suc (suc (suc (suc (suc (suc (suc zero))))))))))) true below compares = (19, omega arith, refl)
alu_named (suc (suc (suc (suc (suc (suc (suc (suc (suc (suc (suc (suc zero)))))))))))) false below compares = (20, omega arith, refl)
alu_named (suc (suc (suc (suc (suc (suc (suc (suc (suc (suc (suc (suc zero)))))))))))) true below compares = (21, omega arith, refl)
alu_named (suc (suc (suc (suc (suc (suc (suc (suc (suc (suc (suc (suc (suc zero))))))))))))) false below compares = (22, omega arith, refl)
alu_named (suc (suc (suc (suc (suc (suc (suc (suc (suc (suc (suc (suc (suc zero))))))))))))) true below compares = (23, omega arith, refl)
alu_named (suc (suc (suc (suc (suc (suc (suc (suc (suc (suc (suc (suc (suc (suc zero)))))))))))))) false below compares = (24, omega arith, refl)
alu_named (suc (suc (suc (suc (suc (suc (suc (suc (suc (suc (suc (suc (suc (suc zero)))))))))))))) true below compares = (25, omega arith, refl)
alu_named (suc (suc (suc (suc (suc (suc (suc (suc (suc (suc (suc (suc (suc (suc (suc zero))))))))))))))) false below compares = (26, omega arith, refl)
alu_named (suc (suc (suc (suc (suc (suc (suc (suc (suc (suc (suc (suc (suc (suc (suc zero))))))))))))))) true below compares = (27, omega arith, refl)
alu_named (suc (suc (suc (suc (suc (suc (suc (suc (suc (suc (suc (suc (suc (suc (suc (suc n)))))))))))))))) flags below compares = absurd (omega arith)

-- each operation has a name of the table
pub named : (o : Op) → OpFits o → Contains names (name_of o)
named (op.Alu code flags first to second) fits = alu_named code flags fits.0 fits.4
named (op.Mul false false to added second first) fits = (28, omega arith, refl)
named (op.Mul false true to added second first) fits = (29, omega arith, refl)
named (op.Mul true false to added second first) fits = (30, omega arith, refl)
named (op.Mul true true to added second first) fits = (31, omega arith, refl)
named (op.MulLong false false false high low second first) fits = (32, omega arith, refl)
named (op.MulLong false false true high low second first) fits = (33, omega arith, refl)
named (op.MulLong false true false high low second first) fits = (34, omega arith, refl)
named (op.MulLong false true true high low second first) fits = (35, omega arith, refl)
named (op.MulLong true false false high low second first) fits = (36, omega arith, refl)
named (op.MulLong true false true high low second first) fits = (37, omega arith, refl)
named (op.MulLong true true false high low second first) fits = (38, omega arith, refl)
named (op.MulLong true true true high low second first) fits = (39, omega arith, refl)
named (op.Single false false to base index up by) fits = (40, omega arith, refl)
named (op.Single false true to base index up by) fits = (41, omega arith, refl)
named (op.Single true false to base index up by) fits = (42, omega arith, refl)
named (op.Single true true to base index up by) fits = (43, omega arith, refl)
named (op.Half Ldrh to base index up by) fits = (44, omega arith, refl)
named (op.Half Strh to base index up by) fits = (45, omega arith, refl)
named (op.Half Ldrsb to base index up by) fits = (46, omega arith, refl)
named (op.Half Ldrsh to base index up by) fits = (47, omega arith, refl)
named (op.Block false false false wback base list) fits = (48, omega arith, refl)
named (op.Block false false true wback base list) fits = (49, omega arith, refl)
named (op.Block false true false wback base list) fits = (50, omega arith, refl)
named (op.Block false true true wback base list) fits = (51, omega arith, refl)
named (op.Block true false false wback base list) fits = (52, omega arith, refl)
named (op.Block true false true wback base list) fits = (53, omega arith, refl)
named (op.Block true true false wback base list) fits = (54, omega arith, refl)
named (op.Block true true true wback base list) fits = (55, omega arith, refl)
named (op.Branch false words) fits = (56, omega arith, refl)
named (op.Branch true words) fits = (57, omega arith, refl)
named (op.Exchange false register) fits = (58, omega arith, refl)
named (op.Exchange true register) fits = (59, omega arith, refl)
named (op.Svc number) fits = (60, omega arith, refl)
named op.MovPcLr fits = (22, omega arith, refl)

-- no mnemonic holds a space
spaceless : (d : Name) → list_all (λ k. list_all (λ cond. is_without 32 (name_text (get_or names k d) ++ condition_suffix cond)) (range_with_len 0 15)) (range_with_len 0 61) ≡ true
spaceless d = refl

pub mnemonic_without : (n : Name) (cond : ℕ) → Contains names n → cond < 15 → is_without 32 (name_text n ++ condition_suffix cond) ≡ true
mnemonic_without n cond among small =
    ap (λ m. is_without 32 (name_text m ++ condition_suffix cond)) (sym among.2)
    ∙ below_all (λ cond. is_without 32 (name_text (get_or names among.0 n) ++ condition_suffix cond)) 15
    (below_all (λ k. list_all (λ cond. is_without 32 (name_text (get_or names k n) ++ condition_suffix cond)) (range_with_len 0 15)) 61 (spaceless n) among.0 among.1) cond small

-- what has been read of a text, put together
pub whole_text : (address cond : ℕ) (n : Name) (o : Op) (mnemonic operands text : List ℕ) → text ≡ mnemonic ++ 32 ∷ operands → mnemonic ≡ name_text n ++ condition_suffix cond → name_of o ≡ n → operands ≡ operands_text address o → text ≡ text_of address (record { cond = cond; op = o })
whole_text address cond n o mnemonic operands text same mnemonic_is name_is operands_is =
    same ∙ ap (λ m. m ++ 32 ∷ operands) (mnemonic_is ∙ ap (λ k. name_text k ++ condition_suffix cond) (sym name_is))
    ∙ ap (λ t. name_text (name_of o) ++ condition_suffix cond ++ 32 ∷ t) operands_is
    ∙ sym (text_is address (record { cond = cond; op = o }))

pub mnemonic_parts : (n m : Name) (k j : ℕ) → ◌≡◌ {A = Option (Name × ℕ)} (Some (n, k)) (Some (m, j)) → (n ≡ m) × (k ≡ j)
mnemonic_parts n m k j same =
    let pair : ◌≡◌ {A = Name × ℕ} (n, k) (m, j) = cc in
    (ap (λ (p : Name × ℕ). p.0) pair, ap (λ (p : Name × ℕ). p.1) pair)

pub insn_answer : (k : ℕ) (o : Op) (insn : Insn) → k ≡ insn.cond → Some o ≡ Some insn.op → ◌≡◌ {A = Option Insn} (Some (record { cond = k; op = o })) (Some insn)
insn_answer k o insn cond_is op_is =
    let by_cond : ℕ → Option Insn = λ j. Some (record { cond = j; op = o }) in
    let by_op : Op → Insn = λ p. record { cond = insn.cond; op = p } in
    ap by_cond cond_is ∙ ap (option_map by_op) op_is

pub one_insn : (a b : Insn) → ◌≡◌ {A = Option Insn} (Some a) (Some b) → a ≡ b
one_insn a b same = cc

pub no_insn : (o : Option Insn) (a : Insn) → o ≡ None → o ≡ Some a → ⊥
no_insn o a none some = cc
