-- The word of the instruction that a word is, is that word.
use Rattle.std.proofs.Common.{◌≡◌, ℕ, ◌+◌, ◌*◌, ◌%◌, ◌^◌, ◌<◌, ◌⊎◌, inl, inr, Bool, true, false, cond, not, ◌&&◌, ◌||◌, eqb, ltb, List, [], ◌∷◌, Option, Some, None, refl, sym, subst, arith}
use Rattle.std.proofs.lemmas.Bool.{and_parts, eqb-true, eqb-false, ltb-false}
use Rattle.std.proofs.lemmas.Int.{ints}
use Rattle.std.specs.Int.{cast_unsigned, w32}
use Rattle.std.specs.Prelude.{pos, ◌-ℤ◌, ⊤}
use Rattle.arm_code.specs.declared.insn.HalfKind.TheVariants as HalfKind
use Rattle.std.specs.List.{find, list_all, list_any}
use Rattle.std.specs.Option.{option_map}
use Rattle.wx_base.specs.Bits.{bits}
use Rattle.wx_base.specs.Instruction.{Kind, AluImmediate, AluShift, AluByRegister, Mul, MulLong, SingleImmediate, SingleRegister, HalfImmediate, HalfRegister, Block, Branch, Exchange, Svc, MovPcLr, kinds, Setting, row_of, has, has_rest, meets, matches, kind_of, condition, no_condition, is_base_setting, is_before, writes_back, rn, rd, is_load, half_sort, half_barred, half_also, single_also}
use Rattle.arm_code.specs.declared.insn.Insn.{Insn}
use Rattle.arm_code.specs.Encoding.{insn_by, decoded, word_of, flag_bit, index_bits, index_by, half_kind_bits, signed_offset, IsValid}
use Rattle.arm_code.proofs.Sums.{top, opcode_part, single_bits, registers_part, rotated_part, shifted_part, between_part, list_part, long_part, exchange_part, exchange_low, return_part}

-- each setting as an equation
abbrev pub AllHave : ℕ → List Setting → Type 0
AllHave word [] = ⊤
AllHave word (s ∷ settings) = (bits s.high s.low word ≡ s.value) × AllHave word settings

pub all_have : (word : ℕ) (settings : List Setting) → list_all (has word) settings ≡ true → AllHave word settings
all_have word [] e = tt
all_have word (s ∷ settings) e =
    let parts = and_parts (has word s) (list_all (has word) settings) e in
    (eqb-true _ _ parts.0, all_have word settings parts.1)

fixed : (word : ℕ) (kind : Kind) → meets word (row_of kind) ≡ true → AllHave word (row_of kind).fixed
fixed word kind e =
    all_have word (row_of kind).fixed (and_parts (list_all (has word) (row_of kind).fixed) (has_rest word (row_of kind)) e).0

-- the side condition of a row
pub also_of : (word : ℕ) (kind : Kind) → meets word (row_of kind) ≡ true → (row_of kind).also word ≡ true
also_of word kind e =
    (and_parts (not (list_any (λ settings. list_all (has word) settings) (row_of kind).barred)) ((row_of kind).also word)
    (and_parts (list_all (has word) (row_of kind).fixed) (has_rest word (row_of kind)) e).1).1

-- a bit that is 0 or 1, as a flag
flag : (x at : ℕ) → x < 2 → flag_bit (eqb x 1) at ≡ x * 2 ^ at
flag x at small = by (eqb x 1) refl
  where
    by : (b : Bool) → eqb x 1 ≡ b → flag_bit b at ≡ x * 2 ^ at
    by true e = let is = eqb-true x 1 e in rw is (omega arith)
    by false e = let is = eqb-false x 1 e in let zero_is : x ≡ 0 = omega arith in rw zero_is (omega arith)

-- the two bits that say how an offset is used
index_is : (p w : ℕ) (a b : Bool) → eqb p 1 ≡ a → eqb w 1 ≡ b → p < 2 → w < 2 → (a || not b) ≡ true → index_bits (index_by a b) ≡ p * 2 ^ 24 + w * 2 ^ 21
index_is p w true true e f hp hw s = let ep = eqb-true p 1 e in let ew = eqb-true w 1 f in omega arith
index_is p w true false e f hp hw s = let ep = eqb-true p 1 e in let ew = eqb-false w 1 f in omega arith
index_is p w false true e f hp hw s = cc
index_is p w false false e f hp hw s = let ep = eqb-false p 1 e in let ew = eqb-false w 1 f in omega arith

-- the bits that say what a transfer of a half word moves
half_kind_is : (l sort : ℕ) (a b c : Bool) → eqb l 1 ≡ a → eqb sort 1 ≡ b → eqb sort 2 ≡ c → l < 2 → sort < 4 → (sort ≡ 0 → ⊥) → (a || b) ≡ true → half_kind_bits (cond b (cond a HalfKind.Ldrh HalfKind.Strh) (cond c HalfKind.Ldrsb HalfKind.Ldrsh)) ≡ l * 2 ^ 20 + sort * 2 ^ 5
half_kind_is l sort true true c e f g hl hs n s = let el = eqb-true l 1 e in let es = eqb-true sort 1 f in omega arith
half_kind_is l sort false true c e f g hl hs n s = let el = eqb-false l 1 e in let es = eqb-true sort 1 f in omega arith
half_kind_is l sort true false true e f g hl hs n s = let el = eqb-true l 1 e in let es = eqb-true sort 2 g in omega arith
half_kind_is l sort true false false e f g hl hs n s =
    let el = eqb-true l 1 e in let es = eqb-false sort 1 f in let et = eqb-false sort 2 g in omega arith
half_kind_is l sort false false c e f g hl hs n s = cc

-- the low 24 bits of a signed number of 24 bits
offset_is : (words : ℕ) (b : Bool) → ltb words (2 ^ 23) ≡ b → words < 2 ^ 24 → cast_unsigned w32 (cond b (pos words) (pos words -ℤ pos (2 ^ 24))) % 2 ^ 24 ≡ words
offset_is words true e small = omega arith
offset_is words false e small = let h = ltb-false words (2 ^ 23) e in omega (arith, ints)

offset_of_words : (words : ℕ) → words < 2 ^ 24 → cast_unsigned w32 (signed_offset words) % 2 ^ 24 ≡ words
offset_of_words words small = offset_is words (ltb words (2 ^ 23)) refl small

-- what a transfer's side conditions say of its bits
before_or_plain : (word : ℕ) (load_to : Bool) → (is_base_setting (is_before word) (writes_back word) (rn word) (rd word) && load_to) ≡ true → (is_before word || not (writes_back word)) ≡ true
before_or_plain word load_to e =
    (and_parts (is_before word || not (writes_back word)) _ (and_parts (is_base_setting (is_before word) (writes_back word) (rn word) (rd word)) load_to e).0).0

not_barred : (x : Bool) → not ((x && true) || false) ≡ true → x ≡ false
not_barred true e = cc
not_barred false e = refl

-- what the side conditions of a transfer of a half word say of its bits
pub record HalfBits (word : ℕ) : Type 0 where
  pub sort_is : eqb (half_sort word) 0 ≡ false
  pub loads_or_half : (is_load word || eqb (half_sort word) 1) ≡ true
  pub plain : (is_before word || not (writes_back word)) ≡ true

half_from_also : (word : ℕ) → half_also word ≡ true → not (list_any (λ settings. list_all (has word) settings) half_barred) ≡ true → HalfBits word
half_from_also word e n =
    let p = and_parts ((is_load word || eqb (half_sort word) 1) && is_base_setting (is_before word) (writes_back word) (rn word) (rd word)) _ e in
    let q = and_parts (is_load word || eqb (half_sort word) 1) _ p.0 in
    record {
      sort_is = not_barred _ n;
      loads_or_half = q.0;
      plain = (and_parts (is_before word || not (writes_back word)) _ q.1).0;
    }

pub half_bits : (word : ℕ) (kind : Kind) → (kind ≡ HalfImmediate) ⊎ (kind ≡ HalfRegister) → meets word (row_of kind) ≡ true → HalfBits word
half_bits word HalfImmediate k e =
    let rest = and_parts _ (half_also word) (and_parts (list_all (has word) (row_of HalfImmediate).fixed) _ e).1 in
    half_from_also word rest.1 rest.0
half_bits word HalfRegister k e =
    let rest = and_parts _ ((row_of HalfRegister).also word) (and_parts (list_all (has word) (row_of HalfRegister).fixed) _ e).1 in
    half_from_also word (and_parts (half_also word) _ rest.1).0 rest.0
half_bits word _ (inl k) e = cc
half_bits word _ (inr k) e = cc

-- the word of what a row reads is the word
spelled_by : (word : ℕ) (kind : Kind) → word < 2 ^ 32 → meets word (row_of kind) ≡ true → word_of (insn_by word kind) ≡ word
unfolding word_of
spelled_by word AluImmediate small e =
    let h = fixed word AluImmediate e in
    let row : bits 27 25 word ≡ 1 = h.0 in
    omega (arith, top word small, opcode_part word, registers_part word, rotated_part word, flag (bits 20 20 word) 20 (omega arith))
spelled_by word AluShift small e =
    let h = fixed word AluShift e in
    let row : bits 27 25 word ≡ 0 = h.0 in
    let four : bits 4 4 word ≡ 0 = h.1.0 in
    omega (arith, top word small, opcode_part word, registers_part word, shifted_part word, flag (bits 20 20 word) 20 (omega arith))
spelled_by word AluByRegister small e =
    let h = fixed word AluByRegister e in
    let row : bits 27 25 word ≡ 0 = h.0 in
    let four : bits 4 4 word ≡ 1 = h.1.0 in
    let seven : bits 7 7 word ≡ 0 = h.1.1.0 in
    omega (arith, top word small, opcode_part word, registers_part word, between_part word, flag (bits 20 20 word) 20 (omega arith))
spelled_by word Mul small e =
    let h = fixed word Mul e in
    let row : bits 27 25 word ≡ 0 = h.0 in
    let four : bits 4 4 word ≡ 1 = h.1.0 in
    let seven : bits 7 7 word ≡ 1 = h.1.1.0 in
    let sort : bits 6 5 word ≡ 0 = h.1.1.1.0 in
    let b24 : bits 24 24 word ≡ 0 = h.1.1.1.1.0 in
    let b23 : bits 23 23 word ≡ 0 = h.1.1.1.1.1.0 in
    let b22 : bits 22 22 word ≡ 0 = h.1.1.1.1.1.1.0 in
    omega (arith, top word small, single_bits word, registers_part word, between_part word, flag (bits 21 21 word) 21 (omega arith), flag (bits 20 20 word) 20 (omega arith))
spelled_by word MulLong small e =
    let h = fixed word MulLong e in
    let row : bits 27 25 word ≡ 0 = h.0 in
    let four : bits 4 4 word ≡ 1 = h.1.0 in
    let seven : bits 7 7 word ≡ 1 = h.1.1.0 in
    let sort : bits 6 5 word ≡ 0 = h.1.1.1.0 in
    let b24 : bits 24 24 word ≡ 0 = h.1.1.1.1.0 in
    let b23 : bits 23 23 word ≡ 1 = h.1.1.1.1.1.0 in
    omega (arith, top word small, single_bits word, registers_part word, between_part word, flag (bits 22 22 word) 22 (omega arith), flag (bits 21 21 word) 21 (omega arith), flag (bits 20 20 word) 20 (omega arith))
spelled_by word SingleImmediate small e =
    let h = fixed word SingleImmediate e in
    let row : bits 27 25 word ≡ 2 = h.0 in
    let index = index_is (bits 24 24 word) (bits 21 21 word) (is_before word) (writes_back word) refl refl (omega arith) (omega arith) (before_or_plain word _ (also_of word SingleImmediate e)) in
    omega (arith, top word small, single_bits word, registers_part word, index, flag (bits 23 23 word) 23 (omega arith), flag (bits 22 22 word) 22 (omega arith), flag (bits 20 20 word) 20 (omega arith))
spelled_by word SingleRegister small e =
    let h = fixed word SingleRegister e in
    let row : bits 27 25 word ≡ 3 = h.0 in
    let four : bits 4 4 word ≡ 0 = h.1.0 in
    let index = index_is (bits 24 24 word) (bits 21 21 word) (is_before word) (writes_back word) refl refl (omega arith) (omega arith) (before_or_plain word _ (and_parts (single_also word) _ (also_of word SingleRegister e)).0) in
    omega (arith, top word small, single_bits word, registers_part word, shifted_part word, index, flag (bits 23 23 word) 23 (omega arith), flag (bits 22 22 word) 22 (omega arith), flag (bits 20 20 word) 20 (omega arith))
spelled_by word HalfImmediate small e =
    let h = fixed word HalfImmediate e in
    let row : bits 27 25 word ≡ 0 = h.0 in
    let four : bits 4 4 word ≡ 1 = h.1.0 in
    let seven : bits 7 7 word ≡ 1 = h.1.1.0 in
    let b22 : bits 22 22 word ≡ 1 = h.1.1.1.0 in
    let f = half_bits word HalfImmediate (inl refl) e in
    let index = index_is (bits 24 24 word) (bits 21 21 word) (is_before word) (writes_back word) refl refl (omega arith) (omega arith) f.plain in
    let sort = half_kind_is (bits 20 20 word) (half_sort word) (is_load word) (eqb (half_sort word) 1) (eqb (half_sort word) 2) refl refl refl (omega arith) (omega arith) (eqb-false _ _ f.sort_is) f.loads_or_half in
    omega (arith, top word small, single_bits word, registers_part word, between_part word, index, sort, flag (bits 23 23 word) 23 (omega arith))
spelled_by word HalfRegister small e =
    let h = fixed word HalfRegister e in
    let row : bits 27 25 word ≡ 0 = h.0 in
    let four : bits 4 4 word ≡ 1 = h.1.0 in
    let seven : bits 7 7 word ≡ 1 = h.1.1.0 in
    let b22 : bits 22 22 word ≡ 0 = h.1.1.1.0 in
    let zeros : bits 11 8 word ≡ 0 = h.1.1.1.1.0 in
    let f = half_bits word HalfRegister (inr refl) e in
    let index = index_is (bits 24 24 word) (bits 21 21 word) (is_before word) (writes_back word) refl refl (omega arith) (omega arith) f.plain in
    let sort = half_kind_is (bits 20 20 word) (half_sort word) (is_load word) (eqb (half_sort word) 1) (eqb (half_sort word) 2) refl refl refl (omega arith) (omega arith) (eqb-false _ _ f.sort_is) f.loads_or_half in
    omega (arith, top word small, single_bits word, registers_part word, between_part word, index, sort, flag (bits 23 23 word) 23 (omega arith))
spelled_by word Block small e =
    let h = fixed word Block e in
    let row : bits 27 25 word ≡ 4 = h.0 in
    let b22 : bits 22 22 word ≡ 0 = h.1.0 in
    omega (arith, top word small, single_bits word, list_part word, flag (bits 24 24 word) 24 (omega arith), flag (bits 23 23 word) 23 (omega arith), flag (bits 21 21 word) 21 (omega arith), flag (bits 20 20 word) 20 (omega arith))
spelled_by word Branch small e =
    let h = fixed word Branch e in
    let row : bits 27 25 word ≡ 5 = h.0 in
    omega (arith, top word small, long_part word, flag (bits 24 24 word) 24 (omega arith), offset_of_words (bits 23 0 word) (omega arith))
spelled_by word Exchange small e =
    let h = fixed word Exchange e in
    let row : bits 27 25 word ≡ 0 = h.0 in
    let four : bits 4 4 word ≡ 1 = h.1.0 in
    let seven : bits 7 7 word ≡ 0 = h.1.1.0 in
    let six : bits 6 6 word ≡ 0 = h.1.1.1.0 in
    let b24 : bits 24 23 word ≡ 2 = h.1.1.1.1.0 in
    let b22 : bits 22 22 word ≡ 0 = h.1.1.1.1.1.0 in
    let b21 : bits 21 21 word ≡ 1 = h.1.1.1.1.1.1.0 in
    let b20 : bits 20 20 word ≡ 0 = h.1.1.1.1.1.1.1.0 in
    let ones : bits 19 8 word ≡ 4095 = h.1.1.1.1.1.1.1.1.0 in
    omega (arith, top word small, exchange_part word, exchange_low word, flag (bits 5 5 word) 5 (omega arith))
spelled_by word Svc small e =
    let h = fixed word Svc e in
    let row : bits 27 25 word ≡ 7 = h.0 in
    let b24 : bits 24 24 word ≡ 1 = h.1.0 in
    omega (arith, top word small, long_part word)
spelled_by word MovPcLr small e =
    let h = fixed word MovPcLr e in
    let row : bits 27 25 word ≡ 0 = h.0 in
    let four : bits 4 4 word ≡ 0 = h.1.0 in
    let seven : bits 7 7 word ≡ 0 = h.1.1.0 in
    let sort : bits 6 5 word ≡ 0 = h.1.1.1.0 in
    let code : bits 24 16 word ≡ 416 = h.1.1.1.1.0 in
    let to : bits 15 12 word ≡ 15 = h.1.1.1.1.1.0 in
    let zeros : bits 11 8 word ≡ 0 = h.1.1.1.1.1.1.0 in
    let lr : bits 3 0 word ≡ 14 = h.1.1.1.1.1.1.1.0 in
    omega (arith, top word small, return_part word, between_part word)

-- what is found passes the test
found_passes : (test : Kind → Bool) (ks : List Kind) (kind : Kind) → find test ks ≡ Some kind → test kind ≡ true
found_passes test [] kind e = cc
found_passes test (k ∷ ks) kind e = by (test k) refl e (found_passes test ks kind)
  where
    by : (b : Bool) → test k ≡ b → cond b (Some k) (find test ks) ≡ Some kind → (find test ks ≡ Some kind → test kind ≡ true) → test kind ≡ true
    by true t f rest = let same : k ≡ kind = cc in subst (λ x. test x ≡ true) same t
    by false t f rest = rest f

-- a word that is an instruction meets the row that reads it
pub record ReadBy (word : ℕ) (insn : Insn) : Type 0 where
  pub kind : Kind
  pub kind_is : kind_of word ≡ Some kind
  pub met : meets word (row_of kind) ≡ true
  pub insn_is : insn_by word kind ≡ insn

pub read_by : (word : ℕ) (insn : Insn) → decoded word ≡ Some insn → ReadBy word insn
unfolding decoded kind_of
read_by word insn e = by (find (λ kind. matches kind word) kinds) refl e
  where
    by : (found : Option Kind) → find (λ kind. matches kind word) kinds ≡ found → option_map (insn_by word) found ≡ Some insn → ReadBy word insn
    by None f m = cc
    by (Some k) f m = record {
      kind = k;
      kind_is = f;
      met = (and_parts (not (eqb (condition word) no_condition)) _ (found_passes (λ kind. matches kind word) kinds k f)).1;
      insn_is = cc;
    }

-- the word of the instruction that a word is, is that word
pub spelled : (word : ℕ) (insn : Insn) → word < 2 ^ 32 → decoded word ≡ Some insn → word_of insn ≡ word
spelled word insn small e =
    let r = read_by word insn e in
    subst (λ i. word_of i ≡ word) r.insn_is (spelled_by word r.kind small r.met)

-- a valid instruction is read from its own word
pub word_decodes : (insn : Insn) → IsValid insn → decoded (word_of insn) ≡ Some insn
word_decodes insn v = subst (λ w. decoded w ≡ Some insn) (sym (spelled v.word insn v.fits v.means)) v.means

pub word_fits : (insn : Insn) → IsValid insn → word_of insn < 2 ^ 32
word_fits insn v = subst (λ w. w < 2 ^ 32) (sym (spelled v.word insn v.fits v.means)) v.fits
