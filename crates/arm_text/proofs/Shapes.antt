-- What an operand's text looks like: which separators it holds, and by which of its bytes its forms differ.
use Rattle.std.proofs.Common.{◌≡◌, ℕ, zero, suc, ◌*◌, ◌<◌, ◌^◌, ◌⊎◌, inl, inr, Bool, true, false, cond, not, ◌==◌, eqb, List, [], ◌∷◌, ◌++◌, get_or, drop, Option, Some, codes, refl, sym, ◌∙◌, ap, subst, arith}
use Rattle.std.proofs.lemmas.Bool.{and_parts, eqb-true}
use Rattle.std.proofs.lemmas.Bool.Decides.{nat_tests}
use Rattle.std.proofs.lemmas.List.{append-nil, append_assoc}
use Rattle.std.proofs.lemmas.Str.Parse.{tells_digits}
use Rattle.std.proofs.lemmas.Fmt.{decimal_is_IsNumeral}
use Rattle.std.specs.Option.{option_map}
use Rattle.std.specs.Str.Parse.{AllDigits, digits_value}
use Rattle.wx_text.specs.Decimal.{decimal}
use Rattle.arm_text.specs.Names.{register_name, shift_name}
use Rattle.arm_text.specs.Text.{further, numeral, rotated, is_least_rotation, immediate_text, shift_text, shifted_text, by_register_text}
use Rattle.arm_text.specs.Mnemonics.{is_without}
use Rattle.arm_text.proofs.Distinct.{register_without, register_letter}

-- a text without a byte does not hold it
same_byte : (separator : ℕ) → not (separator == separator) ≡ true → ⊥
same_byte separator none = grind (arith, nat_tests)

pub without_none : (separator : ℕ) (head tail : List ℕ) → is_without separator (head ++ separator ∷ tail) ≡ true → ⊥
without_none separator [] tail none = same_byte separator (and_parts (not (separator == separator)) (is_without separator tail) none).0
without_none separator (b ∷ head) tail none =
    without_none separator head tail (and_parts (not (b == separator)) (is_without separator (head ++ separator ∷ tail)) none).1

pub parted : (separator : ℕ) (text head tail : List ℕ) → is_without separator text ≡ true → text ≡ head ++ separator ∷ tail → ⊥
parted separator text head tail none same = without_none separator head tail (subst (λ t. is_without separator t ≡ true) same none)

-- digits hold no separator
digits_without : (separator : ℕ) (ds : List ℕ) → separator < 48 → AllDigits 10 ds → is_without separator ds ≡ true
digits_without separator [] below digits = refl
digits_without separator (c ∷ cs) below digits =
    let parts = tells_digits.parts c cs digits in
    let rest = digits_without separator cs below parts.1 in
    grind (arith, nat_tests)

pub numeral_without : (n : ℕ) → n < 2 ^ 32 → is_without 32 (numeral n) ≡ true
numeral_without n small = digits_without 32 (decimal n) (omega arith) (decimal_is_IsNumeral n (omega arith)).0.1

-- the two spellings of an immediate operand
pub record IsNumber (value rot : ℕ) (text : List ℕ) : Type 0 where
  pub least : is_least_rotation value rot ≡ true
  pub text_is : text ≡ numeral (rotated value rot)

pub record IsRotation (value rot : ℕ) (text : List ℕ) : Type 0 where
  pub least : is_least_rotation value rot ≡ false
  pub text_is : text ≡ numeral value ++ 32 ∷ (codes "ror " ++ decimal (2 * rot))

abbrev pub immediate_by : ℕ → ℕ → Bool → List ℕ
immediate_by value rot least = cond least (numeral (rotated value rot)) (numeral value ++ codes " ror " ++ decimal (2 * rot))

by_least : (value rot : ℕ) (text : List ℕ) (b : Bool) → is_least_rotation value rot ≡ b → text ≡ immediate_by value rot b → IsNumber value rot text ⊎ IsRotation value rot text
by_least value rot text true e same = inl (record { least = e; text_is = same })
by_least value rot text false e same = inr (record { least = e; text_is = same ∙ append_assoc (numeral value) (codes " ror ") (decimal (2 * rot)) })

pub immediate_cases : (value rot : ℕ) (text : List ℕ) → text ≡ immediate_text value rot → IsNumber value rot text ⊎ IsRotation value rot text
immediate_cases value rot text same = by_least value rot text (is_least_rotation value rot) refl same

-- a register by itself, or one with something behind it
pub record IsBehind (kind amount : ℕ) : Type 0 where
  pub shift_is : shift_text kind amount ≡ further (drop 2 (shift_text kind amount))

shift_by : (kind amount : ℕ) (b : Bool) → eqb amount 0 ≡ b → kind < 4 → ((kind ≡ 0) × (amount ≡ 0)) ⊎ IsBehind kind amount
shift_by zero amount true e below = inl (refl, eqb-true amount 0 e)
shift_by (suc zero) amount true e below = inr (record { shift_is = rw e refl })
shift_by (suc (suc zero)) amount true e below = inr (record { shift_is = rw e refl })
shift_by (suc (suc (suc zero))) amount true e below = inr (record { shift_is = rw e refl })
shift_by (suc (suc (suc (suc n)))) amount true e below = absurd (omega arith)
shift_by kind amount false e below = inr (record { shift_is = rw e refl })

pub shift_cases : (kind amount : ℕ) → kind < 4 → ((kind ≡ 0) × (amount ≡ 0)) ⊎ IsBehind kind amount
shift_cases kind amount below = shift_by kind amount (eqb amount 0) refl below

-- only the number 32 is spelled `32`
is_32 : (n : ℕ) → n < 32 → decimal n ≡ codes "32" → ⊥
is_32 n small same =
    let value : digits_value 10 (codes "32") ≡ n = ap (digits_value 10) (sym same) ∙ (decimal_is_IsNumeral n (omega arith)).1 in
    omega arith

-- a shift right by 32 places is spelled by an amount of 0
lsr_by : (kind amount : ℕ) (b : Bool) → eqb amount 0 ≡ b → kind < 4 → amount < 32 → further (codes "lsr #32") ≡ shift_text kind amount → ◌≡◌ {A = Option (ℕ × ℕ)} (Some (1, 0)) (Some (kind, amount))
lsr_by zero amount true e below small same = let s = rw e at same in let letter = ap (λ t. get_or t 0 0) s in absurd (omega arith)
lsr_by (suc zero) amount true e below small same = let none = eqb-true amount 0 e in cc
lsr_by (suc (suc zero)) amount true e below small same = let s = rw e at same in let letter = ap (λ t. get_or t 2 0) s in absurd (omega arith)
lsr_by (suc (suc (suc zero))) amount true e below small same = let s = rw e at same in let letter = ap (λ t. get_or t 2 0) s in absurd (omega arith)
lsr_by zero amount false e below small same = let s = rw e at same in let letter = ap (λ t. get_or t 4 0) s in absurd (omega arith)
lsr_by (suc zero) amount false e below small same = let s = rw e at same in let number : decimal amount ≡ codes "32" = sym (ap (drop 7) s) in absurd (is_32 amount small number)
lsr_by (suc (suc zero)) amount false e below small same = let s = rw e at same in let letter = ap (λ t. get_or t 2 0) s in absurd (omega arith)
lsr_by (suc (suc (suc zero))) amount false e below small same = let s = rw e at same in let letter = ap (λ t. get_or t 2 0) s in absurd (omega arith)
lsr_by (suc (suc (suc (suc n)))) amount b e below small same = absurd (omega arith)

pub lsr_32 : (kind amount : ℕ) (text : List ℕ) → kind < 4 → amount < 32 → text ≡ codes "lsr #32" → further text ≡ shift_text kind amount → ◌≡◌ {A = Option (ℕ × ℕ)} (Some (1, 0)) (Some (kind, amount))
lsr_32 kind amount text below small is same = lsr_by kind amount (eqb amount 0) refl below small (ap further (sym is) ∙ same)

asr_by : (kind amount : ℕ) (b : Bool) → eqb amount 0 ≡ b → kind < 4 → amount < 32 → further (codes "asr #32") ≡ shift_text kind amount → ◌≡◌ {A = Option (ℕ × ℕ)} (Some (2, 0)) (Some (kind, amount))
asr_by zero amount true e below small same = let s = rw e at same in let letter = ap (λ t. get_or t 0 0) s in absurd (omega arith)
asr_by (suc zero) amount true e below small same = let s = rw e at same in let letter = ap (λ t. get_or t 2 0) s in absurd (omega arith)
asr_by (suc (suc zero)) amount true e below small same = let none = eqb-true amount 0 e in cc
asr_by (suc (suc (suc zero))) amount true e below small same = let s = rw e at same in let letter = ap (λ t. get_or t 2 0) s in absurd (omega arith)
asr_by zero amount false e below small same = let s = rw e at same in let letter = ap (λ t. get_or t 2 0) s in absurd (omega arith)
asr_by (suc zero) amount false e below small same = let s = rw e at same in let letter = ap (λ t. get_or t 2 0) s in absurd (omega arith)
asr_by (suc (suc zero)) amount false e below small same = let s = rw e at same in let number : decimal amount ≡ codes "32" = sym (ap (drop 7) s) in absurd (is_32 amount small number)
asr_by (suc (suc (suc zero))) amount false e below small same = let s = rw e at same in let letter = ap (λ t. get_or t 2 0) s in absurd (omega arith)
asr_by (suc (suc (suc (suc n)))) amount b e below small same = absurd (omega arith)

pub asr_32 : (kind amount : ℕ) (text : List ℕ) → kind < 4 → amount < 32 → text ≡ codes "asr #32" → further text ≡ shift_text kind amount → ◌≡◌ {A = Option (ℕ × ℕ)} (Some (2, 0)) (Some (kind, amount))
asr_32 kind amount text below small is same = asr_by kind amount (eqb amount 0) refl below small (ap further (sym is) ∙ same)

-- no name of a shift holds a space
pub shift_without : (kind : ℕ) → kind < 4 → is_without 32 (shift_name kind) ≡ true
shift_without zero below = refl
shift_without (suc zero) below = refl
shift_without (suc (suc zero)) below = refl
shift_without (suc (suc (suc zero))) below = refl
shift_without (suc (suc (suc (suc n)))) below = absurd (omega arith)

-- a register that is not shifted, and one that is
pub plain_register : (register kind amount : ℕ) (text : List ℕ) → kind ≡ 0 → amount ≡ 0 → text ≡ shifted_text register kind amount → text ≡ register_name register
plain_register register kind amount text no_kind no_amount same =
    same ∙ ap (λ k. shifted_text register k amount) no_kind ∙ ap (λ a. shifted_text register 0 a) no_amount
    ∙ append-nil (register_name register)

pub shifted_register : (register kind amount : ℕ) (text : List ℕ) → IsBehind kind amount → text ≡ shifted_text register kind amount → text ≡ register_name register ++ further (drop 2 (shift_text kind amount))
shifted_register register kind amount text is same = same ∙ ap (λ shift. register_name register ++ shift) is.shift_is

pub no_comma : (named register : ℕ) (text tail : List ℕ) → named < 16 → text ≡ register_name named → text ≡ register_name register ++ further tail → ⊥
no_comma named register text tail below is same =
    parted 44 (register_name named) (register_name register) (32 ∷ tail) (register_without named below) (sym is ∙ same)

-- what stands behind a register that is shifted by another
pub by_register : (register kind amount : ℕ) (text : List ℕ) → text ≡ by_register_text register kind amount → text ≡ register_name register ++ further (shift_name kind ++ 32 ∷ register_name amount)
by_register register kind amount text same =
    same ∙ simp append_assoc

-- what stands behind the first separator is one text
pub one_tail : (separator : ℕ) (a b s t : List ℕ) → is_without separator a ≡ true → is_without separator b ≡ true → a ++ separator ∷ s ≡ b ++ separator ∷ t → s ≡ t
one_tail separator [] [] s t none other same = ap (drop 1) same
one_tail separator [] (y ∷ ys) s t none other same =
    let byte : separator ≡ y = ap (λ t. get_or t 0 0) same in
    absurd (same_byte separator (subst (λ k. not (k == separator) ≡ true) (sym byte) (and_parts (not (y == separator)) (is_without separator ys) other).0))
one_tail separator (x ∷ xs) [] s t none other same =
    let byte : x ≡ separator = ap (λ t. get_or t 0 0) same in
    absurd (same_byte separator (subst (λ k. not (k == separator) ≡ true) byte (and_parts (not (x == separator)) (is_without separator xs) none).0))
one_tail separator (x ∷ xs) (y ∷ ys) s t none other same =
    one_tail separator xs ys s t (and_parts (not (x == separator)) (is_without separator xs) none).1
    (and_parts (not (y == separator)) (is_without separator ys) other).1 (ap (drop 1) same)

-- where a shift by a number has its mark, one by a register has a letter
mark_by : (kind amount : ℕ) (b : Bool) → eqb amount 0 ≡ b → kind < 4 → get_or (shift_text kind amount) 6 0 < 97
mark_by zero amount true e below = rw e (omega arith)
mark_by (suc zero) amount true e below = rw e (omega arith)
mark_by (suc (suc zero)) amount true e below = rw e (omega arith)
mark_by (suc (suc (suc zero))) amount true e below = rw e (omega arith)
mark_by zero amount false e below = rw e (omega arith)
mark_by (suc zero) amount false e below = rw e (omega arith)
mark_by (suc (suc zero)) amount false e below = rw e (omega arith)
mark_by (suc (suc (suc zero))) amount false e below = rw e (omega arith)
mark_by (suc (suc (suc (suc n)))) amount b e below = absurd (omega arith)

letter : (kind : ℕ) (name : List ℕ) → kind < 4 → get_or (further (shift_name kind ++ 32 ∷ name)) 6 0 ≡ get_or name 0 0
letter zero name below = refl
letter (suc zero) name below = refl
letter (suc (suc zero)) name below = refl
letter (suc (suc (suc zero))) name below = refl
letter (suc (suc (suc (suc n)))) name below = absurd (omega arith)

pub not_both : (named first amount register other by : ℕ) (text : List ℕ) → named < 16 → first < 4 → register < 16 → other < 4 → by < 16 → text ≡ shifted_text named first amount → text ≡ by_register_text register other by → ⊥
not_both named first amount register other by text below kinds fits others bys shifted same =
    elim (shift_cases first amount kinds) [
      | inl none ↦
          no_comma named register text (shift_name other ++ 32 ∷ register_name by) below
          (plain_register named first amount text none.0 none.1 shifted) (by_register register other by text same)
      | inr is ↦
          let one = one_tail 44 (register_name named) (register_name register) (32 ∷ drop 2 (shift_text first amount)) (32 ∷ (shift_name other ++ 32 ∷ register_name by))
          (register_without named below) (register_without register fits)
          (sym (shifted_register named first amount text is shifted) ∙ by_register register other by text same) in
          let shift : shift_text first amount ≡ further (shift_name other ++ 32 ∷ register_name by) =
          is.shift_is ∙ ap (λ t. 44 ∷ t) one in
          let mark = mark_by first amount (eqb amount 0) refl kinds in
          let sixth : get_or (shift_text first amount) 6 0 ≡ get_or (register_name by) 0 0 =
          ap (λ t. get_or t 6 0) shift ∙ letter other (register_name by) others in
          let first_letter = register_letter by bys in
          omega arith
    ]

-- three parts of an answer, of which the last two were read together
pub triple : (a b c x y z : ℕ) → a ≡ x → ◌≡◌ {A = Option (ℕ × ℕ)} (Some (b, c)) (Some (y, z)) → ◌≡◌ {A = Option (ℕ × ℕ × ℕ)} (Some (a, b, c)) (Some (x, y, z))
triple a b c x y z first rest =
    let first_by : ℕ → Option (ℕ × ℕ × ℕ) = λ k. Some (k, b, c) in
    let rest_by : ℕ × ℕ → ℕ × ℕ × ℕ = λ p. (x, p.0, p.1) in
    ap first_by first ∙ ap (option_map rest_by) rest

-- one answer is one value
pub some_is : {x y : ℕ} → Some x ≡ Some y → x ≡ y
some_is same = cc
