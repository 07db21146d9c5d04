-- Texts of digits, and the spelling of a number.
use Rattle.std.proofs.Common.{◌≡◌, ℕ, ◌<◌, ◌^◌, Bool, true, false, cond, List, [], ◌∷◌, length, get_or, Option, Some, None, ◌&&◌, nat_lt, refl, sym, ◌∙◌, ap, subst, arith, inl, inr}
use Rattle.std.proofs.lemmas.Bool.{cases_lt, ltb-true}
use Rattle.std.proofs.lemmas.Bool.Decides.{nat_tests}
use Rattle.std.proofs.lemmas.List.Sums.{take_while-cons}
use Rattle.std.proofs.lemmas.Str.Parse.{tells_digits, numerals_by_value}
use Rattle.std.proofs.lemmas.Fmt.{decimal_is_IsNumeral, decimal-digits_value, first_decimal, length-decimal-le}
use Rattle.std.specs.Prelude.{IfSome, Result, Ok, Err}
use Rattle.std.specs.Result.{OkIff, result_ok}
use Rattle.std.specs.Option.{SomeIff}
use Rattle.std.specs.Char.{is_ascii_digit}
use Rattle.std.specs.Int.{IsInRange}
use Rattle.std.specs.Str.Parse.{AllDigits, IsNumeral, digits_value}
use Rattle.std.specs.Fmt.{decimal}
use Rattle.wx_text.specs.Cursor.{leading_digits, number_at}

is_digit : (c : ℕ) → IsInRange 48 57 c → is_ascii_digit c ≡ true
is_digit c inside = grind (arith, nat_tests)

in_range : (c : ℕ) → is_ascii_digit c ≡ true → IsInRange 48 57 c
in_range c digit = grind (arith, nat_tests)

-- digits alone are all leading ones
pub all_lead : (text : List ℕ) → AllDigits 10 text → leading_digits text ≡ text
all_lead [] digits = refl
all_lead (c ∷ cs) digits =
    let parts = tells_digits.parts c cs digits in
    take_while-cons is_ascii_digit c cs
    ∙ ap (λ b. cond b (c ∷ leading_digits cs) []) (is_digit c parts.0)
    ∙ ap (λ rest. c ∷ rest) (all_lead cs parts.1)

pub record AreDigits (text : List ℕ) : Type 0 where
  pub digits : AllDigits 10 text
  pub lead : leading_digits text ≡ text

-- one byte before such a text
leads_by : (c : ℕ) (cs : List ℕ) (b : Bool) → is_ascii_digit c ≡ b → length (leading_digits (c ∷ cs)) ≡ length (c ∷ cs) → (length (leading_digits cs) ≡ length cs → AreDigits cs) → AreDigits (c ∷ cs)
leads_by c cs true e size rest_are =
    let step : leading_digits (c ∷ cs) ≡ c ∷ leading_digits cs =
    take_while-cons is_ascii_digit c cs ∙ ap (λ b. cond b (c ∷ leading_digits cs) []) e in
    let longer = ap length step in
    let fewer : length (leading_digits cs) ≡ length cs = omega arith in
    let rest = rest_are fewer in
    record {
      digits = tells_digits.more c cs (in_range c e) rest.digits;
      lead = step ∙ ap (λ tail. c ∷ tail) rest.lead;
    }
leads_by c cs false e size rest_are =
    let step : leading_digits (c ∷ cs) ≡ [] =
    take_while-cons is_ascii_digit c cs ∙ ap (λ b. cond b (c ∷ leading_digits cs) []) e in
    let none = ap length step in
    absurd (omega arith)

-- as many leading digits as bytes
pub leading_all : (text : List ℕ) → length (leading_digits text) ≡ length text → AreDigits text
leading_all [] size = record { digits = tt; lead = refl }
leading_all (c ∷ cs) size = leads_by c cs (is_ascii_digit c) refl size (leading_all cs)

-- what stands at the front of digits alone
pub number_at_digits : (text : List ℕ) → IsNumeral 10 text → digits_value 10 text < 2 ^ 64 → number_at text ≡ Some (digits_value 10 text)
number_at_digits text numeral small = rw (all_lead text numeral.1) (grind (arith, nat_tests))

-- no number but 0 begins with a zero
no_leading_zero : (n : ℕ) → n < 2 ^ 64 → 1 < length (decimal n) → get_or (decimal n) 0 0 ≡ 48 → ⊥
no_leading_zero n small many zero_first =
    elim (cases_lt 0 n) [
      | inl some ↦ let first = first_decimal n some (omega arith) in omega arith
      | inr none ↦ let short = length-decimal-le 1 n (omega arith) (omega arith) (omega arith) in omega arith
    ]

picked : (a b : Bool) (s v : ℕ) → cond (a && b) (Some s) None ≡ Some v → (a ≡ true) × (b ≡ true) × (s ≡ v)
picked true true s v e = (refl, refl, cc)
picked true false s v e = absurd (cc)
picked false b s v e = absurd (cc)

-- what the number at the front says of digits alone
pub record IsValue (text : List ℕ) (value : ℕ) : Type 0 where
  pub some : 0 < length text
  pub digits : AllDigits 10 text
  pub small : digits_value 10 text < 2 ^ 64
  pub same : value ≡ digits_value 10 text

pub value_at : (text : List ℕ) (value : ℕ) → length (leading_digits text) ≡ length text → Some value ≡ number_at text → IsValue text value
value_at text value size is =
    let are = leading_all text size in
    let p = picked (nat_lt 0 (length (leading_digits text))) (nat_lt (digits_value 10 (leading_digits text)) (2 ^ 64)) (digits_value 10 (leading_digits text)) value (sym is) in
    let lead = are.lead in
    let many : 0 < length (leading_digits text) = ltb-true _ _ p.0 in
    let small : digits_value 10 (leading_digits text) < 2 ^ 64 = ltb-true _ _ p.1 in
    record {
      some = subst (λ t. 0 < length t) lead many;
      digits = are.digits;
      small = subst (λ t. digits_value 10 t < 2 ^ 64) lead small;
      same = sym (ap (digits_value 10) (sym lead) ∙ p.2);
    }

-- a number's spelling has no more than its value, and no leading zero
pub record IsSpelled (n : ℕ) (text : List ℕ) : Type 0 where
  pub numeral : IsNumeral 10 text
  pub value : digits_value 10 text ≡ n
  pub lead : 1 < length text → get_or text 0 0 ≡ 48 → ⊥

pub spelled : (n : ℕ) (text : List ℕ) → n < 2 ^ 64 → text ≡ decimal n → IsSpelled n text
spelled n text small same =
    let numeral = decimal_is_IsNumeral n (omega arith) in
    record {
      numeral = subst (IsNumeral 10) (sym same) numeral.0;
      value = ap (digits_value 10) same ∙ numeral.1;
      lead = λ many zero_first. subst (λ t. 1 < length t → get_or t 0 0 ≡ 48 → ⊥) (sym same) (no_leading_zero n small) many zero_first;
    }

-- digits without a leading zero spell their value
pub spells_value : (text : List ℕ) → IsNumeral 10 text → digits_value 10 text < 2 ^ 64 → (1 < length text → get_or text 0 0 ≡ 48 → ⊥) → text ≡ decimal (digits_value 10 text)
spells_value text numeral small lead =
    sym (decimal-digits_value (numerals_by_value _ tells_digits) text numeral.1 numeral.0
    (λ zero_first. elim (cases_lt 1 (length text)) [ inl many ↦ absurd (lead many zero_first) | inr one ↦ let some = numeral.0 in omega arith ]) small)

-- a number that fits, or none
pub fitting_sound : {E : Type 0} (r : Result ℕ E) (v : ℕ) (P : ℕ → Type 0) (limit : ℕ) → OkIff r (v < limit) v → P v → IfSome (result_ok r) P
fitting_sound (Ok x) v P limit fits holds = subst P (sym fits.1) holds
fitting_sound (Err e) v P limit fits holds = tt

pub fitting_complete : {E : Type 0} (r : Result ℕ E) (v limit : ℕ) → OkIff r (v < limit) v → v < limit → result_ok r ≡ Some v
fitting_complete (Ok x) v limit fits below = ap Some fits.1
fitting_complete (Err e) v limit fits below = absurd (fits below)

-- what digits read say of the text, where no zero stands in front
pub digits_sound : (text : List ℕ) (read : Option ℕ) → (1 < length text → get_or text 0 0 ≡ 48 → ⊥) → SomeIff read (IsNumeral 10 text × (digits_value 10 text < 2 ^ 64)) (digits_value 10 text) → IfSome read (λ n. text ≡ decimal n)
digits_sound text (Some n) lead is = spells_value text is.0.0 is.0.1 lead ∙ ap decimal (sym is.1)
digits_sound text None lead is = tt

pub digits_complete : (text : List ℕ) (n : ℕ) (read : Option ℕ) → n < 2 ^ 64 → text ≡ decimal n → SomeIff read (IsNumeral 10 text × (digits_value 10 text < 2 ^ 64)) (digits_value 10 text) → read ≡ Some n
digits_complete text n (Some m) small same is = ap Some (is.1 ∙ (spelled n text small same).value)
digits_complete text n None small same is =
    let of = spelled n text small same in
    let value = of.value in
    absurd (is (of.numeral, omega arith))
