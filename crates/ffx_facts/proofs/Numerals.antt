-- Numbers that are read digit by digit.
use Rattle.std.proofs.Common.{◌≡◌, ℕ, suc, ◌+◌, ◌*◌, ◌^◌, ◌<◌, ◌≤◌, Bool, true, false, cond, ◌&&◌, List, [], ◌∷◌, length, get_or, drop, Some, None, refl, sym, ap, ◌∙◌, arith}
use Rattle.std.specs.Prelude.{Option, nat_lt}
use Rattle.std.specs.List.{list_all}
use Rattle.std.specs.Char.{digit_value, is_digit}
use Rattle.std.specs.Str.Parse.{digits_value_after}
use Rattle.std.proofs.Math.Seq.{drop-cons}
use Rattle.std.proofs.lemmas.Bool.Decides.{Decides-ltb}
use Rattle.std.proofs.lemmas.Bool.{false_from_ne_true}
use Rattle.ffx_facts.specs.Values.{numeral}

-- the number below m that digits write behind those of n
abbrev pub numeral_from : ℕ → ℕ → ℕ → List ℕ → Option ℕ
numeral_from m radix n digits =
    cond (list_all (λ c. is_digit c radix) digits && nat_lt (digits_value_after radix n digits) m) (Some (digits_value_after radix n digits)) None

ltb_yes : (a b : ℕ) → a < b → nat_lt a b ≡ true
ltb_yes a b h = (Decides-ltb a b).1 h

ltb_no : (a b : ℕ) → b ≤ a → nat_lt a b ≡ false
ltb_no a b h = false_from_ne_true (nat_lt a b) (λ e. let k = (Decides-ltb a b).0 e in omega (arith, k))

scaled : (n radix : ℕ) → 0 < radix → n ≤ n * radix
scaled n radix h = grind arith

grows : (radix n : ℕ) (digits : List ℕ) → 0 < radix → n ≤ digits_value_after radix n digits
grows radix n [] h = omega arith
grows radix n (c ∷ digits) h =
    let s = scaled n radix h in
    let w = grows radix (n * radix + digit_value c) digits h in
    omega (arith, s, w)

-- nothing behind the digits
pub numeral_end : (m radix n : ℕ) → n < m → numeral_from m radix n [] ≡ Some n
numeral_end m radix n h = rw (ltb_yes n m h) refl

-- a byte that is no digit
pub numeral_other : (m radix n c : ℕ) (digits : List ℕ) → (digit_value c < radix → ⊥) → numeral_from m radix n (c ∷ digits) ≡ None
numeral_other m radix n c digits h =
    let no : nat_lt (digit_value c) radix ≡ false = false_from_ne_true _ (λ e. h ((Decides-ltb (digit_value c) radix).0 e)) in
    rw no refl

-- a number that is too large already
pub numeral_large : (m radix n c : ℕ) (digits : List ℕ) → 0 < radix → m ≤ n * radix + digit_value c → numeral_from m radix n (c ∷ digits) ≡ None
numeral_large m radix n c digits some h =
    let w = grows radix (n * radix + digit_value c) digits some in
    let no : nat_lt (digits_value_after radix (n * radix + digit_value c) digits) m ≡ false = ltb_no _ m (omega (arith, w)) in
    rw no (of (list_all (λ x. is_digit x radix) (c ∷ digits)) _)
  where
    of : (b : Bool) (x : Option ℕ) → cond (b && false) x None ≡ None
    of true x = refl
    of false x = refl

-- a digit
pub numeral_more : (m radix n c : ℕ) (digits : List ℕ) → digit_value c < radix → numeral_from m radix n (c ∷ digits) ≡ numeral_from m radix (n * radix + digit_value c) digits
numeral_more m radix n c digits h = rw (ltb_yes (digit_value c) radix h) refl

-- digits, of which there are some
pub numeral_begins : (radix : ℕ) (digits : List ℕ) → 0 < length digits → numeral radix digits ≡ numeral_from (2 ^ 32) radix 0 digits
numeral_begins radix digits h = rw (ltb_yes 0 (length digits) h) refl

-- the next digit
pub next_digit : (digits : List ℕ) (i : ℕ) → i < length digits → drop i digits ≡ get_or digits i 0 ∷ drop (i + 1) digits
next_digit digits i h = let n : suc i ≡ i + 1 = omega arith in drop-cons digits i 0 h ∙ ap (λ (k : ℕ). get_or digits i 0 ∷ drop k digits) n

-- where the next digit makes the number too large, there is none
pub too_large : (m radix n i : ℕ) (digits : List ℕ) (all : Option ℕ) → i < length digits → 0 < radix → m ≤ n * radix + digit_value (get_or digits i 0) → numeral_from m radix n (drop i digits) ≡ all → None ≡ all
too_large m radix n i digits all inside some h e =
    sym (numeral_large m radix n (get_or digits i 0) (drop (i + 1) digits) some h) ∙ ap (numeral_from m radix n) (sym (next_digit digits i inside)) ∙ e
