-- A number in its shortest spelling is read again, whatever follows that is no digit.
use Rattle.std.proofs.Common.{◌≡◌, ℕ, ◌+◌, ◌%◌, ◌<◌, ◌^◌, Bool, true, List, [], ◌∷◌, ◌++◌, length, take, drop, get_or, Option, Some, None, is_some, refl, sym, ap, ◌∙◌, arith, if◌then◌else◌, eqb, nat_eq, nat_lt, length-append, append_assoc, lit<}
use Rattle.std.proofs.lemmas.Bool.Decides.{nat_tests}
use Rattle.std.proofs.lemmas.Fmt.{decimal_is_IsNumeral, decimal_by_steps, decimal_digit}
use Rattle.std.proofs.lemmas.List.Folds.{length-prefix_len}
use Rattle.std.proofs.lemmas.Str.Parse.{digit_from_value}
use Rattle.std.specs.Char.{is_ascii_digit, digit_value}
use Rattle.std.specs.Fmt.{decimal}
use Rattle.std.specs.List.{prefix_len, starts_with}
use Rattle.std.specs.Str.Parse.{digits_value, AllDigits}
use Rattle.wx_text.specs.Cursor.{Reading, rest, stepped, leading_digits, number_at}
use Rattle.xdd_ops.proofs.ReadLemmas.{drop_twice}

digit_true : (x : ℕ) → digit_value x < 10 → is_ascii_digit x ≡ true
digit_true x h = let d = digit_from_value x h in grind (arith, nat_tests)

-- digits, and a text that begins with none
prefix_digits : (ds tail : List ℕ) → AllDigits 10 ds → prefix_len is_ascii_digit tail ≡ 0 → prefix_len is_ascii_digit (ds ++ tail) ≡ length ds
prefix_digits [] tail all none = none
prefix_digits (x ∷ ds) tail all none =
    let d : is_ascii_digit x ≡ true = digit_true x all.0 in
    let m : prefix_len is_ascii_digit (ds ++ tail) ≡ length ds = prefix_digits ds tail all.1 none in
    rw d (omega (arith, m))

take_front : (xs ys : List ℕ) → take (length xs) (xs ++ ys) ≡ xs
take_front [] ys = refl
take_front (x ∷ xs) ys = ap (λ l. x ∷ l) (take_front xs ys)

pub digits_again : (n : ℕ) (tail : List ℕ) → n < 2 ^ 64 → prefix_len is_ascii_digit tail ≡ 0 → leading_digits (decimal n ++ tail) ≡ decimal n
digits_again n tail small none = let p = prefix_digits (decimal n) tail (decimal_is_IsNumeral n small).0.1 none in rw p (take_front (decimal n) tail)

pub number_again : (n : ℕ) (tail : List ℕ) → n < 2 ^ 64 → prefix_len is_ascii_digit tail ≡ 0 → number_at (decimal n ++ tail) ≡ Some n
number_again n tail small none =
    let d = digits_again n tail small none in
    let k = decimal_is_IsNumeral n small in
    let v : digits_value 10 (decimal n) ≡ n = k.1 in
    let some : nat_lt 0 (length (decimal n)) ≡ true = (let l : 0 < length (decimal n) = k.0.0 in grind (arith, nat_tests)) in
    let fits : nat_lt n (2 ^ 64) ≡ true = grind (arith, nat_tests) in
    rw (d, v, some, fits) refl

first_of : (xs ys : List ℕ) → 0 < length xs → get_or (xs ++ ys) 0 0 ≡ get_or xs 0 0
first_of [] ys h = absurd (omega arith)
first_of (x ∷ xs) ys h = refl

-- no number but 0 begins with `0`
record NoZero (n : ℕ) (ds : List ℕ) : Type 0 where
  some : 0 < length ds
  first : get_or ds 0 0 ≡ 48 → n ≡ 0

no_zero : (n : ℕ) → n < 2 ^ 64 → NoZero n (decimal n)
no_zero n small = decimal_by_steps NoZero
    (λ m l. record { some = omega arith; first = λ e. omega (arith, e) })
    (λ m ds l h. record {
      some = omega (arith, length-append ds ((48 + m % 10) ∷ []), h.some);
      first = λ e. let z = h.first (sym (first_of ds ((48 + m % 10) ∷ []) h.some) ∙ e) in omega (arith, z);
    })
    n small

pub zero_first : (n : ℕ) → n < 2 ^ 64 → get_or (decimal n) 0 0 ≡ 48 → n ≡ 0
zero_first n small e = (no_zero n small).first e

pub drop_front : (xs ys : List ℕ) → drop (length xs) (xs ++ ys) ≡ ys
drop_front [] ys = refl
drop_front (x ∷ xs) ys = drop_front xs ys

pub no_digits : (tail : List ℕ) → leading_digits tail ≡ [] → prefix_len is_ascii_digit tail ≡ 0
no_digits tail none = sym (length-prefix_len is_ascii_digit tail) ∙ ap length none

-- a number read as `0`
pub zero_again : (x y tail : List ℕ) (n : ℕ) → x ≡ (48 ∷ []) ++ y → n < 2 ^ 64 → x ≡ decimal n ++ tail → (Some 0 ≡ Some n) × (y ≡ tail)
zero_again x y tail n e small e' =
    let head : get_or (decimal n ++ tail) 0 0 ≡ 48 = ap (λ l. get_or l 0 0) (sym e' ∙ e) in
    let z : n ≡ 0 = zero_first n small (sym (first_of (decimal n) tail (decimal_is_IsNumeral n small).0.0) ∙ head) in
    let s : decimal n ≡ 48 ∷ [] = ap decimal z ∙ decimal_digit 0 (lit< tt) in
    let t : x ≡ (48 ∷ []) ++ tail = e' ∙ ap (λ l. l ++ tail) s in
    (ap Some (sym z), ap (drop 1) (sym e ∙ t))

taken_again : (a b : Reading) (r : Option ℕ) (n : ℕ) (tail : List ℕ) → r ≡ number_at (rest a) → b ≡ (if is_some r then stepped a (length (leading_digits (rest a))) else a)
    → n < 2 ^ 64 → leading_digits tail ≡ [] → rest a ≡ decimal n ++ tail → (r ≡ Some n) × (rest b ≡ tail)
taken_again a b r n tail value after small none e =
    let z = no_digits tail none in
    let v : r ≡ Some n = value ∙ (ap number_at e ∙ number_again n tail small z) in
    let d : leading_digits (rest a) ≡ decimal n = ap leading_digits e ∙ digits_again n tail small z in
    let s : b ≡ stepped a (length (decimal n)) = rw (v, d) at after in
    (v, ap rest s ∙ (drop_twice a.place (length (decimal n)) a.bytes ∙ (ap (drop (length (decimal n))) e ∙ drop_front (decimal n) tail)))

pub number_same : (a o b : Reading) (r : Option ℕ) (n : ℕ) (tail : List ℕ) → o ≡ a → r ≡ number_at (rest o) → b ≡ (if is_some r then stepped o (length (leading_digits (rest o))) else o)
    → n < 2 ^ 64 → leading_digits tail ≡ [] → rest a ≡ decimal n ++ tail → (r ≡ Some n) × (rest b ≡ tail)
number_same a o b r n tail same value after small none e = taken_again a b r n tail (rw same at value) (rw same at after) small none e

-- a text that stands at the front is passed
starts_with_front : (t tail : List ℕ) → starts_with nat_eq (t ++ tail) t ≡ true
starts_with_front [] tail = refl
starts_with_front (x ∷ t) tail = let e : eqb x x ≡ true = grind (arith, nat_tests) in rw e (starts_with_front t tail)

pub expected_again : (a b : Reading) (r : Bool) (t tail : List ℕ) → r ≡ starts_with nat_eq (rest a) t → b ≡ (if r then stepped a (length t) else a) → rest a ≡ t ++ tail → (r ≡ true) × (rest b ≡ tail)
expected_again a b r t tail found after e =
    let v : r ≡ true = found ∙ (ap (λ l. starts_with nat_eq l t) e ∙ starts_with_front t tail) in
    let s : b ≡ stepped a (length t) = rw v at after in
    (v, ap rest s ∙ (drop_twice a.place (length t) a.bytes ∙ (ap (drop (length t)) e ∙ drop_front t tail)))

-- a number and a line's end behind a word
pub number_behind : (a b : Reading) (r : Bool) (t tail : List ℕ) (n : ℕ) → r ≡ starts_with nat_eq (rest a) t → b ≡ (if r then stepped a (length t) else a) → rest a ≡ t ++ (decimal n ++ (10 ∷ []) ++ tail)
    → rest b ≡ decimal n ++ 10 ∷ tail
number_behind a b r t tail n found after e = (expected_again a b r t (decimal n ++ (10 ∷ []) ++ tail) found after e).1 ∙ append_assoc (decimal n) (10 ∷ []) tail

pub some_same : (m n : ℕ) → Some m ≡ Some n → m ≡ n
some_same m n e = cc

pub none_some : (P : Type 0) (n : ℕ) → None ≡ Some n → P
none_some P n e = cc

-- three numbers and what ends each
pub regroup : (a b c tail : List ℕ) (x y z : ℕ) → (((((a ++ x ∷ []) ++ b) ++ y ∷ []) ++ c) ++ z ∷ []) ++ tail ≡ a ++ x ∷ (b ++ y ∷ (c ++ z ∷ tail))
regroup a b c tail x y z =
    append_assoc ((((a ++ x ∷ []) ++ b) ++ y ∷ []) ++ c) (z ∷ []) tail
    ∙ (append_assoc (((a ++ x ∷ []) ++ b) ++ y ∷ []) c (z ∷ tail)
    ∙ (append_assoc ((a ++ x ∷ []) ++ b) (y ∷ []) (c ++ z ∷ tail)
    ∙ (append_assoc (a ++ x ∷ []) b (y ∷ (c ++ z ∷ tail)) ∙ append_assoc a (x ∷ []) (b ++ y ∷ (c ++ z ∷ tail)))))
