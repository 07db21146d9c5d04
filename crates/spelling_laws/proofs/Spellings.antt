-- Numbers are told by their spellings.
use Rattle.std.proofs.Common.{◌≡◌, ℕ, ◌+◌, ◌/◌, ◌%◌, ◌^◌, ◌<◌, Bool, true, false, cond, ltb, List, ◌∷◌, refl, sym, ap, ◌∙◌, arith}
use Rattle.std.specs.Str.Parse.{digits_value}
use Rattle.std.proofs.lemmas.Bool.Decides.{nat_tests}
use Rattle.std.proofs.lemmas.Fmt.{decimal_is_IsNumeral}
use Rattle.wx_text.specs.Hexadecimal.{hex_byte, hex_digit, hex_word}
use Rattle.spelling_laws.specs.Laws.{ByteIsOne, DecimalIsOne, WordIsOne}

pub one_decimal : DecimalIsOne
one_decimal m n p q e =
    let a = decimal_is_IsNumeral m p in
    let b = decimal_is_IsNumeral n q in
    sym a.1 ∙ ap (digits_value 10) e ∙ b.1

-- ---- hexadecimal digits
below : (m n : ℕ) → ltb m n ≡ true → m < n
below m n t = grind (arith, nat_tests)

one_digit : (a b : ℕ) → a < 16 → b < 16 → hex_digit a ≡ hex_digit b → a ≡ b
one_digit a b p q e = by (ltb a 10) (ltb b 10) refl refl e
  where
    by : (s t : Bool) → ltb a 10 ≡ s → ltb b 10 ≡ t → cond s (48 + a) (87 + a) ≡ cond t (48 + b) (87 + b) → a ≡ b
    by true true u v h = omega (arith, h)
    by false false u v h = omega (arith, h)
    by true false u v h = let l = below a 10 u in omega (arith, h, l, q)
    by false true u v h = let l = below b 10 v in omega (arith, h, l, p)

low : (x : ℕ) → x % 16 < 16
low x = omega arith

head_same : {x y : ℕ} {xs ys : List ℕ} → x ∷ xs ≡ y ∷ ys → x ≡ y
head_same e = cc

tail_same : {x y : ℕ} {xs ys : List ℕ} → x ∷ xs ≡ y ∷ ys → xs ≡ ys
tail_same e = cc

-- numbers are the same where the digits above the last are, and the last one
joined : (x y a b : ℕ) → x / 16 ≡ a → y / 16 ≡ b → a ≡ b → x % 16 ≡ y % 16 → x ≡ y
joined x y a b p q h e = omega (arith, p, q, h, e)

pub one_byte : ByteIsOne
unfolding hex_byte
one_byte b c p q e =
    joined b c (b / 16) (c / 16) refl refl (one_digit (b / 16) (c / 16) (omega (arith, p)) (omega (arith, q)) (head_same e))
    (one_digit (b % 16) (c % 16) (low b) (low c) (head_same (tail_same e)))

pub one_word : WordIsOne
unfolding hex_word
one_word v w p q e0 =
    let e1 = tail_same e0 in
    let e2 = tail_same e1 in
    let e3 = tail_same e2 in
    let e4 = tail_same e3 in
    let e5 = tail_same e4 in
    let e6 = tail_same e5 in
    let e7 = tail_same e6 in
    let d0 = one_digit (v / 2 ^ 28 % 16) (w / 2 ^ 28 % 16) (low (v / 2 ^ 28)) (low (w / 2 ^ 28)) (head_same e0) in
    let h0 : v / 2 ^ 28 ≡ w / 2 ^ 28 = omega (arith, p, q, d0) in
    let h1 : v / 2 ^ 24 ≡ w / 2 ^ 24 = joined (v / 2 ^ 24) (w / 2 ^ 24) (v / 2 ^ 28) (w / 2 ^ 28) (omega arith) (omega arith) h0 (one_digit (v / 2 ^ 24 % 16) (w / 2 ^ 24 % 16) (low (v / 2 ^ 24)) (low (w / 2 ^ 24)) (head_same e1)) in
    let h2 : v / 2 ^ 20 ≡ w / 2 ^ 20 = joined (v / 2 ^ 20) (w / 2 ^ 20) (v / 2 ^ 24) (w / 2 ^ 24) (omega arith) (omega arith) h1 (one_digit (v / 2 ^ 20 % 16) (w / 2 ^ 20 % 16) (low (v / 2 ^ 20)) (low (w / 2 ^ 20)) (head_same e2)) in
    let h3 : v / 2 ^ 16 ≡ w / 2 ^ 16 = joined (v / 2 ^ 16) (w / 2 ^ 16) (v / 2 ^ 20) (w / 2 ^ 20) (omega arith) (omega arith) h2 (one_digit (v / 2 ^ 16 % 16) (w / 2 ^ 16 % 16) (low (v / 2 ^ 16)) (low (w / 2 ^ 16)) (head_same e3)) in
    let h4 : v / 2 ^ 12 ≡ w / 2 ^ 12 = joined (v / 2 ^ 12) (w / 2 ^ 12) (v / 2 ^ 16) (w / 2 ^ 16) (omega arith) (omega arith) h3 (one_digit (v / 2 ^ 12 % 16) (w / 2 ^ 12 % 16) (low (v / 2 ^ 12)) (low (w / 2 ^ 12)) (head_same e4)) in
    let h5 : v / 2 ^ 8 ≡ w / 2 ^ 8 = joined (v / 2 ^ 8) (w / 2 ^ 8) (v / 2 ^ 12) (w / 2 ^ 12) (omega arith) (omega arith) h4 (one_digit (v / 2 ^ 8 % 16) (w / 2 ^ 8 % 16) (low (v / 2 ^ 8)) (low (w / 2 ^ 8)) (head_same e5)) in
    let h6 : v / 2 ^ 4 ≡ w / 2 ^ 4 = joined (v / 2 ^ 4) (w / 2 ^ 4) (v / 2 ^ 8) (w / 2 ^ 8) (omega arith) (omega arith) h5 (one_digit (v / 2 ^ 4 % 16) (w / 2 ^ 4 % 16) (low (v / 2 ^ 4)) (low (w / 2 ^ 4)) (head_same e6)) in
    joined v w (v / 2 ^ 4) (w / 2 ^ 4) refl refl h6 (one_digit (v % 16) (w % 16) (low v) (low w) (head_same e7))
