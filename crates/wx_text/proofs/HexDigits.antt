-- Eight hexadecimal digits, and the word that they write.
use Rattle.std.proofs.Common.{◌≡◌, ℕ, ◌+◌, ◌*◌, ◌/◌, ◌%◌, ◌<◌, ◌^◌, Bool, true, false, cond, List, [], ◌∷◌, length, Some, None, ◌&&◌, refl, sym, ◌∙◌, ap, arith}
use Rattle.std.proofs.lemmas.Bool.{and_parts}
use Rattle.std.proofs.lemmas.Bool.Decides.{nat_tests}
use Rattle.std.specs.Char.{digit_value}
use Rattle.wx_text.specs.Hexadecimal.{hex_digit, hex_word}
use Rattle.wx_text.specs.Cursor.{rest, is_hex_digit, hex_at}

-- a byte that is a digit
pub record IsHex (c : ℕ) : Type 0 where
  pub small : digit_value c < 16
  pub back : hex_digit (digit_value c) ≡ c

is_hex : (c : ℕ) → is_hex_digit c ≡ true → IsHex c
is_hex c digit = record { small = grind (arith, nat_tests); back = grind (arith, nat_tests) }

-- a number below 16 as a digit
pub record HasDigit (d : ℕ) : Type 0 where
  pub digit : is_hex_digit (hex_digit d) ≡ true
  pub value : digit_value (hex_digit d) ≡ d

has_digit : (d : ℕ) → d < 16 → HasDigit d
has_digit d small = record { digit = grind (arith, nat_tests); value = grind (arith, nat_tests) }

-- what stands above a place of a word, place by place
pub record Places (w : ℕ) : Type 0 where
  pub at_28 : w / 2 ^ 28 ≡ w / 2 ^ 24 / 16
  pub at_24 : w / 2 ^ 24 ≡ w / 2 ^ 20 / 16
  pub at_20 : w / 2 ^ 20 ≡ w / 2 ^ 16 / 16
  pub at_16 : w / 2 ^ 16 ≡ w / 2 ^ 12 / 16
  pub at_12 : w / 2 ^ 12 ≡ w / 2 ^ 8 / 16
  pub at_8 : w / 2 ^ 8 ≡ w / 2 ^ 4 / 16
  pub at_4 : w / 2 ^ 4 ≡ w / 16

pub places : (w : ℕ) → Places w
places w = record { at_28 = omega arith; at_24 = omega arith; at_20 = omega arith; at_16 = omega arith; at_12 = omega arith; at_8 = omega arith; at_4 = omega arith }

-- eight digits by their values, the highest first
abbrev pub eight : ℕ → ℕ → ℕ → ℕ → ℕ → ℕ → ℕ → ℕ → ℕ
eight a b c d e f g h = (((((((0 * 16 + a) * 16 + b) * 16 + c) * 16 + d) * 16 + e) * 16 + f) * 16 + g) * 16 + h

pub eight_is : (w : ℕ) → w < 2 ^ 32 → eight (w / 2 ^ 28 % 16) (w / 2 ^ 24 % 16) (w / 2 ^ 20 % 16) (w / 2 ^ 16 % 16) (w / 2 ^ 12 % 16) (w / 2 ^ 8 % 16) (w / 2 ^ 4 % 16) (w % 16) ≡ w
eight_is w small =
    let p = places w in
    let s0 : 0 * 16 + w / 2 ^ 28 % 16 ≡ w / 2 ^ 28 = omega (arith, p.at_28) in
    let s1 : (w / 2 ^ 28) * 16 + w / 2 ^ 24 % 16 ≡ w / 2 ^ 24 = omega (arith, p) in
    let s2 : (w / 2 ^ 24) * 16 + w / 2 ^ 20 % 16 ≡ w / 2 ^ 20 = omega (arith, p) in
    let s3 : (w / 2 ^ 20) * 16 + w / 2 ^ 16 % 16 ≡ w / 2 ^ 16 = omega (arith, p) in
    let s4 : (w / 2 ^ 16) * 16 + w / 2 ^ 12 % 16 ≡ w / 2 ^ 12 = omega (arith, p) in
    let s5 : (w / 2 ^ 12) * 16 + w / 2 ^ 8 % 16 ≡ w / 2 ^ 8 = omega (arith, p) in
    let s6 : (w / 2 ^ 8) * 16 + w / 2 ^ 4 % 16 ≡ w / 2 ^ 4 = omega (arith, p) in
    omega (arith, s0, s1, s2, s3, s4, s5, s6)

both : (x y : Bool) → x ≡ true → y ≡ true → (x && y) ≡ true
both true true h k = refl
both true false h k = k
both false y h k = h

given : (b : Bool) (v : ℕ) → b ≡ true → cond b (Some v) None ≡ Some v
given true v h = refl
given false v h = absurd (cc)

given_back : (b : Bool) (v w : ℕ) → Some w ≡ cond b (Some v) None → (b ≡ true) × (w ≡ v)
given_back true v w h = (refl, cc)
given_back false v w h = absurd (cc)

-- eight digits at the front of a text
at_digits : (a b c d e f g h : ℕ) → is_hex_digit a ≡ true → is_hex_digit b ≡ true → is_hex_digit c ≡ true → is_hex_digit d ≡ true → is_hex_digit e ≡ true → is_hex_digit f ≡ true → is_hex_digit g ≡ true → is_hex_digit h ≡ true → hex_at (a ∷ b ∷ c ∷ d ∷ e ∷ f ∷ g ∷ h ∷ []) ≡ Some (eight (digit_value a) (digit_value b) (digit_value c) (digit_value d) (digit_value e) (digit_value f) (digit_value g) (digit_value h))
at_digits a b c d e f g h ha hb hc hd he hf hg hh =
    given (is_hex_digit a && (is_hex_digit b && (is_hex_digit c && (is_hex_digit d && (is_hex_digit e && (is_hex_digit f && (is_hex_digit g && (is_hex_digit h && true)))))))) (eight (digit_value a) (digit_value b) (digit_value c) (digit_value d) (digit_value e) (digit_value f) (digit_value g) (digit_value h)) (both (is_hex_digit a) _ ha (both (is_hex_digit b) _ hb (both (is_hex_digit c) _ hc (both (is_hex_digit d) _ hd (both (is_hex_digit e) _ he (both (is_hex_digit f) _ hf (both (is_hex_digit g) _ hg (both (is_hex_digit h) _ hh refl))))))))

-- a word's digits write it
pub word_back : (w : ℕ) → w < 2 ^ 32 → hex_at (hex_word w) ≡ Some w
unfolding hex_word
word_back w small =
    let a = has_digit (w / 2 ^ 28 % 16) (omega arith) in
    let b = has_digit (w / 2 ^ 24 % 16) (omega arith) in
    let c = has_digit (w / 2 ^ 20 % 16) (omega arith) in
    let d = has_digit (w / 2 ^ 16 % 16) (omega arith) in
    let e = has_digit (w / 2 ^ 12 % 16) (omega arith) in
    let f = has_digit (w / 2 ^ 8 % 16) (omega arith) in
    let g = has_digit (w / 2 ^ 4 % 16) (omega arith) in
    let h = has_digit (w % 16) (omega arith) in
    let whole = eight_is w small in
    let sum : eight (digit_value (hex_digit (w / 2 ^ 28 % 16))) (digit_value (hex_digit (w / 2 ^ 24 % 16))) (digit_value (hex_digit (w / 2 ^ 20 % 16))) (digit_value (hex_digit (w / 2 ^ 16 % 16))) (digit_value (hex_digit (w / 2 ^ 12 % 16))) (digit_value (hex_digit (w / 2 ^ 8 % 16))) (digit_value (hex_digit (w / 2 ^ 4 % 16))) (digit_value (hex_digit (w % 16))) ≡ w =
    omega (arith, a.value, b.value, c.value, d.value, e.value, f.value, g.value, h.value, whole) in
    at_digits (hex_digit (w / 2 ^ 28 % 16)) (hex_digit (w / 2 ^ 24 % 16)) (hex_digit (w / 2 ^ 20 % 16)) (hex_digit (w / 2 ^ 16 % 16)) (hex_digit (w / 2 ^ 12 % 16)) (hex_digit (w / 2 ^ 8 % 16)) (hex_digit (w / 2 ^ 4 % 16)) (hex_digit (w % 16)) a.digit b.digit c.digit d.digit e.digit f.digit g.digit h.digit ∙ ap Some sum

-- the digits of what eight digits write
digits_of_eight : (a b c d e f g h w : ℕ) → a < 16 → b < 16 → c < 16 → d < 16 → e < 16 → f < 16 → g < 16 → h < 16 → w ≡ eight a b c d e f g h → hex_word w ≡ hex_digit a ∷ hex_digit b ∷ hex_digit c ∷ hex_digit d ∷ hex_digit e ∷ hex_digit f ∷ hex_digit g ∷ hex_digit h ∷ []
unfolding hex_word
digits_of_eight a b c d e f g h w ha hb hc hd he hf hg hh is =
    let p = places w in
    let s6 : w / 2 ^ 4 ≡ ((((((0 * 16 + a) * 16 + b) * 16 + c) * 16 + d) * 16 + e) * 16 + f) * 16 + g = omega (arith, p.at_4, is) in
    let s5 : w / 2 ^ 8 ≡ (((((0 * 16 + a) * 16 + b) * 16 + c) * 16 + d) * 16 + e) * 16 + f = omega (arith, p.at_8, is, s6) in
    let s4 : w / 2 ^ 12 ≡ ((((0 * 16 + a) * 16 + b) * 16 + c) * 16 + d) * 16 + e = omega (arith, p.at_12, is, s5) in
    let s3 : w / 2 ^ 16 ≡ (((0 * 16 + a) * 16 + b) * 16 + c) * 16 + d = omega (arith, p.at_16, is, s4) in
    let s2 : w / 2 ^ 20 ≡ ((0 * 16 + a) * 16 + b) * 16 + c = omega (arith, p.at_20, is, s3) in
    let s1 : w / 2 ^ 24 ≡ (0 * 16 + a) * 16 + b = omega (arith, p.at_24, is, s2) in
    let s0 : w / 2 ^ 28 ≡ 0 * 16 + a = omega (arith, p.at_28, is, s1) in
    let da : w / 2 ^ 28 % 16 ≡ a = omega (arith, s0) in
    let db : w / 2 ^ 24 % 16 ≡ b = omega (arith, s1) in
    let dc : w / 2 ^ 20 % 16 ≡ c = omega (arith, s2) in
    let dd : w / 2 ^ 16 % 16 ≡ d = omega (arith, s3) in
    let de : w / 2 ^ 12 % 16 ≡ e = omega (arith, s4) in
    let df : w / 2 ^ 8 % 16 ≡ f = omega (arith, s5) in
    let dg : w / 2 ^ 4 % 16 ≡ g = omega (arith, s6) in
    let dh : w % 16 ≡ h = omega (arith, is) in
    rw (da, db, dc, dd, de, df, dg, dh) refl

-- a text of eight bytes that writes a word is its digits
pub word_is : (text : List ℕ) (w : ℕ) → length text ≡ 8 → Some w ≡ hex_at text → text ≡ hex_word w
word_is ([]) w size at = absurd (omega arith)
word_is (a ∷ []) w size at = absurd (omega arith)
word_is (a ∷ b ∷ []) w size at = absurd (omega arith)
word_is (a ∷ b ∷ c ∷ []) w size at = absurd (omega arith)
word_is (a ∷ b ∷ c ∷ d ∷ []) w size at = absurd (omega arith)
word_is (a ∷ b ∷ c ∷ d ∷ e ∷ []) w size at = absurd (omega arith)
word_is (a ∷ b ∷ c ∷ d ∷ e ∷ f ∷ []) w size at = absurd (omega arith)
word_is (a ∷ b ∷ c ∷ d ∷ e ∷ f ∷ g ∷ []) w size at = absurd (omega arith)
word_is (a ∷ b ∷ c ∷ d ∷ e ∷ f ∷ g ∷ h ∷ []) w size at =
    let whole = given_back (is_hex_digit a && (is_hex_digit b && (is_hex_digit c && (is_hex_digit d && (is_hex_digit e && (is_hex_digit f && (is_hex_digit g && (is_hex_digit h && true)))))))) (eight (digit_value a) (digit_value b) (digit_value c) (digit_value d) (digit_value e) (digit_value f) (digit_value g) (digit_value h)) w at in
    let pa = and_parts (is_hex_digit a) (is_hex_digit b && (is_hex_digit c && (is_hex_digit d && (is_hex_digit e && (is_hex_digit f && (is_hex_digit g && (is_hex_digit h && true))))))) whole.0 in
    let xa = is_hex a pa.0 in
    let pb = and_parts (is_hex_digit b) (is_hex_digit c && (is_hex_digit d && (is_hex_digit e && (is_hex_digit f && (is_hex_digit g && (is_hex_digit h && true)))))) pa.1 in
    let xb = is_hex b pb.0 in
    let pc = and_parts (is_hex_digit c) (is_hex_digit d && (is_hex_digit e && (is_hex_digit f && (is_hex_digit g && (is_hex_digit h && true))))) pb.1 in
    let xc = is_hex c pc.0 in
    let pd = and_parts (is_hex_digit d) (is_hex_digit e && (is_hex_digit f && (is_hex_digit g && (is_hex_digit h && true)))) pc.1 in
    let xd = is_hex d pd.0 in
    let pe = and_parts (is_hex_digit e) (is_hex_digit f && (is_hex_digit g && (is_hex_digit h && true))) pd.1 in
    let xe = is_hex e pe.0 in
    let pf = and_parts (is_hex_digit f) (is_hex_digit g && (is_hex_digit h && true)) pe.1 in
    let xf = is_hex f pf.0 in
    let pg = and_parts (is_hex_digit g) (is_hex_digit h && true) pf.1 in
    let xg = is_hex g pg.0 in
    let ph = and_parts (is_hex_digit h) true pg.1 in
    let xh = is_hex h ph.0 in
    sym (digits_of_eight (digit_value a) (digit_value b) (digit_value c) (digit_value d) (digit_value e) (digit_value f) (digit_value g) (digit_value h) w xa.small xb.small xc.small xd.small xe.small xf.small xg.small xh.small whole.1
    ∙ rw (xa.back, xb.back, xc.back, xd.back, xe.back, xf.back, xg.back, xh.back) refl)
word_is (a ∷ b ∷ c ∷ d ∷ e ∷ f ∷ g ∷ h ∷ i ∷ rest) w size at = absurd (omega arith)

pub eight_long : (w : ℕ) → length (hex_word w) ≡ 8
unfolding hex_word
eight_long w = refl
