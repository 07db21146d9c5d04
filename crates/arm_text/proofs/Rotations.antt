-- Rotating a word right and then left by as much gives it back, and so does the other order.
use Rattle.std.proofs.Common.{◌≡◌, ℕ, zero, suc, ◌+◌, ◌-◌, ◌*◌, ◌/◌, ◌%◌, ◌^◌, ◌<◌, sym, ◌∙◌, ap, arith, inl, inr}
use Rattle.std.proofs.Math.Nat.{div-lt_iff_lt-mul, mul-mod_left, mod-lt, mul_comm}
use Rattle.std.proofs.lemmas.Bool.{cases_lt}
use Rattle.std.proofs.lemmas.Nat.{pow-add, mod-pow-add, div-mul-add, mod-mul-add, mul-add-lt, or_comm, pow_pos, div-add-mod'}
use Rattle.std.proofs.lemmas.Bool.{false≢true, lt-ltb}
use Rattle.std.specs.Int.{w32, rotate_left, rotate_right}
use Rattle.std.specs.Int.Bits.{bit_or, or_self}
use Rattle.std.specs.List.{list_any, range_with_len}
use Rattle.std.specs.Prelude.{true, false, not}
use lib.Bits.{or_shifted}
use Rattle.arm_text.specs.Text.{rotated, has_rotation, is_least_rotation}
use Rattle.arm_text.proofs.Ranges.{any_found}

-- the places above and below some bit of a word
whole : (c d : ℕ) → d + c ≡ 32 → 2 ^ d * 2 ^ c ≡ 2 ^ 32
whole c d sum = sym (pow-add 2 d c) ∙ ap (λ k. 2 ^ k) sum

shifted : (v c d : ℕ) → d + c ≡ 32 → (v * 2 ^ c) % 2 ^ 32 ≡ (v % 2 ^ d) * 2 ^ c
shifted v c d sum =
    let back : v * 2 ^ c / 2 ^ c ≡ v = ap (λ x. x / 2 ^ c) (omega arith) ∙ div-mul-add v (2 ^ c) 0 (pow_pos c) in
    let none : v * 2 ^ c % 2 ^ c ≡ 0 = mul-mod_left v (2 ^ c) in
    ap (λ k. (v * 2 ^ c) % 2 ^ k) (sym sum) ∙ mod-pow-add (v * 2 ^ c) d c ∙ rw (back, none) (omega arith)

high : (v c d : ℕ) → v < 2 ^ 32 → d + c ≡ 32 → v / 2 ^ d < 2 ^ c
high v c d small sum =
    let all = whole c d sum in
    (div-lt_iff_lt-mul (pow_pos d)).1 (omega arith)

right_is : (v c d : ℕ) → v < 2 ^ 32 → d + c ≡ 32 → 0 < d → 0 < c → rotate_right w32 v d ≡ (v % 2 ^ d) * 2 ^ c + v / 2 ^ d
right_is v c d small sum more below =
    let e : d % 32 ≡ d = omega arith in
    let f : (32 - d) % 32 ≡ c = omega arith in
    rw (e, f) (ap (bit_or (v / 2 ^ d)) (shifted v c d sum) ∙ or_comm (v / 2 ^ d) ((v % 2 ^ d) * 2 ^ c)
    ∙ or_shifted (v % 2 ^ d) c (v / 2 ^ d) (high v c d small sum))

left_is : (v c d : ℕ) → v < 2 ^ 32 → d + c ≡ 32 → 0 < d → 0 < c → rotate_left w32 v d ≡ (v % 2 ^ c) * 2 ^ d + v / 2 ^ c
left_is v c d small sum more below =
    let e : d % 32 ≡ d = omega arith in
    let f : (32 - d) % 32 ≡ c = omega arith in
    let other : c + d ≡ 32 = omega arith in
    rw (e, f) (ap (λ x. bit_or x (v / 2 ^ c)) (shifted v d c other) ∙ or_shifted (v % 2 ^ c) d (v / 2 ^ c) (high v d c small other))

by_zero_left : (v : ℕ) → v < 2 ^ 32 → rotate_left w32 v 0 ≡ v
by_zero_left v small = let e : v * 1 % 2 ^ 32 ≡ v = omega arith in let f : v / 1 ≡ v = omega arith in rw (e, f) (or_self v)

by_zero_right : (v : ℕ) → v < 2 ^ 32 → rotate_right w32 v 0 ≡ v
by_zero_right v small = let e : v * 1 % 2 ^ 32 ≡ v = omega arith in let f : v / 1 ≡ v = omega arith in rw (f, e) (or_self v)

-- two parts of a word in the other order
swapped_fits : (v c d : ℕ) → v < 2 ^ 32 → d + c ≡ 32 → (v % 2 ^ d) * 2 ^ c + v / 2 ^ d < 2 ^ 32
swapped_fits v c d small sum =
    let all = whole c d sum in
    let swap : 2 ^ c * 2 ^ d ≡ 2 ^ d * 2 ^ c = mul_comm (2 ^ c) (2 ^ d) in
    let fits = mul-add-lt (v % 2 ^ d) (2 ^ c) (v / 2 ^ d) (2 ^ d) (mod-lt v (pow_pos d)) (high v c d small sum) in
    omega arith

pub left_of_right : (v d : ℕ) → v < 2 ^ 32 → d < 32 → rotate_left w32 (rotate_right w32 v d) d ≡ v
left_of_right v zero small below = ap (λ x. rotate_left w32 x 0) (by_zero_right v small) ∙ by_zero_left v small
left_of_right v (suc k) small below =
    let d = suc k in
    let c = 32 - d in
    let sum : d + c ≡ 32 = omega arith in
    let more : 0 < d = omega arith in
    let rest : 0 < c = omega arith in
    ap (λ x. rotate_left w32 x d) (right_is v c d small sum more rest)
    ∙ left_is ((v % 2 ^ d) * 2 ^ c + v / 2 ^ d) c d (swapped_fits v c d small sum) sum more rest
    ∙ rw (mod-mul-add (v % 2 ^ d) (2 ^ c) (v / 2 ^ d) (high v c d small sum), div-mul-add (v % 2 ^ d) (2 ^ c) (v / 2 ^ d) (high v c d small sum))
    (div-add-mod' v (2 ^ d))

pub right_of_left : (v d : ℕ) → v < 2 ^ 32 → d < 32 → rotate_right w32 (rotate_left w32 v d) d ≡ v
right_of_left v zero small below = ap (λ x. rotate_right w32 x 0) (by_zero_left v small) ∙ by_zero_right v small
right_of_left v (suc k) small below =
    let d = suc k in
    let c = 32 - d in
    let sum : d + c ≡ 32 = omega arith in
    let other : c + d ≡ 32 = omega arith in
    let more : 0 < d = omega arith in
    let rest : 0 < c = omega arith in
    ap (λ x. rotate_right w32 x d) (left_is v c d small sum more rest)
    ∙ right_is ((v % 2 ^ c) * 2 ^ d + v / 2 ^ c) c d (swapped_fits v d c small other) sum more rest
    ∙ rw (mod-mul-add (v % 2 ^ c) (2 ^ d) (v / 2 ^ c) (high v d c small other), div-mul-add (v % 2 ^ c) (2 ^ d) (v / 2 ^ c) (high v d c small other))
    (div-add-mod' v (2 ^ c))

-- the first rotation that stands for a number
pub record IsLeast (n value rot : ℕ) : Type 0 where
  pub least : is_least_rotation value rot ≡ true
  pub number : rotated value rot ≡ n

pub least_found : (n value rot : ℕ) → n < 2 ^ 32 → rot < 16 → value ≡ rotate_left w32 n (2 * rot) → list_any (has_rotation n) (range_with_len 0 rot) ≡ false → IsLeast n value rot
least_found n value rot small below is none =
    let number : rotated value rot ≡ n = ap (λ v. rotated v rot) is ∙ right_of_left n (2 * rot) small (omega arith) in
    record {
      number = number;
      least = ap (λ k. not (list_any (has_rotation k) (range_with_len 0 rot))) number ∙ ap not none;
    }

pub stands_for : (n value rot : ℕ) → value < 256 → rot < 16 → rotated value rot ≡ n → has_rotation n rot ≡ true
stands_for n value rot small below is =
    let back : rotate_left w32 n (2 * rot) ≡ value =
    ap (λ k. rotate_left w32 k (2 * rot)) (sym is) ∙ left_of_right value (2 * rot) (omega arith) (omega arith) in
    lt-ltb _ _ (omega arith)

none_before : (n value rot : ℕ) → is_least_rotation value rot ≡ true → rotated value rot ≡ n → (at : ℕ) → at < rot → has_rotation n at ≡ true → ⊥
none_before n value rot least is at below holds =
    let any : list_any (has_rotation n) (range_with_len 0 rot) ≡ true = any_found (has_rotation n) rot at below holds in
    let none : not (list_any (has_rotation n) (range_with_len 0 rot)) ≡ true =
    ap (λ k. not (list_any (has_rotation k) (range_with_len 0 rot))) (sym is) ∙ least in
    false≢true (sym (ap not any) ∙ none)

pub least_only : (n value rot at : ℕ) → value < 256 → rot < 16 → is_least_rotation value rot ≡ true → rotated value rot ≡ n → list_any (has_rotation n) (range_with_len 0 at) ≡ false → has_rotation n at ≡ true → at ≡ rot
least_only n value rot at small below least is none holds =
    elim (cases_lt at rot) [
      | inl before ↦ absurd (none_before n value rot least is at before holds)
      | inr behind ↦ elim (cases_lt rot at) [
        | inl after ↦ absurd (false≢true (sym none ∙ any_found (has_rotation n) at rot after (stands_for n value rot small below is)))
        | inr same ↦ omega arith
      ]
    ]

pub bits_of : (n value rot : ℕ) → value < 256 → rot < 16 → rotated value rot ≡ n → rotate_left w32 n (2 * rot) ≡ value
bits_of n value rot small below is =
    ap (λ k. rotate_left w32 k (2 * rot)) (sym is) ∙ left_of_right value (2 * rot) (omega arith) (omega arith)

pub none_found : (n value rot at : ℕ) → value < 256 → rot < at → rot < 16 → rotated value rot ≡ n → list_any (has_rotation n) (range_with_len 0 at) ≡ false → ⊥
none_found n value rot at small below fits is none =
    false≢true (sym none ∙ any_found (has_rotation n) at rot below (stands_for n value rot small fits is))

pub rotated_fits : (value rot : ℕ) → value < 256 → rot < 16 → rotated value rot < 2 ^ 32
rotated_fits value zero small below = let same = by_zero_right value (omega arith) in omega arith
rotated_fits value (suc k) small below =
    let d = 2 * suc k in
    let c = 32 - d in
    let sum : d + c ≡ 32 = omega arith in
    let is = right_is value c d (omega arith) sum (omega arith) (omega arith) in
    let fits = swapped_fits value c d (omega arith) sum in
    omega arith
