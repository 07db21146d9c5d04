-- Digits that a loop has read, in a base.
use Rattle.std.proofs.Common.{◌≡◌, ℕ, ◌+◌, ◌-◌, ◌*◌, ◌^◌, ◌<◌, ◌≤◌, Bool, true, List, length, get_or, take, refl, sym, ap, arith, false, Option, Some, None, eqb, if◌then◌else◌, length-take}
use Rattle.std.proofs.Math.Nat.{pow-le-pow_right, pow-suc}
use Rattle.std.proofs.Math.Numerals.{add-one}
use Rattle.std.proofs.lemmas.Bool.{false≢true}
use Rattle.std.proofs.lemmas.List.Sums.{AllPass-from_list_all, list_all-from_AllPass}
use Rattle.std.proofs.lemmas.Bool.Decides.{nat_tests}
use Rattle.std.proofs.lemmas.Int.Digits.{digits_value_more}
use Rattle.std.proofs.lemmas.Str.Parse.{digits_value-take-le}
use Rattle.std.specs.Char.{is_ascii_digit, digit_value}
use Rattle.std.specs.Str.Parse.{digits_value}
use Rattle.std.specs.List.{AllPass, list_all}
use Rattle.std.specs.Option.{SomeIff}
use Rattle.wx_text.specs.Cursor.{is_hex_digit, hex_at}

-- a decimal digit and its value
pub decimal_digit : (c : ℕ) → is_ascii_digit c ≡ true → (48 ≤ c) × (c ≤ 57) × (digit_value c ≡ c - 48)
decimal_digit c h = grind (arith, nat_tests)

-- one more digit
pub digit_more : (base v d i : ℕ) (ds : List ℕ) → i < length ds → v ≡ digits_value base (take i ds) → d ≡ digit_value (get_or ds i 0) → v * base + d ≡ digits_value base (take (i + 1) ds)
digit_more base v d i ds h e f = rw (digits_value_more base ds i h) cc

-- the digits read so far write no greater number than all
pub front_le : (base v i : ℕ) (ds : List ℕ) → 1 ≤ base → v ≡ digits_value base (take i ds) → v ≤ digits_value base ds
front_le base v i ds h e = omega (arith, digits_value-take-le base ds i h)

-- what one more decimal digit makes of the number so far
pub record OneMore (v i : ℕ) (ds : List ℕ) : Type 0 where
  pub value : v * 10 + (get_or ds i 0 - 48) ≡ digits_value 10 (take (i + 1) ds)
  pub within : v * 10 + (get_or ds i 0 - 48) ≤ digits_value 10 ds

pub one_more : (v i : ℕ) (ds : List ℕ) → i < length ds → AllPass is_ascii_digit ds → v ≡ digits_value 10 (take i ds) → OneMore v i ds
one_more v i ds h all e =
    let digit = decimal_digit (get_or ds i 0) (all i 0 h) in
    let d : get_or ds i 0 - 48 ≡ digit_value (get_or ds i 0) = sym digit.2 in
    let value : v * 10 + (get_or ds i 0 - 48) ≡ digits_value 10 (take (i + 1) ds) = digit_more 10 v (get_or ds i 0 - 48) i ds h e d in
    record { value = value; within = front_le 10 (v * 10 + (get_or ds i 0 - 48)) (i + 1) ds (omega arith) value }

-- sixteen to the number of digits read so far, which are fewer than eight
pub hex_room : (v i : ℕ) → v < 16 ^ i → i < 8 → v < 2 ^ 28
hex_room v i h small = let p : 16 ^ i ≤ 16 ^ 7 = let below : i ≤ 7 = omega arith in let one : 0 < 16 = omega arith in pow-le-pow_right one below in omega arith

-- one more hexadecimal digit keeps the number below sixteen to the number of digits
pub hex_more : (v d i : ℕ) → v < 16 ^ i → d < 16 → v * 16 + d < 16 ^ (i + 1)
hex_more v d i h s = rw (add-one i, pow-suc 16 i) (omega arith)

-- the answer where a test decides
pick : {P : Type 0} (b : Bool) (v : ℕ) (r : Option ℕ) → (P → b ≡ true) → (b ≡ true → P) → SomeIff r P v → r ≡ (if b then Some v else None)
pick true v (Some x) to from s = ap Some s.1
pick true v None to from s = absurd (s (from refl))
pick false v (Some x) to from s = absurd (false≢true (to s.0))
pick false v None to from s = refl

-- fewer than eight bytes are no hexadecimal word
pub hex_short : (bytes : List ℕ) → length bytes < 8 → hex_at bytes ≡ None
hex_short bytes h =
    let e : eqb (length (take 8 bytes)) 8 ≡ false = grind (arith, nat_tests, length-take 8 bytes) in
    rw e refl

-- eight bytes are one exactly if each is a digit
pub hex_long : (bytes : List ℕ) (r : Option ℕ) → 8 ≤ length bytes → SomeIff r (AllPass is_hex_digit (take 8 bytes)) (digits_value 16 (take 8 bytes)) → r ≡ hex_at bytes
hex_long bytes r h s =
    let e : eqb (length (take 8 bytes)) 8 ≡ true = grind (arith, nat_tests, length-take 8 bytes) in
    rw e (pick (list_all is_hex_digit (take 8 bytes)) (digits_value 16 (take 8 bytes)) r (list_all-from_AllPass is_hex_digit (take 8 bytes)) (AllPass-from_list_all is_hex_digit (take 8 bytes)) s)
