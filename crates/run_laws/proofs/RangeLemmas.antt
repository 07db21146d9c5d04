-- What instructions compute are words, and what they store are bytes.
use Rattle.std.proofs.Common.{ℕ, zero, suc, ◌+◌, ◌-◌, ◌*◌, ◌/◌, ◌%◌, ◌^◌, ◌<◌, ◌≤◌, Bool, true, false, cond, ◌&&◌, ◌||◌, ◌==◌, eqb, leb, List, [], ◌∷◌, ◌++◌, take, length, get_or, arith}
use Rattle.std.specs.Prelude.{min, bit_and, bit_or, bit_xor}
use Rattle.std.specs.Int.{byte_at, bytes_low_first}
use Rattle.std.specs.List.{flat_map}
use Rattle.std.proofs.lemmas.Nat.{and_le_l, or_of_32, xor_of_32}
use Rattle.std.proofs.Math.Nat.{div-le_self}
use Rattle.wx_base.specs.declared.step.Computed.{Computed}
use Rattle.wx_base.specs.declared.step.Shifted.{Shifted}
use Rattle.wx_base.specs.declared.step.Flags.{Flags}
use Rattle.wx_base.specs.declared.step.Datum.{Datum}
use Rattle.wx_base.specs.declared.step.Datum.TheVariants as datum
use Rattle.wx_base.specs.Arithmetic.{sum_with, difference_with, arithmetic, combined, computed, is_arithmetic, bitwise, carried, long_product_of, wide}
use Rattle.wx_base.specs.Bits.{add_words, sub_words, inverted, is_in, sign_extended, word_of_bytes, bytes_of_word}
use Rattle.wx_base.specs.Shifter.{shifted_left, shifted_right, sign_shifted, rotated, rotated_through, shifted_by, shifted, shifted_by_number, shifted_out, lsl, lsr, asr, ror}
use Rattle.wx_base.specs.State.{replaced, word_in, value_of, pc, overwritten, is_among}
use Rattle.wx_base.specs.Transfer.{extended_from, half_in, loaded, block_bytes, listed_below}

-- what holds of both choices holds of the choice
pub either : {A : Type 0} (P : A → Type 0) (b : Bool) (x y : A) → P x → P y → P (cond b x y)
either P true x y p q = p
either P false x y p q = q

-- the registers hold words
pub record HoldWords (registers : ℕ → ℕ) : Type 0 where
  pub each : (r : ℕ) → registers r < 2 ^ 32

pub replaced_words : (registers : ℕ → ℕ) (at value : ℕ) → HoldWords registers → value < 2 ^ 32 → HoldWords (replaced registers at value)
replaced_words registers at value w v = record { each = λ r. either (λ n. n < 2 ^ 32) (eqb r at) value (registers r) v (w.each r) }

pub sum_is_word : (a b : ℕ) → add_words a b < 2 ^ 32
sum_is_word a b = omega arith

pub difference_is_word : (a b : ℕ) → sub_words a b < 2 ^ 32
difference_is_word a b = omega arith

pub value_is_word : (registers : ℕ → ℕ) (r : ℕ) → HoldWords registers → value_of registers r < 2 ^ 32
value_is_word registers r w = either (λ n. n < 2 ^ 32) (eqb r pc) (add_words (registers pc) 8) (registers r) (sum_is_word (registers pc) 8) (w.each r)

-- ---- the shifter

abbrev IsShiftedWord : Shifted → Type 0
IsShiftedWord s = s.value < 2 ^ 32

less : (a b : ℕ) → a ≤ b → b < 2 ^ 32 → a < 2 ^ 32
less a b h k = omega arith

cut : (n : ℕ) → n % 2 ^ 32 < 2 ^ 32
cut n = omega arith

left_is_word : (word by : ℕ) → IsShiftedWord (shifted_left word by)
left_is_word word by = either IsShiftedWord (leb by 32) (record { value = word * 2 ^ by % 2 ^ 32; carry = is_in word (32 - by) }) shifted_out (cut (word * 2 ^ by)) (omega arith)

right_is_word : (word by : ℕ) → word < 2 ^ 32 → IsShiftedWord (shifted_right word by)
right_is_word word by w =
    either IsShiftedWord (leb by 32) (record { value = word / 2 ^ by; carry = is_in word (by - 1) }) shifted_out
    (less (word / 2 ^ by) word (div-le_self word (2 ^ by)) w) (omega arith)

rotated_is_word : (word by : ℕ) → word < 2 ^ 32 → IsShiftedWord (rotated word by)
rotated_is_word word by w =
    or_of_32 (word / 2 ^ (by % 32)) (word * 2 ^ ((32 - by % 32) % 32) % 2 ^ 32)
    (less (word / 2 ^ (by % 32)) word (div-le_self word (2 ^ (by % 32))) w) (cut (word * 2 ^ ((32 - by % 32) % 32)))

through_is_word : (word : ℕ) (carry : Bool) → word < 2 ^ 32 → IsShiftedWord (rotated_through word carry)
through_is_word word true w = omega arith
through_is_word word false w = omega arith

shifted_by_is_word : (kind word by : ℕ) → word < 2 ^ 32 → IsShiftedWord (shifted_by kind word by)
shifted_by_is_word kind word by w =
    either IsShiftedWord (kind == lsl) (shifted_left word by) _ (left_is_word word by)
    (either IsShiftedWord (kind == lsr) (shifted_right word by) _ (right_is_word word by w)
    (either IsShiftedWord (kind == asr) (sign_shifted word by) (rotated word by) (cut (sign_extended word / 2 ^ min by 32)) (rotated_is_word word by w)))

pub shifted_is_word : (kind word by : ℕ) (carry : Bool) → word < 2 ^ 32 → IsShiftedWord (shifted kind word by carry)
unfolding shifted
shifted_is_word kind word by carry w = either IsShiftedWord (by == 0) (record { value = word; carry = carry }) (shifted_by kind word by) w (shifted_by_is_word kind word by w)

pub shifted_number_is_word : (kind word amount : ℕ) (carry : Bool) → word < 2 ^ 32 → IsShiftedWord (shifted_by_number kind word amount carry)
unfolding shifted_by_number
shifted_number_is_word kind word amount carry w =
    either IsShiftedWord ((amount == 0) && (kind == ror)) (rotated_through word carry) _ (through_is_word word carry w) (shifted_is_word kind word _ carry w)

-- ---- what is computed

abbrev IsComputedWord : Computed → Type 0
IsComputedWord c = c.value < 2 ^ 32

sum_word : (a b : ℕ) (carry : Bool) → IsComputedWord (sum_with a b carry)
sum_word a b carry = cut (a + b + carried carry)

arithmetic_is_word : (code first second : ℕ) (carry : Bool) → IsComputedWord (arithmetic code first second carry)
arithmetic_is_word code a b c =
    either IsComputedWord ((code == 2) || (code == 10)) (difference_with a b true) _ (sum_word a (inverted b) true)
    (either IsComputedWord (code == 3) (difference_with b a true) _ (sum_word b (inverted a) true)
    (either IsComputedWord ((code == 4) || (code == 11)) (sum_with a b false) _ (sum_word a b false)
    (either IsComputedWord (code == 5) (sum_with a b c) _ (sum_word a b c)
    (either IsComputedWord (code == 6) (difference_with a b c) (difference_with b a c) (sum_word a (inverted b) c) (sum_word b (inverted a) c)))))

inverted_is_word : (n : ℕ) → inverted n < 2 ^ 32
inverted_is_word n = omega arith

combined_is_word : (code first second : ℕ) → first < 2 ^ 32 → second < 2 ^ 32 → combined code first second < 2 ^ 32
combined_is_word code a b h k =
    either W ((code == 0) || (code == 8)) (bit_and a b) _ (less (bit_and a b) a (and_le_l a b) h)
    (either W ((code == 1) || (code == 9)) (bit_xor a b) _ (xor_of_32 a b h k)
    (either W (code == 12) (bit_or a b) _ (or_of_32 a b h k)
    (either W (code == 13) b _ k
    (either W (code == 14) (bit_and a (inverted b)) (inverted b) (less (bit_and a (inverted b)) a (and_le_l a (inverted b)) h) (inverted_is_word b)))))
  where
    W : ℕ → Type 0
    W n = n < 2 ^ 32

pub computed_is_word : (code first : ℕ) (second : Shifted) (flags : Flags) → first < 2 ^ 32 → second.value < 2 ^ 32 → (computed code first second flags).value < 2 ^ 32
unfolding computed
computed_is_word code first second flags h k =
    either IsComputedWord (is_arithmetic code) (arithmetic code first second.value flags.c) (bitwise (combined code first second.value) second flags)
    (arithmetic_is_word code first second.value flags.c) (combined_is_word code first second.value h k)

pub low_is_word : (n : ℕ) → n % 2 ^ 32 < 2 ^ 32
low_is_word n = cut n

pub high_is_word : (n : ℕ) → n < 2 ^ 64 → n / 2 ^ 32 < 2 ^ 32
high_is_word n h = omega arith

pub long_is_small : (signed : Bool) (a b added : ℕ) → long_product_of signed a b added < 2 ^ 64
long_is_small signed a b added = low (wide signed a * wide signed b + added)
  where
    low : (n : ℕ) → n % 2 ^ 64 < 2 ^ 64
    low n = omega arith

-- ---- memory

pub record HoldBytes (memory : ℕ → ℕ) : Type 0 where
  pub each : (address : ℕ) → memory address < 256

word_small : (a b c d : ℕ) → a < 256 → b < 256 → c < 256 → d < 256 → word_of_bytes a b c d < 2 ^ 32
word_small a b c d p q r s = omega arith

pub word_in_is_word : (memory : ℕ → ℕ) (address : ℕ) → HoldBytes memory → word_in memory address < 2 ^ 32
word_in_is_word memory address m =
    word_small (memory address) (memory (add_words address 1)) (memory (add_words address 2)) (memory (add_words address 3))
    (m.each address) (m.each (add_words address 1)) (m.each (add_words address 2)) (m.each (add_words address 3))

half_small : (a b : ℕ) → a < 256 → b < 256 → a + 256 * b < 2 ^ 16
half_small a b p q = omega arith

half_extended : (n : ℕ) → n < 2 ^ 16 → extended_from 16 n < 2 ^ 32
half_extended n h = either (λ k. n + k < 2 ^ 32) (is_in n 15) (2 ^ 32 - 2 ^ 16) 0 (omega arith) (omega arith)

byte_extended : (n : ℕ) → n < 256 → extended_from 8 n < 2 ^ 32
byte_extended n h = either (λ k. n + k < 2 ^ 32) (is_in n 7) (2 ^ 32 - 2 ^ 8) 0 (omega arith) (omega arith)

small_is_word : (n b : ℕ) → n < b → b ≤ 2 ^ 32 → n < 2 ^ 32
small_is_word n b h k = omega arith

pub loaded_is_word : (what : Datum) (memory : ℕ → ℕ) (address : ℕ) → HoldBytes memory → loaded what memory address < 2 ^ 32
unfolding loaded
loaded_is_word datum.Word memory address m = word_in_is_word memory address m
loaded_is_word datum.Half memory address m = small_is_word (half_in memory address) (2 ^ 16) (half_small (memory address) (memory (add_words address 1)) (m.each address) (m.each (add_words address 1))) (omega arith)
loaded_is_word datum.SignedHalf memory address m = half_extended (half_in memory address) (half_small (memory address) (memory (add_words address 1)) (m.each address) (m.each (add_words address 1)))
loaded_is_word datum.Byte memory address m = small_is_word (memory address) 256 (m.each address) (omega arith)
loaded_is_word datum.SignedByte memory address m = byte_extended (memory address) (m.each address)

-- ---- what is stored

-- all elements are bytes; past the end a list reads as 0
pub record AreBytes (bytes : List ℕ) : Type 0 where
  pub each : (k : ℕ) → get_or bytes k 0 < 256

no_bytes : AreBytes []
no_bytes = record { each = λ k. omega arith }

byte_in_front : (x : ℕ) (xs : List ℕ) → x < 256 → AreBytes xs → AreBytes (x ∷ xs)
byte_in_front x xs small rest = record { each = at }
  where
    at : (k : ℕ) → get_or (x ∷ xs) k 0 < 256
    at zero = small
    at (suc k) = rest.each k

first_of : (x : ℕ) (xs : List ℕ) → AreBytes (x ∷ xs) → AreBytes xs
first_of x xs b = record { each = λ k. b.each (suc k) }

pub bytes_joined : (xs ys : List ℕ) → AreBytes xs → AreBytes ys → AreBytes (xs ++ ys)
bytes_joined [] ys b c = c
bytes_joined (x ∷ xs) ys b c = byte_in_front x (xs ++ ys) (b.each zero) (bytes_joined xs ys (first_of x xs b) c)

pub bytes_taken : (n : ℕ) (xs : List ℕ) → AreBytes xs → AreBytes (take n xs)
bytes_taken zero xs b = no_bytes
bytes_taken (suc n) [] b = no_bytes
bytes_taken (suc n) (x ∷ xs) b = byte_in_front x (take n xs) (b.each zero) (bytes_taken n xs (first_of x xs b))

low_byte : (n : ℕ) → n % 256 < 256
low_byte n = omega arith

byte_small : (i n : ℕ) → byte_at i n < 256
byte_small zero n = low_byte n
byte_small (suc i) n = low_byte (n / 256 ^ suc i)

low_first : (i k n : ℕ) → AreBytes (bytes_low_first i k n)
low_first i zero n = no_bytes
low_first i (suc k) n = byte_in_front (byte_at i n) (bytes_low_first (suc i) k n) (byte_small i n) (low_first (suc i) k n)

pub word_has_bytes : (word : ℕ) → AreBytes (bytes_of_word word)
word_has_bytes word = low_first 0 4 word

flat_bytes : (f : ℕ → List ℕ) (xs : List ℕ) → ((x : ℕ) → AreBytes (f x)) → AreBytes (flat_map f xs)
flat_bytes f [] each = no_bytes
flat_bytes f (x ∷ xs) each = bytes_joined (f x) (flat_map f xs) (each x) (flat_bytes f xs each)

pub block_has_bytes : (registers : ℕ → ℕ) (list : ℕ) → AreBytes (block_bytes registers list)
unfolding block_bytes
block_has_bytes registers list = flat_bytes (λ r. bytes_of_word (value_of registers r)) (listed_below 16 list) (λ r. word_has_bytes (value_of registers r))

pub overwritten_bytes : (memory : ℕ → ℕ) (first : ℕ) (bytes : List ℕ) → HoldBytes memory → AreBytes bytes → HoldBytes (overwritten memory first bytes)
overwritten_bytes memory first bytes m b = record {
  each = λ address. either (λ n. n < 256) (is_among first (length bytes) address) (get_or bytes (sub_words address first) 0) (memory address) (b.each (sub_words address first)) (m.each address);
}
