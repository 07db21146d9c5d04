-- Words as numbers, and the numbers that stand in their bits.
use Rattle.std.specs.Prelude.{ℕ, ◌+◌, ◌-◌, ◌*◌, ◌/◌, ◌%◌, ◌^◌, Bool, if◌then◌else◌, ◌==◌, List}
use Rattle.std.specs.Int.{to_le_bytes, w32}

-- bits high to low of a word, as a number
abbrev pub bits : ℕ → ℕ → ℕ → ℕ
bits high low word = word / 2 ^ low % 2 ^ (high + 1 - low)

-- bit k of a number; where it stands for a set of small numbers, whether k is in the set
abbrev pub is_in : ℕ → ℕ → Bool
is_in set k = set / 2 ^ k % 2 == 1

-- a 32-bit word of four bytes, the lowest first
abbrev pub word_of_bytes : ℕ → ℕ → ℕ → ℕ → ℕ
word_of_bytes a b c d = a + 256 * b + 65536 * c + 16777216 * d

-- the four bytes of a 32-bit word, the lowest first
abbrev pub bytes_of_word : ℕ → List ℕ
bytes_of_word word = to_le_bytes w32 word

-- a sum of words, modulo 2^32
abbrev pub add_words : ℕ → ℕ → ℕ
add_words a b = (a + b) % 2 ^ 32

-- a difference of words, modulo 2^32
abbrev pub sub_words : ℕ → ℕ → ℕ
sub_words a b = (a + 2 ^ 32 - b) % 2 ^ 32

-- whether the top bit of a word is set, which is the sign of the number that it stands for
abbrev pub is_negative : ℕ → Bool
is_negative word = is_in word 31

-- a word as 64 bits, with copies of its top bit in front
abbrev pub sign_extended : ℕ → ℕ
sign_extended word = word + (if is_negative word then 2 ^ 64 - 2 ^ 32 else 0)

-- a word with each bit turned
abbrev pub inverted : ℕ → ℕ
inverted word = 2 ^ 32 - 1 - word
