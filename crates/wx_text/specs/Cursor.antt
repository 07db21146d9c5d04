-- A text read from its front: this project's grammar of numbers, addresses and fixed words.
use Rattle.std.specs.Prelude.{ℕ, ◌+◌, ◌^◌, Bool, List, length, drop, take, Option, Some, None, nat_lt, ◌&&◌, ◌||◌, ◌==◌, if◌then◌else◌, nat_le, take_while}
use Rattle.std.specs.List.{list_all}
use Rattle.std.specs.Char.{is_ascii_digit}
use Rattle.std.specs.Str.Parse.{digits_value}

-- what a caller sees of a cursor: the whole text, and how many of its bytes lie behind the cursor
pub record Reading : Type 0 where
  pub bytes : List ℕ
  pub place : ℕ

-- the bytes from the cursor on
abbrev pub rest : Reading → List ℕ
rest r = drop r.place r.bytes

-- the same text, n bytes further on
abbrev pub stepped : Reading → ℕ → Reading
stepped r n = record { bytes = r.bytes; place = r.place + n }

-- the longest run of decimal digits at the front of a text
abbrev pub leading_digits : List ℕ → List ℕ
leading_digits bytes = take_while is_ascii_digit bytes

-- the number of the longest run of digits at the front, if there is a digit and the number fits 64 bits
abbrev pub number_at : List ℕ → Option ℕ
number_at bytes = if nat_lt 0 (length (leading_digits bytes)) && nat_lt (digits_value 10 (leading_digits bytes)) (2 ^ 64) then Some (digits_value 10 (leading_digits bytes)) else None

-- a byte of `0` to `9` or `a` to `f`
abbrev pub is_hex_digit : ℕ → Bool
is_hex_digit c = is_ascii_digit c || (nat_le 97 c && nat_le c 102)

-- the number that the first eight bytes write in hexadecimal, if they are eight lower-case digits
abbrev pub hex_at : List ℕ → Option ℕ
hex_at bytes = if (length (take 8 bytes) == 8) && list_all is_hex_digit (take 8 bytes) then Some (digits_value 16 (take 8 bytes)) else None
