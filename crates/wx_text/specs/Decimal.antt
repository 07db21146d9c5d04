-- Decimal spellings: this project's reading of std's `decimal n`, which prints a number, and `signed_decimal z`.
use Rattle.std.specs.Prelude.{◌≡◌, ℕ, ◌<◌, ◌≤◌, List, length, slice_index, EachIndex}
use Rattle.std.specs.Str.Parse.{digits_value}
pub use Rattle.std.specs.Fmt.{decimal, signed_decimal}

-- the bytes are the shortest decimal spelling of the number: digits alone, of that value, and the first is `0` only where it is the only one
pub record IsShortestDecimal (n : ℕ) (bytes : List ℕ) : Type 0 where
  pub some : 0 < length bytes
  pub digits : EachIndex bytes (λ k. (48 ≤ slice_index bytes k) × (slice_index bytes k ≤ 57))
  pub value : digits_value 10 bytes ≡ n
  pub no_leading_zero : slice_index bytes 0 ≡ 48 → length bytes ≡ 1
