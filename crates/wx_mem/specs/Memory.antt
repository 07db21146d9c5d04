-- A memory of bytes at 32-bit addresses, of which some have been written. This project's own.
use Rattle.std.specs.Prelude.{◌≡◌, ◌⊎◌, ℕ, ◌<◌, ◌≤◌, true, false, Bool, List, [], ◌∷◌, refl}
use Rattle.std.specs.Option.{unwrap_or}
use Rattle.std.specs.Ordering.{nat_cmp}
use Rattle.std.specs.FinMap as map
use Rattle.std.specs.Coded.{Coded, code_by, coded×, coded_ℕ}
use Rattle.wx_base.specs.Bits.{add_words}
use Rattle.wx_base.specs.State.{is_among}

-- bytes by their addresses
abbrev pub Written : Type 0
Written = map.FinMap nat_cmp ℕ

-- the byte that stands wherever none was written, and the bytes that were written
pub record Bytes : Type 0 where
  pub fill : ℕ
  pub written : Written

-- these two as a pair
abbrev pub bytes_code : Coded Bytes
bytes_code =
    code_by (ℕ × Written) (coded× coded_ℕ (map.code coded_ℕ coded_ℕ)) (λ m. (m.fill, m.written)) (λ p. record { fill = p.0; written = p.1 }) (λ _. refl)

-- whether a byte was written at the address
abbrev pub is_written : Bytes → ℕ → Bool
is_written memory address = map.contains_key memory.written address

-- the memory as a function of addresses: the byte written there, else the fill
abbrev pub byte_at : Bytes → ℕ → ℕ
byte_at memory address = unwrap_or (map.get memory.written address) memory.fill

-- the bytes after those of a list were written at an address and the addresses behind it, modulo 2^32
abbrev pub with_bytes : Written → ℕ → List ℕ → Written
with_bytes written address [] = written
with_bytes written address (b ∷ bytes) = with_bytes (map.insert written address b) (add_words address 1) bytes

-- each byte is below 256
pub record HoldsBytes (memory : Bytes) : Type 0 where
  pub each : (address : ℕ) → byte_at memory address < 256

-- the map has each of so many addresses from the first on, modulo 2^32
pub record HasAll (written : Written) (first count : ℕ) : Type 0 where
  pub each : (address : ℕ) → is_among first count address ≡ true → map.contains_key written address ≡ true

-- it lacks one of them
pub record LacksSome (written : Written) (first count : ℕ) : Type 0 where
  pub address : ℕ
  pub among : is_among first count address ≡ true
  pub absent : map.contains_key written address ≡ false

-- it has each of them, or places to spare for all of them
abbrev pub HasRoom : ℕ → Written → ℕ → ℕ → Type 0
HasRoom spare written first count = HasAll written first count ⊎ (count ≤ spare)
