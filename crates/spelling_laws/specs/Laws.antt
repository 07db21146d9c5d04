-- Numbers are told by their spellings. This project's own.
use Rattle.std.specs.Prelude.{◌≡◌, ◌<◌, ◌^◌, ℕ}
use Rattle.wx_text.specs.Decimal.{decimal}
use Rattle.wx_text.specs.Hexadecimal.{hex_byte, hex_word}

-- numbers with one decimal spelling are one
abbrev pub DecimalIsOne : Type 0
DecimalIsOne = (m n : ℕ) → m < 2 ^ 64 → n < 2 ^ 64 → decimal m ≡ decimal n → m ≡ n

-- words with the same eight digits are one
abbrev pub WordIsOne : Type 0
WordIsOne = (v w : ℕ) → v < 2 ^ 32 → w < 2 ^ 32 → hex_word v ≡ hex_word w → v ≡ w

-- bytes with the same two digits are one
abbrev pub ByteIsOne : Type 0
ByteIsOne = (b c : ℕ) → b < 2 ^ 8 → c < 2 ^ 8 → hex_byte b ≡ hex_byte c → b ≡ c
