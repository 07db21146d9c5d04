-- Words and addresses as text: this project's spelling.
use Rattle.std.specs.Prelude.{ℕ, ◌+◌, ◌/◌, ◌%◌, ◌^◌, nat_lt, if◌then◌else◌, List, [], ◌∷◌}

-- a digit below 16, with lower-case letters
abbrev pub hex_digit : ℕ → ℕ
hex_digit d = if nat_lt d 10 then 48 + d else 87 + d

-- a byte as two digits, the higher first
unfoldable pub hex_byte : ℕ → List ℕ
hex_byte byte = hex_digit (byte / 16) ∷ hex_digit (byte % 16) ∷ []

-- the eight digits of a word, the highest first
unfoldable pub hex_word : ℕ → List ℕ
hex_word word =
    hex_digit (word / 2 ^ 28 % 16) ∷ hex_digit (word / 2 ^ 24 % 16) ∷ hex_digit (word / 2 ^ 20 % 16)
    ∷ hex_digit (word / 2 ^ 16 % 16) ∷ hex_digit (word / 2 ^ 12 % 16) ∷ hex_digit (word / 2 ^ 8 % 16)
    ∷ hex_digit (word / 2 ^ 4 % 16) ∷ hex_digit (word % 16) ∷ []
