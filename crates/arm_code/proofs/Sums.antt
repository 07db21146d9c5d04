-- A word is the sum of its fields, in each way that rows take it apart.
use Rattle.std.proofs.Common.{◌≡◌, ℕ, ◌+◌, ◌*◌, ◌%◌, ◌^◌, ◌<◌, arith}
use Rattle.std.proofs.lemmas.Nat.{mod-pow-add}
use Rattle.wx_base.specs.Bits.{bits}

-- the condition, the three bits that tell most rows apart, and the rest
pub top : (word : ℕ) → word < 2 ^ 32 → word ≡ bits 31 28 word * 2 ^ 28 + (bits 27 25 word * 2 ^ 25 + word % 2 ^ 25)
top word small = omega (arith, mod-pow-add word 4 28, mod-pow-add word 3 25)

-- the opcode and the flags' bit
pub opcode_part : (word : ℕ) → word % 2 ^ 25 ≡ bits 24 21 word * 2 ^ 21 + (bits 20 20 word * 2 ^ 20 + word % 2 ^ 20)
opcode_part word = omega (arith, mod-pow-add word 4 21, mod-pow-add word 1 20)

-- five single bits
pub single_bits : (word : ℕ) → word % 2 ^ 25 ≡ bits 24 24 word * 2 ^ 24 + (bits 23 23 word * 2 ^ 23 + (bits 22 22 word * 2 ^ 22 + (bits 21 21 word * 2 ^ 21 + (bits 20 20 word * 2 ^ 20 + word % 2 ^ 20))))
single_bits word =
    omega (arith, mod-pow-add word 1 24, mod-pow-add word 1 23, mod-pow-add word 1 22, mod-pow-add word 1 21, mod-pow-add word 1 20)

-- two registers
pub registers_part : (word : ℕ) → word % 2 ^ 20 ≡ bits 19 16 word * 2 ^ 16 + (bits 15 12 word * 2 ^ 12 + word % 2 ^ 12)
registers_part word = omega (arith, mod-pow-add word 4 16, mod-pow-add word 4 12)

-- a rotated number
pub rotated_part : (word : ℕ) → word % 2 ^ 12 ≡ bits 11 8 word * 2 ^ 8 + bits 7 0 word
rotated_part word = omega (arith, mod-pow-add word 4 8, mod-pow-add word 8 0)

-- a register shifted by an amount
pub shifted_part : (word : ℕ) → word % 2 ^ 12 ≡ bits 11 7 word * 2 ^ 7 + (bits 6 5 word * 2 ^ 5 + (bits 4 4 word * 2 ^ 4 + bits 3 0 word))
shifted_part word =
    omega (arith, mod-pow-add word 5 7, mod-pow-add word 2 5, mod-pow-add word 1 4, mod-pow-add word 4 0)

-- two registers with bits between
pub between_part : (word : ℕ) → word % 2 ^ 12 ≡ bits 11 8 word * 2 ^ 8 + (bits 7 7 word * 2 ^ 7 + (bits 6 5 word * 2 ^ 5 + (bits 4 4 word * 2 ^ 4 + bits 3 0 word)))
between_part word =
    omega (arith, mod-pow-add word 4 8, mod-pow-add word 1 7, mod-pow-add word 2 5, mod-pow-add word 1 4, mod-pow-add word 4 0)

-- a list below a register
pub list_part : (word : ℕ) → word % 2 ^ 20 ≡ bits 19 16 word * 2 ^ 16 + bits 15 0 word
list_part word = omega (arith, mod-pow-add word 4 16, mod-pow-add word 16 0)

-- a long number below one bit
pub long_part : (word : ℕ) → word % 2 ^ 25 ≡ bits 24 24 word * 2 ^ 24 + bits 23 0 word
long_part word = omega (arith, mod-pow-add word 1 24, mod-pow-add word 24 0)

-- an exchange
pub exchange_part : (word : ℕ) → word % 2 ^ 25 ≡ bits 24 23 word * 2 ^ 23 + (bits 22 22 word * 2 ^ 22 + (bits 21 21 word * 2 ^ 21 + (bits 20 20 word * 2 ^ 20 + word % 2 ^ 20)))
exchange_part word =
    omega (arith, mod-pow-add word 2 23, mod-pow-add word 1 22, mod-pow-add word 1 21, mod-pow-add word 1 20)

pub exchange_low : (word : ℕ) → word % 2 ^ 20 ≡ bits 19 8 word * 2 ^ 8 + (bits 7 7 word * 2 ^ 7 + (bits 6 6 word * 2 ^ 6 + (bits 5 5 word * 2 ^ 5 + (bits 4 4 word * 2 ^ 4 + bits 3 0 word))))
exchange_low word =
    omega (arith, mod-pow-add word 12 8, mod-pow-add word 1 7, mod-pow-add word 1 6, mod-pow-add word 1 5, mod-pow-add word 1 4, mod-pow-add word 4 0)

-- a move of the link register to pc
pub return_part : (word : ℕ) → word % 2 ^ 25 ≡ bits 24 16 word * 2 ^ 16 + (bits 15 12 word * 2 ^ 12 + word % 2 ^ 12)
return_part word = omega (arith, mod-pow-add word 9 16, mod-pow-add word 4 12)
