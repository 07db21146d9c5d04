-- Words that are shifted on their way to an instruction. ARM Architecture Reference Manual, "Addressing Mode 1 - Data-processing
-- operands" and "Addressing Mode 2 - Load and Store Word or Unsigned Byte".
use Rattle.std.specs.Prelude.{ℕ, ◌+◌, ◌-◌, ◌*◌, ◌/◌, ◌%◌, ◌^◌, min, nat_le, Bool, false, ◌==◌, not, ◌&&◌, if◌then◌else◌}
use Rattle.std.specs.Int.{rotate_right, w32}
use Rattle.wx_base.specs.declared.step.Shifted.{Shifted}
use Rattle.wx_base.specs.Bits.{is_in, is_negative, sign_extended}

-- codes of the kinds of shift
abbrev pub lsl : ℕ
lsl = 0

abbrev pub lsr : ℕ
lsr = 1

abbrev pub asr : ℕ
asr = 2

abbrev pub ror : ℕ
ror = 3

-- what a shift by more than 32 leaves where zeros come in
abbrev pub shifted_out : Shifted
shifted_out = record { value = 0; carry = false }

-- to the left; zeros come in
abbrev pub shifted_left : ℕ → ℕ → Shifted
shifted_left word by =
    if nat_le by 32 then record { value = word * 2 ^ by % 2 ^ 32; carry = is_in word (32 - by) } else shifted_out

-- to the right; zeros come in
abbrev pub shifted_right : ℕ → ℕ → Shifted
shifted_right word by =
    if nat_le by 32 then record { value = word / 2 ^ by; carry = is_in word (by - 1) } else shifted_out

-- to the right; copies of the top bit come in, and from 32 on there is nothing else left
abbrev pub sign_shifted : ℕ → ℕ → Shifted
sign_shifted word by =
    record { value = sign_extended word / 2 ^ min by 32 % 2 ^ 32; carry = is_in (sign_extended word) (min by 32 - 1) }

-- to the right; what leaves comes in, and the top bit is what came in last
abbrev pub rotated : ℕ → ℕ → Shifted
rotated word by =
    record { value = rotate_right w32 word by; carry = is_negative (rotate_right w32 word by) }

-- to the right by one; the carry comes in
abbrev pub rotated_through : ℕ → Bool → Shifted
rotated_through word carry = record { value = word / 2 + (if carry then 2 ^ 31 else 0); carry = is_in word 0 }

-- a shift of a kind by at least one
abbrev pub shifted_by : ℕ → ℕ → ℕ → Shifted
shifted_by kind word by =
    if kind == lsl
    then shifted_left word by
    else (if kind == lsr then shifted_right word by else (if kind == asr then sign_shifted word by else rotated word by))

-- a shift of a kind by any amount; one by 0 keeps the word, and the carry that was
unfoldable pub shifted : ℕ → ℕ → ℕ → Bool → Shifted
shifted kind word by carry =
    if by == 0 then record { value = word; carry = carry } else shifted_by kind word by

-- A shift by the amount of five bits that an instruction has. 0 is no shift for lsl, 32 for lsr and asr, and for ror a
-- rotation by one through the carry.
unfoldable pub shifted_by_number : ℕ → ℕ → ℕ → Bool → Shifted
shifted_by_number kind word amount carry =
    if (amount == 0) && (kind == ror)
    then rotated_through word carry
    else shifted kind word (if (amount == 0) && not (kind == lsl) then 32 else amount) carry

-- a shift by the lowest byte of a register
abbrev pub shifted_by_register : ℕ → ℕ → ℕ → Bool → Shifted
shifted_by_register kind word by carry = shifted kind word (by % 256) carry

-- eight bits rotated right by twice the rotation
abbrev pub rotated_immediate : ℕ → ℕ → Bool → Shifted
rotated_immediate value rotation carry = shifted ror value (2 * rotation) carry
