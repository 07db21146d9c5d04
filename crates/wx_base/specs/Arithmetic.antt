-- What data processing and multiplications compute. ARM Architecture Reference Manual, "Data-processing instructions" and
-- "Multiply instructions".
use Rattle.std.specs.Prelude.{ℕ, ◌+◌, ◌*◌, ◌/◌, ◌%◌, ◌^◌, nat_le, Bool, true, false, not, ◌==◌, ◌&&◌, ◌||◌, if◌then◌else◌, bit_and, bit_or, bit_xor}
use Rattle.wx_base.specs.Bits.{is_negative, sign_extended, inverted}
use Rattle.wx_base.specs.declared.step.Flags.{Flags}
use Rattle.wx_base.specs.declared.step.Shifted.{Shifted}
use Rattle.wx_base.specs.declared.step.Computed.{Computed}

-- whether two truth values agree
abbrev pub agree : Bool → Bool → Bool
agree a b = if a then b else not b

-- what the first condition of a pair asks of the flags; the second asks the opposite
abbrev pub asked : ℕ → Flags → Bool
asked pair flags =
    if pair == 0
    then flags.z
    else
    (if pair == 1
    then flags.c
    else
    (if pair == 2
    then flags.n
    else
    (if pair == 3
    then flags.v
    else
    (if pair == 4
    then flags.c && not flags.z
    else
    (if pair == 5 then agree flags.n flags.v else (if pair == 6 then agree flags.n flags.v && not flags.z else true))))))

-- Whether a condition holds. Conditions are pairs of opposites: eq and ne, cs and cc, mi and pl, vs and vc, hi and ls, ge
-- and lt, gt and le; code 14 is "always", and no instruction has code 15.
unfoldable pub passes : ℕ → Flags → Bool
passes cond flags = if cond % 2 == 0 then asked (cond / 2) flags else not (asked (cond / 2) flags)

abbrev pub carried : Bool → ℕ
carried carry = if carry then 1 else 0

-- The sum of two words and a carry. It carries where it reaches 2^32, and overflows where both words have one sign and the
-- sum has the other.
abbrev pub sum_with : ℕ → ℕ → Bool → Computed
sum_with a b carry =
    let value = (a + b + carried carry) % 2 ^ 32 in
    record {
      value = value;
      carry = nat_le (2 ^ 32) (a + b + carried carry);
      overflow = agree (is_negative a) (is_negative b) && not (agree (is_negative value) (is_negative a));
    }

-- A difference, less one unless the carry is set: the sum with the inverted word. It carries where nothing is borrowed.
abbrev pub difference_with : ℕ → ℕ → Bool → Computed
difference_with a b carry = sum_with a (inverted b) carry

-- a result bit by bit: its carry is the shifter's, and the overflow stays
abbrev pub bitwise : ℕ → Shifted → Flags → Computed
bitwise value second flags = record { value = value; carry = second.carry; overflow = flags.v }

-- sums and differences, by their opcodes: sub and cmp, rsb, add and cmn, adc, sbc, rsc
abbrev pub is_arithmetic : ℕ → Bool
is_arithmetic code = (nat_le 2 code && nat_le code 7) || (code == 10) || (code == 11)

abbrev pub arithmetic : ℕ → ℕ → ℕ → Bool → Computed
arithmetic code first second carry =
    if (code == 2) || (code == 10)
    then difference_with first second true
    else
    (if code == 3
    then difference_with second first true
    else
    (if (code == 4) || (code == 11)
    then sum_with first second false
    else
    (if code == 5
    then sum_with first second carry
    else (if code == 6 then difference_with first second carry else difference_with second first carry))))

-- the others: and and tst, eor and teq, orr, mov, bic, mvn
abbrev pub combined : ℕ → ℕ → ℕ → ℕ
combined code first second =
    if (code == 0) || (code == 8)
    then bit_and first second
    else
    (if (code == 1) || (code == 9)
    then bit_xor first second
    else
    (if code == 12
    then bit_or first second
    else
    (if code == 13
    then second
    else (if code == 14 then bit_and first (inverted second) else inverted second))))

-- what data processing computes of its operands, by its opcode
unfoldable pub computed : ℕ → ℕ → Shifted → Flags → Computed
computed code first second flags =
    if is_arithmetic code
    then arithmetic code first second.value flags.c
    else bitwise (combined code first second.value) second flags

-- the flags that data processing sets
abbrev pub flags_of : Computed → Flags
flags_of result =
    record { n = is_negative result.value; z = result.value == 0; c = result.carry; v = result.overflow }

-- a product, and what is added to it, in 32 bits
abbrev pub product_of : ℕ → ℕ → ℕ → ℕ
product_of a b added = (a * b + added) % 2 ^ 32

-- a word in 64 bits, taken with its sign or without
abbrev pub wide : Bool → ℕ → ℕ
wide signed word = if signed then sign_extended word else word

-- a product of such words, and what is added to it, in 64 bits
abbrev pub long_product_of : Bool → ℕ → ℕ → ℕ → ℕ
long_product_of signed a b added = (wide signed a * wide signed b + added) % 2 ^ 64

-- the flags that a multiplication sets; that carry and overflow stay is this project's own
abbrev pub product_flags : Bool → Bool → Flags → Flags
product_flags negative zero flags = record { n = negative; z = zero; c = flags.c; v = flags.v }

-- a factor with which a multiplication is slow; this project's own
abbrev pub is_slow_factor : ℕ → Bool
is_slow_factor word = nat_le 65536 word
