-- Ranges of addresses.
use Rattle.std.specs.Prelude.{ℕ, ◌+◌, Bool, ◌&&◌, ◌||◌, nat_le, nat_lt}
use Rattle.wx_base.specs.Bits.{sub_words}

-- whether an address is one of `size` from the first on; none is past the end of memory
abbrev pub is_within : ℕ → ℕ → ℕ → Bool
is_within first size address = nat_le first address && nat_lt address (first + size)

-- whether `size` addresses from the first on and `count` from another on, modulo 2^32, have one in common: one of the two
-- begins among the others
abbrev pub meets : ℕ → ℕ → ℕ → ℕ → Bool
meets first size address count =
    nat_lt 0 count && nat_lt 0 size && (is_within first size address || nat_lt (sub_words first address) count)
