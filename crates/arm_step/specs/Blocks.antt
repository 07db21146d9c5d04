-- Blocks of registers, as far as they are moved.
use Rattle.std.specs.Prelude.{ℕ, ◌*◌, ◌&&◌, nat_lt, if◌then◌else◌, List, [], length, flat_map}
use Rattle.wx_base.specs.Bits.{is_in, add_words, bytes_of_word}
use Rattle.wx_base.specs.State.{value_of, word_in}
use Rattle.wx_base.specs.Transfer.{listed_below}

-- where a register of a block that is loaded or stored from an address on has its word
abbrev pub place_of : ℕ → ℕ → ℕ → ℕ
place_of list first register = add_words first (4 * length (listed_below register list))

-- the registers, those of the list below some number loaded
abbrev pub loaded_below : (ℕ → ℕ) → (ℕ → ℕ) → ℕ → ℕ → ℕ → ℕ → ℕ
loaded_below registers memory list first end =
    λ r. if nat_lt r end && is_in list r then word_in memory (place_of list first r) else registers r

-- the bytes of the registers of the list below some number
abbrev pub bytes_below : (ℕ → ℕ) → ℕ → ℕ → List ℕ
bytes_below registers list end = flat_map (λ r. bytes_of_word (value_of registers r)) (listed_below end list)

-- the bytes of one register, if it is in the list
abbrev pub bytes_at : (ℕ → ℕ) → ℕ → ℕ → List ℕ
bytes_at registers list register = if is_in list register then bytes_of_word (value_of registers register) else []
