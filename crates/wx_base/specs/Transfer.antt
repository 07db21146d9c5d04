-- Loads and stores. ARM Architecture Reference Manual, "Load and store instructions" and "Load and Store Multiple"; where the machine stops, and which
-- accesses are slow, is this project's own.
use Rattle.std.specs.Prelude.{ℕ, ◌+◌, ◌-◌, ◌*◌, ◌%◌, ◌^◌, Bool, false, not, ◌==◌, ◌&&◌, nat_le, if◌then◌else◌, List, take, filter, flat_map, length}
use Rattle.std.specs.List.{list_any, range_with_len}
use Rattle.wx_base.specs.declared.machine.Machine.{Machine}
use Rattle.wx_base.specs.declared.machine.Region.{Region}
use Rattle.wx_base.specs.declared.image.Image.{Image}
use Rattle.wx_base.specs.declared.step.Why.TheVariants.{Align, Store}
use Rattle.wx_base.specs.declared.step.Transfer.{Transfer}
use Rattle.wx_base.specs.declared.step.BlockTransfer.{BlockTransfer}
use Rattle.wx_base.specs.declared.step.Datum.{Datum}
use Rattle.wx_base.specs.declared.step.Datum.TheVariants as datum
use Rattle.wx_base.specs.Bits.{is_in, bytes_of_word, add_words, sub_words}
use Rattle.wx_base.specs.Image.{has_code}
use Rattle.wx_base.specs.State.{State, Outcome, Next, Stopped, pc, replaced, next_address, value_of, word_in, overwritten}

-- whether one of the addresses of bytes from the first on passes a test
abbrev pub any_byte : ℕ → ℕ → (ℕ → Bool) → Bool
any_byte first count test = list_any (λ k. test (add_words first k)) (range_with_len 0 count)

-- whether an address lies in a region
abbrev pub lies_in : Region → ℕ → Bool
lies_in region address = nat_le region.first address && nat_le address region.last

-- whether an access to bytes from an address on is slow: one of them lies in a slow region
unfoldable pub is_slow_access : Machine → ℕ → ℕ → Bool
is_slow_access machine first count =
    any_byte first count (λ address. list_any (λ region. region.slow && lies_in region address) machine.regions)

-- whether one of the bytes from an address on is code
unfoldable pub meets_code : Image → ℕ → ℕ → Bool
meets_code image first count = any_byte first count (has_code image)

-- a base after an offset was added or subtracted
abbrev pub moved : Bool → ℕ → ℕ → ℕ
moved up base by = if up then add_words base by else sub_words base by

-- how many bytes a transfer of one register moves
abbrev pub size_of : Datum → ℕ
size_of datum.Word = 4
size_of datum.Half = 2
size_of datum.SignedHalf = 2
size_of datum.Byte = 1
size_of datum.SignedByte = 1

-- a number of so many bits as a word, with copies of its top bit in front
abbrev pub extended_from : ℕ → ℕ → ℕ
extended_from bits number = number + (if is_in number (bits - 1) then 2 ^ 32 - 2 ^ bits else 0)

-- two bytes, the lowest first
abbrev pub half_in : (ℕ → ℕ) → ℕ → ℕ
half_in memory address = memory address + 256 * memory (add_words address 1)

-- what a load gives the register
unfoldable pub loaded : Datum → (ℕ → ℕ) → ℕ → ℕ
loaded datum.Word memory address = word_in memory address
loaded datum.Half memory address = half_in memory address
loaded datum.SignedHalf memory address = extended_from 16 (half_in memory address)
loaded datum.Byte memory address = memory address
loaded datum.SignedByte memory address = extended_from 8 (memory address)

-- the base with the offset
abbrev pub moved_base : (ℕ → ℕ) → Transfer → ℕ
moved_base registers t = moved t.up (value_of registers t.base) t.offset

-- the address of the first byte that is moved
abbrev pub address_of : (ℕ → ℕ) → Transfer → ℕ
address_of registers t = if t.before then moved_base registers t else value_of registers t.base

-- the registers after the transfer, but for one that is loaded
abbrev pub registers_behind : (ℕ → ℕ) → Transfer → ℕ → ℕ
registers_behind registers t =
    replaced (if t.changes then replaced registers t.base (moved_base registers t) else registers) pc (next_address registers)

abbrev pub load_effect : Machine → State → Transfer → ℕ → Outcome
load_effect machine state t address =
    Next (record {
      state = record {
        registers = replaced (registers_behind state.registers t) t.register (loaded t.datum state.memory address);
        flags = state.flags;
        memory = state.memory;
      };
      taken = t.register == pc;
      slow = is_slow_access machine address (size_of t.datum);
    })

abbrev pub store_effect : Machine → State → Transfer → ℕ → Outcome
store_effect machine state t address =
    Next (record {
      state = record {
        registers = registers_behind state.registers t;
        flags = state.flags;
        memory = overwritten state.memory address (take (size_of t.datum) (bytes_of_word (value_of state.registers t.register)));
      };
      taken = false;
      slow = is_slow_access machine address (size_of t.datum);
    })

-- a transfer of one register; it is aligned to its size, and writes no code
unfoldable pub transfer_effect : Machine → Image → State → Transfer → Outcome
transfer_effect machine image state t =
    let address = address_of state.registers t in
    if not (address % size_of t.datum == 0)
    then Stopped Align
    else
    (if t.load
    then load_effect machine state t address
    else (if meets_code image address (size_of t.datum) then Stopped Store else store_effect machine state t address))

-- the registers of a list below some number, ascending
unfoldable pub listed_below : ℕ → ℕ → List ℕ
listed_below end list = filter (is_in list) (range_with_len 0 end)

-- how many bytes a block has: four for each register
unfoldable pub block_size : BlockTransfer → ℕ
block_size t = 4 * length (listed_below 16 t.list)

-- the base moved by the block's size
abbrev pub moved_block_base : (ℕ → ℕ) → BlockTransfer → ℕ
moved_block_base registers t = moved t.up (registers t.base) (block_size t)

-- the lowest address of the block
unfoldable pub block_first : (ℕ → ℕ) → BlockTransfer → ℕ
block_first registers t =
    if t.up
    then (if t.before then add_words (registers t.base) 4 else registers t.base)
    else (if t.before then moved_block_base registers t else add_words (moved_block_base registers t) 4)

-- the registers after the transfer, but for those that are loaded
unfoldable pub registers_behind_block : (ℕ → ℕ) → BlockTransfer → ℕ → ℕ
registers_behind_block registers t =
    replaced (if t.changes then replaced registers t.base (moved_block_base registers t) else registers) pc (next_address registers)

-- registers loaded from an address on, the lowest register from the lowest address
unfoldable pub block_loaded : (ℕ → ℕ) → (ℕ → ℕ) → ℕ → ℕ → ℕ → ℕ
block_loaded registers memory list first =
    λ r. if is_in list r then word_in memory (add_words first (4 * length (listed_below r list))) else registers r

-- the bytes of registers, the lowest register first
unfoldable pub block_bytes : (ℕ → ℕ) → ℕ → List ℕ
block_bytes registers list =
    flat_map (λ r. bytes_of_word (value_of registers r)) (listed_below 16 list)

abbrev pub block_load_effect : Machine → State → BlockTransfer → ℕ → Outcome
block_load_effect machine state t first =
    Next (record {
      state = record {
        registers = block_loaded (registers_behind_block state.registers t) state.memory t.list first;
        flags = state.flags;
        memory = state.memory;
      };
      taken = is_in t.list pc;
      slow = is_slow_access machine first (block_size t);
    })

abbrev pub block_store_effect : Machine → State → BlockTransfer → ℕ → Outcome
block_store_effect machine state t first =
    Next (record {
      state = record {
        registers = registers_behind_block state.registers t;
        flags = state.flags;
        memory = overwritten state.memory first (block_bytes state.registers t.list);
      };
      taken = false;
      slow = is_slow_access machine first (block_size t);
    })

-- a transfer of a block; its base is a multiple of 4, and it writes no code
unfoldable pub block_effect : Machine → Image → State → BlockTransfer → Outcome
block_effect machine image state t =
    let first = block_first state.registers t in
    if not (state.registers t.base % 4 == 0)
    then Stopped Align
    else
    (if t.load
    then block_load_effect machine state t first
    else (if meets_code image first (block_size t) then Stopped Store else block_store_effect machine state t first))
