-- Registers, flags and memory, and what becomes of them. ARM Architecture Reference Manual; that the machine stops, that a
-- run ends, and which instructions are slow is this project's own.
use Rattle.std.specs.Prelude.{ℕ, ◌^◌, Bool, true, false, ◌==◌, ◌&&◌, nat_lt, if◌then◌else◌, List, length, slice_index}
use Rattle.wx_base.specs.declared.step.Why.{Why}
use Rattle.wx_base.specs.Bits.{word_of_bytes, add_words, sub_words}
use Rattle.wx_base.specs.declared.step.Flags.{Flags}

-- Sixteen registers, of which the last is the address of the instruction to be executed; the flags; and the byte at each
-- address.
pub record State : Type 0 where
  pub registers : ℕ → ℕ
  pub flags : Flags
  pub memory : ℕ → ℕ

-- the numbers of the register that has the address, and of the one that calls leave their way back in
abbrev pub pc : ℕ
pc = 15

abbrev pub lr : ℕ
lr = 14

-- the same values but one
abbrev pub replaced : (ℕ → ℕ) → ℕ → ℕ → ℕ → ℕ
replaced values at value = λ k. if k == at then value else values k

-- the word at an address, the lowest byte first
abbrev pub word_in : (ℕ → ℕ) → ℕ → ℕ
word_in memory address =
    word_of_bytes (memory address) (memory (add_words address 1)) (memory (add_words address 2)) (memory (add_words address 3))

-- whether an address is one of `count` addresses from the first on, modulo 2^32
abbrev pub is_among : ℕ → ℕ → ℕ → Bool
is_among first count address = nat_lt address (2 ^ 32) && nat_lt (sub_words address first) count

-- the same bytes but some from the first address on, modulo 2^32
abbrev pub overwritten : (ℕ → ℕ) → ℕ → List ℕ → ℕ → ℕ
overwritten memory first bytes =
    λ address. if is_among first (length bytes) address then slice_index bytes (sub_words address first) else memory address

-- where the machine goes on: the state, whether the instruction jumped, and whether it was slow
pub record Went : Type 0 where
  pub state : State
  pub taken : Bool
  pub slow : Bool

-- what the machine does with the instruction at pc
pub data Outcome : Type 0 where
  -- it goes on
  Next : Went → Outcome
  -- the instruction was executed and ends the run
  Ended : Outcome
  -- nothing was executed
  Stopped : Why → Outcome

-- What an instruction reads of a register: of pc, its own address plus 8. Where the table has no pc, registers are read as
-- they are.
abbrev pub value_of : (ℕ → ℕ) → ℕ → ℕ
value_of registers register = if register == pc then add_words (registers pc) 8 else registers register

-- the address behind the instruction
abbrev pub next_address : (ℕ → ℕ) → ℕ
next_address registers = add_words (registers pc) 4

-- it goes on behind the instruction, with these registers and flags, and memory stays
abbrev pub goes_on : State → (ℕ → ℕ) → Flags → Bool → Outcome
goes_on state registers flags slow =
    Next (record {
      state = record {
        registers = replaced registers pc (next_address state.registers);
        flags = flags;
        memory = state.memory;
      };
      taken = false;
      slow = slow;
    })

-- It jumps; a call leaves the address behind it in the link register. The whole address goes to pc: one that is no
-- multiple of 4 is found when the machine looks there.
abbrev pub jumps : State → Bool → ℕ → Outcome
jumps state linked target =
    let behind = if linked then replaced state.registers lr (next_address state.registers) else state.registers in
    Next (record {
      state = record { registers = replaced behind pc target; flags = state.flags; memory = state.memory };
      taken = true;
      slow = false;
    })
