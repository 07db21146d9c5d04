-- A run of instructions taken from a vector, as a block of a program is: its times, the vector behind it, and that vector
-- counted from the earliest next fetch on. This project's own.
use Rattle.std.specs.Prelude.{ℕ, ◌-◌, Bool, if◌then◌else◌, List, [], ◌∷◌, map, max, slice_index, slice_set, reverse}
use Rattle.wx_base.specs.declared.machine.Machine.{Machine}
use Rattle.wx_base.specs.Recurrence.{Entry, Done, past_of, completion, window, f_of}

-- what the pipeline makes of instructions, given in their order, from a vector; the last one comes first
abbrev pub past_from : Machine → List ℕ → List Entry → List Done
past_from m slots entries = past_of m slots (reverse entries)

-- when the last of them is complete
abbrev pub finish_from : Machine → List ℕ → List Entry → ℕ
finish_from m slots entries = completion slots (past_from m slots entries)

-- the vector behind them
abbrev pub slots_after : Machine → List ℕ → List Entry → List ℕ
slots_after m slots entries = window m slots (past_from m slots entries)

-- the end of the last of them; 0 where there is none
abbrev pub end_from : Machine → List ℕ → List Entry → ℕ
end_from m slots entries = slice_index (map (λ i. i.times.xe) (past_from m slots entries)) 0

-- the place of the slot that tells when the last instruction's jump is known
abbrev pub jump_slot : ℕ
jump_slot = 13

-- the same vector with the end of the last instruction where it jumps, and 0 where it does not
abbrev pub with_jump : Bool → ℕ → List ℕ → List ℕ
with_jump taken end slots = slice_set slots jump_slot (if taken then end else 0)

-- the greatest of the slots, 0 where there is none
unfoldable pub greatest_slot : List ℕ → ℕ
greatest_slot [] = 0
greatest_slot (time ∷ slots) = max time (greatest_slot slots)

-- The base of a vector: when the next instruction's fetch begins.
abbrev pub base_of : Machine → List ℕ → ℕ
base_of m slots = f_of m slots []

-- what is counted off: the base, or more where some slot lies past the horizon from it
abbrev pub cost_of : Machine → List ℕ → ℕ
cost_of m slots = max (base_of m slots) (greatest_slot slots - m.horizon)

-- the vector counted from its cost on; what came before counts as 0
abbrev pub rebased : Machine → List ℕ → List ℕ
rebased m slots = map (λ time. time - cost_of m slots) slots

-- what an edge hands on: the cost that was counted off, and the vector from there
pub record Exit : Type 0 where
  pub cost : ℕ
  pub slots : List ℕ

-- the exit of instructions taken from a vector, along an edge by which the last one jumps or does not
abbrev pub exit_from : Machine → List ℕ → List Entry → Bool → Exit
exit_from m slots entries taken =
    let behind = with_jump taken (end_from m slots entries) (slots_after m slots entries) in
    record { cost = cost_of m behind; slots = rebased m behind }
