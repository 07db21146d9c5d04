-- A walk through the instructions of a block, which parts at each event. This project's own.
use Rattle.std.specs.Prelude.{◌≡◌, ◌≢◌, ⊤, if◌then◌else◌, map, slice_index, slice_get, ℕ, ◌+◌, ◌*◌, ◌^◌, ◌<◌, ◌≤◌, Bool, false, ◌||◌, List, [], ◌∷◌, length, drop, Option, Some, All}
use Rattle.arm_code.specs.declared.insn.Insn.{Insn}
use Rattle.arm_code.specs.Encoding.{IsValid, word_of}
use Rattle.flow_block.specs.declared.block.Block.{Block}
use Rattle.flow_block.specs.declared.block.Slot.{Slot}
use Rattle.flow_block.specs.declared.block.SlotKind.{SlotKind}
use Rattle.flow_block.specs.Blocks.{most_insns, most_slots}
use Rattle.wx_base.specs.declared.machine.Machine.{Machine}
use Rattle.wx_base.specs.Blocks.{slots_after, end_from}
use Rattle.wx_base.specs.Recurrence.{Entry, next, window}
use Rattle.wx_base.specs.Vector.{AreWithin}
use Rattle.xdd_table.specs.declared.node.Dd.{Dd}
use Rattle.xdd_table.specs.declared.node.Node.{Node}
use Rattle.xdd_table.specs.Diagram.{Combination}
use Rattle.pipe_block.specs.declared.row.Row.{Row}
use Rattle.pipe_block.specs.declared.state.State.{State}
use Rattle.pipe_block.specs.Events.{is_fetch, is_work, misses, Ascends, entries_of}
use Rattle.pipe_block.specs.Rows.{Leads}

-- the row of instructions from a vector: the slots behind them, and the end of the last
abbrev pub row_from : Machine → List ℕ → List Entry → Row
row_from m slots entries = record { number = end_from m slots entries; slots = slots_after m slots entries }

-- The instructions that are left at a combination, where the events from `number` on are left, and those before it have decided
-- whether the first instruction misses and is slow.
abbrev pub rest_of : Combination → ℕ → List Slot → ℕ → List Insn → Bool → Bool → List Entry
rest_of f number events place [] miss slow = []
rest_of f number events place (insn ∷ insns) miss slow =
    record {
      word = word_of insn;
      miss = miss || misses is_fetch f place number events;
      slow = slow || misses is_work f place number events;
      taken = false;
    }
    ∷ rest_of f number events (place + 1) insns false false

-- the row of what is left from a state on
abbrev pub row_of_state : Machine → List Insn → List Slot → State → Combination → Row
row_of_state m insns events s f =
    row_from m s.slots (rest_of f s.decided (drop s.decided events) s.at (drop s.at insns) s.miss s.slow)

-- what a walk goes through: valid instructions and events, few of both
pub record IsCourse (insns : List Insn) (events : List Slot) : Type 0 where
  pub short : length insns ≤ most_insns
  pub valid : All IsValid insns
  pub few : length events ≤ most_slots

-- the word of the instruction at a place, 0 past the end
abbrev pub word_at : List Insn → ℕ → ℕ
word_at insns place = slice_index (map word_of insns) place

-- the first of some events is one of this kind of the instruction at a place
pub record IsNextEvent (place : ℕ) (events : List Slot) (kind : SlotKind) : Type 0 where
  pub event : Slot
  pub rest : List Slot
  pub first : events ≡ event ∷ rest
  pub here : event.at ≡ place
  pub sort : event.kind ≡ kind

-- the first of some events, if there is one, is of another instruction than that at a place
abbrev pub NoneHere : ℕ → List Slot → Type 0
NoneHere place [] = ⊤
NoneHere place (event ∷ events) = event.at ≢ place

-- a state with its next event decided
abbrev pub decided_state : SlotKind → Bool → State → State
decided_state kind missed s = record {
  at = s.at;
  decided = s.decided + 1;
  miss = if is_fetch kind then s.miss || missed else s.miss;
  slow = if is_fetch kind then s.slow else s.slow || missed;
  slots = s.slots;
}

-- the entry of the next instruction where all its events are decided
abbrev pub entry_before : List Insn → State → Entry
entry_before insns s = record { word = word_at insns s.at; miss = s.miss; slow = s.slow; taken = false }

-- the end of the next instruction, and the state behind it
abbrev pub passed_state : Machine → List Insn → State → ℕ × State
passed_state m insns s =
    let e = entry_before insns s in
    let times = next m s.slots [] e in (
      times.xe,
      record {
        at = s.at + 1;
        decided = s.decided;
        miss = false;
        slow = false;
        slots = window m s.slots (record { entry = e; times = times } ∷ []);
      },
    )

-- a bound on the slots before an instruction
abbrev pub bound_at : ℕ → ℕ
bound_at place = 10 ^ 18 + 4016 * place

-- a state before one of the instructions, whose events that are left are not before it
pub record IsState (insns : List Insn) (events : List Slot) (s : State) : Type 0 where
  pub within : s.at < length insns
  pub ascending : Ascends s.at (drop s.decided events)
  pub small : AreWithin (bound_at s.at) s.slots

-- the plan's diagram leads to the rows of the state
abbrev pub LeadsOn : List Node → List Row → Machine → List Insn → List Slot → State → ℕ → Type 0
LeadsOn plan rows m insns events s p =
    Leads plan rows (row_of_state m insns events s) (λ e. e < s.decided) (λ bound. length events ≤ bound) p

-- each kept answer is the diagram that leads to the rows of its state
pub record AreWalked (plan : List Node) (rows : List Row) (m : Machine) (insns : List Insn) (events : List Slot) (kept : State → Option Dd) : Type 0 where
  pub each : (s : State) (d : Dd) → kept s ≡ Some d → LeadsOn plan rows m insns events s d.place

-- A plan leads each combination to the row of a block from a vector, and some combination gives each of the rows.
pub record IsWalk (plan : List Node) (rows : List Row) (m : Machine) (from : List ℕ) (block : Block) (p : ℕ) : Type 0 where
  pub leads : Leads plan rows (λ f. row_from m from (entries_of block f)) (λ e. e < 0) (λ bound. length block.slots ≤ bound) p
  pub given : (i : ℕ) (r : Row) → slice_get rows i ≡ Some r → (f : Combination) × (r ≡ row_from m from (entries_of block f))
