-- The instructions of a block as the recurrence takes them at a combination of the block's events. This project's own.
use Rattle.std.specs.Prelude.{ℕ, ◌+◌, ◌<◌, ◌≤◌, ⊤, Bool, true, false, not, ◌==◌, ◌&&◌, ◌||◌, List, [], ◌∷◌, length, All}
use Rattle.arm_code.specs.declared.insn.Insn.{Insn}
use Rattle.arm_code.specs.Encoding.{IsValid, word_of}
use Rattle.flow_block.specs.declared.block.Block.{Block}
use Rattle.flow_block.specs.declared.block.Slot.{Slot}
use Rattle.flow_block.specs.declared.block.SlotKind.{SlotKind}
use Rattle.flow_block.specs.declared.block.SlotKind.TheVariants.{Fetch, Multiply, Data}
use Rattle.flow_block.specs.Blocks.{most_insns, most_slots}
use Rattle.wx_base.specs.Recurrence.{Entry}
use Rattle.xdd_table.specs.Diagram.{Combination}

-- the event is that of a fetch
abbrev pub is_fetch : SlotKind → Bool
is_fetch (Fetch line) = true
is_fetch Multiply = false
is_fetch Data = false

-- the event is that of a unit
abbrev pub is_work : SlotKind → Bool
is_work kind = not (is_fetch kind)

-- An event of such a kind of the instruction at a place misses at the combination. Events are numbered on from `number`.
abbrev pub misses : (SlotKind → Bool) → Combination → ℕ → ℕ → List Slot → Bool
misses kind f place number [] = false
misses kind f place number (event ∷ events) =
    ((event.at == place) && (kind event.kind && f number)) || misses kind f place (number + 1) events

-- The instructions from a place of a block on at a combination: a fetch misses where its event does, and so an instruction is
-- slow. None jumps.
abbrev pub entries_from : Combination → List Slot → ℕ → List Insn → List Entry
entries_from f events place [] = []
entries_from f events place (insn ∷ insns) =
    record { word = word_of insn; miss = misses is_fetch f place 0 events; slow = misses is_work f place 0 events; taken = false }
    ∷ entries_from f events (place + 1) insns

-- the instructions of a block at a combination
abbrev pub entries_of : Block → Combination → List Entry
entries_of block f = entries_from f block.slots 0 block.insns

-- events stand in the order of their instructions, none before a place
abbrev pub Ascends : ℕ → List Slot → Type 0
Ascends place [] = ⊤
Ascends place (event ∷ events) = (place ≤ event.at) × Ascends event.at events

-- what a block has to be to be timed: from 1 to 32 valid instructions, and at most 12 events in their order
pub record IsTimed (block : Block) : Type 0 where
  pub some : 0 < length block.insns
  pub short : length block.insns ≤ most_insns
  pub valid : All IsValid block.insns
  pub few : length block.slots ≤ most_slots
  pub ascending : Ascends 0 block.slots
