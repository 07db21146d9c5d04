-- The events of an instruction behind those of others. This project's own.
use Rattle.std.specs.Prelude.{ℕ, ◌++◌, Bool, false, ◌==◌, List, [], ◌∷◌, if◌then◌else◌, option_to_list}
use Rattle.std.specs.List.{list_any}
use Rattle.wx_base.specs.declared.machine.Machine.{Machine}
use Rattle.wx_base.specs.Cache.{line_of}
use Rattle.wx_base.specs.Instruction.{unit_of}
use Rattle.flow_block.specs.declared.block.Slot.{Slot}
use Rattle.flow_block.specs.declared.block.SlotKind.{SlotKind}
use Rattle.flow_block.specs.declared.block.SlotKind.TheVariants.{Fetch, Multiply, Data}
use Rattle.flow_block.specs.declared.events.Events.{Events}
use Rattle.flow_block.specs.Blocks.{unit_slots}

-- whether the kind of an event is the fetch of a line
abbrev pub is_fetch_of : ℕ → SlotKind → Bool
is_fetch_of line (Fetch other) = other == line
is_fetch_of line Multiply = false
is_fetch_of line Data = false

abbrev pub fetches : ℕ → Slot → Bool
fetches line event = is_fetch_of line event.kind

-- the fetch of a line as an event, unless it is among those before
abbrev pub fetch_after : List Slot → ℕ → ℕ → List Slot
fetch_after events at line =
    if list_any (λ event. fetches line event) events then [] else record { at = at; kind = Fetch line } ∷ []

-- the events of a word at an address, behind those of others
abbrev pub events_after : Machine → List Slot → ℕ → ℕ → ℕ → List Slot
events_after machine events at address word =
    fetch_after events at (line_of machine.shape address) ++ unit_slots at (unit_of word)

-- events as a list
abbrev pub events_of : Events → List Slot
events_of events = option_to_list events.fetch ++ option_to_list events.work
