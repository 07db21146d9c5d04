-- A block while its instructions are gathered. This project's own.
use Rattle.std.specs.Prelude.{◌≡◌, ◌<◌, ◌≤◌, ◌⊎◌, ℕ, suc, ◌++◌, Bool, true, false, List, [], ◌∷◌, map, length, slice_index_or, Some}
use Rattle.wx_base.specs.declared.machine.Machine.{Machine}
use Rattle.arm_code.specs.declared.insn.Insn.{Insn}
use Rattle.arm_code.specs.Encoding.{word_of}
use Rattle.flow_block.specs.declared.block.Slot.{Slot}
use Rattle.flow_block.specs.Blocks.{IsOfFunction, IsLeader, addresses_from, slots_of, most_insns, most_slots}
use Rattle.flow_block.specs.Code.{Subject, IsInsn}
use Rattle.flow_block.specs.Events.{events_after}
use Rattle.flow_block.specs.Sites.{behind, insn_at, flow_at, is_end}

-- so many instructions from a start, and their events, which a block may have
pub record IsFilled (s : Subject) (machine : Machine) (start count : ℕ) (insns : List Insn) (events : List Slot) : Type 0 where
  pub long : length insns ≡ count
  pub each : (i : ℕ) (d : Insn) → i < count → IsInsn s.image (behind start i) (slice_index_or insns i d)
  pub named : map (λ a. insn_at s.image a) (addresses_from start count) ≡ map (λ i. Some i) insns
  pub events_are : events ≡ slots_of s.image machine start count
  pub few : length events ≤ most_slots
  pub inside : (i : ℕ) → i < count → IsOfFunction s.image s.facts s.entry (behind start i)
  pub unended : (i : ℕ) → suc i < count → is_end (flow_at s.image (behind start i)) ≡ false
  pub unentered : (i : ℕ) → 0 < i → i < count → IsLeader s.image s.facts s.entry (behind start i) → ⊥

-- the block may have the instruction behind these too
pub record IsGrowing (s : Subject) (machine : Machine) (start count : ℕ) (insns : List Insn) (events : List Slot) : Type 0 where
  pub filled : IsFilled s machine start count insns events
  pub goes : (last : ℕ) → count ≡ suc last → is_end (flow_at s.image (behind start last)) ≡ false
  pub free : 0 < count → IsLeader s.image s.facts s.entry (behind start count) → ⊥
  pub next : IsOfFunction s.image s.facts s.entry (behind start count)

-- why a block is over with its last instruction
abbrev pub IsOver : Subject → Machine → ℕ → ℕ → Type 0
IsOver s machine start last =
    (is_end (flow_at s.image (behind start last)) ≡ true)
    ⊎ (IsLeader s.image s.facts s.entry (behind start (suc last)) ⊎ ((suc last ≡ most_insns) ⊎ (most_slots < length (slots_of s.image machine start (suc (suc last))))))

-- these are the instructions of the block that begins at the start
pub record IsGrown (s : Subject) (machine : Machine) (start : ℕ) (insns : List Insn) (events : List Slot) : Type 0 where
  pub last : ℕ
  pub short : suc last ≤ most_insns
  pub filled : IsFilled s machine start (suc last) insns events
  pub over : IsOver s machine start last

-- what a step makes of a block that is growing, by whether it goes on
abbrev pub StepGives : Subject → Machine → ℕ → ℕ → List Insn → List Slot → Bool → Type 0
StepGives s machine start count insns events true = IsGrowing s machine start (suc count) insns events
StepGives s machine start count insns events false = IsGrown s machine start insns events

-- the instruction and its events stand behind the others
pub record IsAdded (machine : Machine) (insns : List Insn) (events : List Slot) (at address : ℕ) (insn : Insn) (insns_after : List Insn) (events_then : List Slot) : Type 0 where
  pub insns_are : insns_after ≡ insns ++ insn ∷ []
  pub events_are : events_then ≡ events ++ events_after machine events at address (word_of insn)
  pub few : length events_then ≤ most_slots

-- nothing is changed, as there would be too many events
pub record IsKept (machine : Machine) (insns : List Insn) (events : List Slot) (at address : ℕ) (insn : Insn) (insns_after : List Insn) (events_then : List Slot) : Type 0 where
  pub insns_are : insns_after ≡ insns
  pub events_are : events_then ≡ events
  pub many : most_slots < length (events ++ events_after machine events at address (word_of insn))
  pub two : length (events_after machine events at address (word_of insn)) ≤ 2

abbrev pub AddGives : Machine → List Insn → List Slot → ℕ → ℕ → Insn → List Insn → List Slot → Bool → Type 0
AddGives machine insns events at address insn insns_after events_then true = IsAdded machine insns events at address insn insns_after events_then
AddGives machine insns events at address insn insns_after events_then false = IsKept machine insns events at address insn insns_after events_then

-- a block ends behind the address
abbrev pub EndsBehind : Subject → ℕ → Type 0
EndsBehind s address = (is_end (flow_at s.image address) ≡ true) ⊎ IsLeader s.image s.facts s.entry (behind address 1)

-- a block goes on behind the address, for all that the instruction there and the next say
pub record GoesBehind (s : Subject) (address : ℕ) : Type 0 where
  pub goes : is_end (flow_at s.image address) ≡ false
  pub free : IsLeader s.image s.facts s.entry (behind address 1) → ⊥
