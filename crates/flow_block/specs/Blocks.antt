-- The blocks of a function. This project's own.
use Rattle.std.specs.Prelude.{◌≡◌, ◌<◌, ◌≤◌, ◌⊎◌, ℕ, zero, suc, Bool, true, false, ◌==◌, List, [], ◌∷◌, ◌++◌, map, length, AllPairs, All, Any, Contains, if◌then◌else◌, Some, None}
use Rattle.std.specs.Option.{option_map_or}
use Rattle.wx_base.specs.declared.facts.Facts.{Facts}
use Rattle.wx_base.specs.declared.image.Image.{Image}
use Rattle.wx_base.specs.declared.machine.Machine.{Machine}
use Rattle.wx_base.specs.declared.machine.UnitKind.{UnitKind}
use Rattle.wx_base.specs.declared.machine.UnitKind.TheVariants.{Alu, Mul, Mem}
use Rattle.wx_base.specs.Cache.{line_of}
use Rattle.wx_base.specs.Functions.{code_at, ways_at, callees_at}
use Rattle.wx_base.specs.Instruction.{unit_of}
use Rattle.wx_base.specs.Paths.{Path}
use Rattle.flow_block.specs.declared.block.Block.{Block}
use Rattle.flow_block.specs.declared.block.Slot.{Slot}
use Rattle.flow_block.specs.declared.block.SlotKind.TheVariants.{Fetch, Multiply, Data}
use Rattle.flow_block.specs.Sites.{behind, insn_at, flow_at, jumps_at, is_end, goes_past_at}

-- an address belongs to the function with an entry if ways lead to it from there
abbrev pub IsOfFunction : Image → Facts → ℕ → ℕ → Type 0
IsOfFunction image facts entry address = Path (ways_at image facts) [] entry address

-- where a block begins whatever stands before: at the entry, at a target of a jump, and behind an instruction that may jump,
-- call, return or end the run
pub data IsLeader (image : Image) (facts : Facts) (entry : ℕ) : ℕ → Type 0 where
  first : IsLeader image facts entry entry
  target : {from to : ℕ} → IsOfFunction image facts entry from → Contains (jumps_at image facts from) to → IsLeader image facts entry to
  after_end : {from : ℕ} → IsOfFunction image facts entry from → is_end (flow_at image from) ≡ true
      → IsOfFunction image facts entry (behind from 1) → IsLeader image facts entry (behind from 1)

-- the cache line of the instruction so many places behind a start
abbrev pub line_at : Machine → ℕ → ℕ → ℕ
line_at machine start at = line_of machine.shape (behind start at)

-- whether the instructions before a place of a block have its line
abbrev pub has_line : Machine → ℕ → ℕ → ℕ → Bool
has_line machine start zero line = false
has_line machine start (suc before) line =
    if line_at machine start before == line then true else has_line machine start before line

-- the event of an instruction's unit
abbrev pub unit_slots : ℕ → UnitKind → List Slot
unit_slots at Alu = []
unit_slots at Mul = record { at = at; kind = Multiply } ∷ []
unit_slots at Mem = record { at = at; kind = Data } ∷ []

-- the event of an instruction's fetch, if it is the first of the block in its line
abbrev pub fetch_slots : Machine → ℕ → ℕ → List Slot
fetch_slots machine start at =
    if has_line machine start at (line_at machine start at)
    then []
    else record { at = at; kind = Fetch (line_at machine start at) } ∷ []

-- the events of the instruction at a place of a block: its fetch, and then its unit
abbrev pub slots_at : Image → Machine → ℕ → ℕ → List Slot
slots_at image machine start at =
    fetch_slots machine start at ++ option_map_or (λ word. unit_slots at (unit_of word)) (code_at image (behind start at)) []

-- the events of so many instructions from a start
abbrev pub slots_of : Image → Machine → ℕ → ℕ → List Slot
slots_of image machine start zero = []
slots_of image machine start (suc count) = slots_of image machine start count ++ slots_at image machine start count

-- the greatest number of instructions of a block, and of events
abbrev pub most_insns : ℕ
most_insns = 32

abbrev pub most_slots : ℕ
most_slots = 12

-- The block that begins at a start has so many instructions: no instruction before its last ends it, no other block begins inside,
-- and it goes on until its last instruction ends it, a block begins behind it, or one instruction more would be too many or have too many events.
pub record IsLength (image : Image) (facts : Facts) (machine : Machine) (entry start count : ℕ) : Type 0 where
  pub some : 0 < count
  pub short : count ≤ most_insns
  pub few : length (slots_of image machine start count) ≤ most_slots
  pub unended : (i : ℕ) → suc i < count → is_end (flow_at image (behind start i)) ≡ false
  pub unentered : (i : ℕ) → 0 < i → i < count → IsLeader image facts entry (behind start i) → ⊥
  pub over : (last : ℕ) → count ≡ suc last
      → (is_end (flow_at image (behind start last)) ≡ true) ⊎ (IsLeader image facts entry (behind start count) ⊎ ((count ≡ most_insns) ⊎ (most_slots < length (slots_of image machine start (suc count)))))

-- where a block begins: where one begins whatever stands before, and where an earlier one was cut
pub data Begins (image : Image) (facts : Facts) (machine : Machine) (entry : ℕ) : ℕ → Type 0 where
  leader : {a : ℕ} → IsLeader image facts entry a → Begins image facts machine entry a
  cut : {start last : ℕ} → Begins image facts machine entry start → IsLength image facts machine entry start (suc last)
      → is_end (flow_at image (behind start last)) ≡ false → Begins image facts machine entry (behind start (suc last))

-- the addresses of so many instructions from a start
abbrev pub addresses_from : ℕ → ℕ → List ℕ
addresses_from start zero = []
addresses_from start (suc count) = addresses_from start count ++ behind start count ∷ []

-- the address of the last instruction of a block with so many
abbrev pub last_of_block : ℕ → ℕ → ℕ
last_of_block start zero = start
last_of_block start (suc before) = behind start before

-- a block of the function with an entry
pub record IsBlock (image : Image) (facts : Facts) (machine : Machine) (entry : ℕ) (block : Block) : Type 0 where
  pub begins : Begins image facts machine entry block.start
  pub count : IsLength image facts machine entry block.start (length block.insns)
  pub insns : map (λ a. insn_at image a) (addresses_from block.start (length block.insns)) ≡ map (λ i. Some i) block.insns
  pub slots : block.slots ≡ slots_of image machine block.start (length block.insns)
  pub next : block.next ≡ (if goes_past_at image (last_of_block block.start (length block.insns)) then Some (behind block.start (length block.insns)) else None)
  pub jumps : block.jumps ≡ jumps_at image facts (last_of_block block.start (length block.insns))
  pub calls : block.calls ≡ callees_at image facts (last_of_block block.start (length block.insns))
  pub ret : block.ret ≡ (flow_at image (last_of_block block.start (length block.insns))).ret

-- the blocks of a function, in the order of their addresses
pub record AreBlocks (image : Image) (facts : Facts) (machine : Machine) (entry : ℕ) (blocks : List Block) : Type 0 where
  pub ascending : AllPairs (λ b c. b.start < c.start) blocks
  pub each : All (λ b. IsBlock image facts machine entry b) blocks
  pub whole : (start : ℕ) → Begins image facts machine entry start → Any (λ b. b.start ≡ start) blocks
