-- Laws of programs, their blocks and loops, and their runs. This project's own.
use Rattle.std.specs.Prelude.{◌≡◌, ◌≢◌, true, ℕ, ◌+◌, ◌^◌, ◌<◌, ◌≤◌, ◌↔◌, length, All, Some}
use Rattle.wx_base.specs.declared.facts.Facts.{Facts}
use Rattle.wx_base.specs.declared.image.Image.{Image}
use Rattle.wx_base.specs.declared.machine.Machine.{Machine}
use Rattle.wx_base.specs.declared.step.Why.TheVariants.{Fetch, Word}
use Rattle.wx_base.specs.Flow.{flow_of}
use Rattle.wx_base.specs.Functions.{ways_at, IsEntry}
use Rattle.wx_base.specs.Paths.{IsHead, IsMember}
use Rattle.wx_base.specs.Run.{Halted, IsStart, Start, run_of}
use Rattle.flow_block.specs.declared.block.Block.{Block}
use Rattle.flow_block.specs.Blocks.{IsBlock, IsLeader}
use Rattle.flow_block.specs.Sites.{behind, goes_past}
use Rattle.flow_graph.specs.declared.program.Program.{Program}
use Rattle.flow_graph.specs.Program.{rules_of}
use Rattle.flow_graph.specs.Refusals.{IsSoundProgram}
use Rattle.run_laws.specs.Flowing.{GoesBehind}
use Rattle.run_laws.specs.Reached.{LeadsToInstructions}

-- each segment of an image ends within the 2^32 addresses
pub record EndsInMemory (image : Image) : Type 0 where
  pub each : All (λ s. s.first + s.size ≤ 2 ^ 32) image.segments

-- an instruction that a step goes behind is one that a run may go past within its function
abbrev pub StepsGoPast : Type 0
StepsGoPast = (word address to : ℕ) → GoesBehind (flow_of word address) word address to → goes_past word address ≡ true

-- each head of a function begins a block
abbrev pub HeadsBeginBlocks : Type 0
HeadsBeginBlocks = (image : Image) (facts : Facts) (entry head : ℕ) → EndsInMemory image
    → IsHead (ways_at image facts) entry head → IsLeader image facts entry head

-- each instruction of a block of a program is a member of a loop exactly if the first is
abbrev pub BlocksLieInLoops : Type 0
BlocksLieInLoops = (image : Image) (facts : Facts) (start : ℕ) (machine : Machine) (program : Program) (entry head : ℕ) (block : Block) (i : ℕ)
    → EndsInMemory image → IsSoundProgram image facts start machine program → IsEntry image facts start entry
    → IsHead (ways_at image facts) entry head → IsBlock image facts machine entry block → i < length block.insns
    → IsMember (ways_at image facts) entry head block.start ↔ IsMember (ways_at image facts) entry head (behind block.start i)

-- ways and calls of a program lead to instructions alone
abbrev pub ProgramsLeadToInstructions : Type 0
ProgramsLeadToInstructions = (image : Image) (facts : Facts) (start : ℕ) (machine : Machine) (program : Program)
    → IsSoundProgram image facts start machine program → LeadsToInstructions image facts start

-- so no run by its rules stops for want of an instruction
abbrev pub RunsOfProgramsFindInstructions : Type 0
RunsOfProgramsFindInstructions = (image : Image) (facts : Facts) (entry : ℕ) (machine : Machine) (program : Program) (start : Start) (n : ℕ)
    → IsSoundProgram image facts entry machine program → IsStart machine image entry start
    → ((run_of machine image (rules_of facts program) entry start n).end ≢ Some (Halted Fetch))
    × ((run_of machine image (rules_of facts program) entry start n).end ≢ Some (Halted Word))
