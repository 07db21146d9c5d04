-- The functions of an image with their blocks and loops, and the rules that moves of its runs are judged by.
use Rattle.std.specs.Prelude.{◌≡◌, ℕ, map, length, sum, All}
use Rattle.wx_base.specs.declared.facts.Facts.{Facts}
use Rattle.wx_base.specs.declared.image.Image.{Image}
use Rattle.wx_base.specs.declared.machine.Machine.{Machine}
use Rattle.wx_base.specs.Functions.{AreRules}
use Rattle.wx_base.specs.Monitor as monitor
use Rattle.flow_graph.specs.declared.program.Function.{Function}
use Rattle.flow_graph.specs.declared.program.LoopInfo.{LoopInfo}
use Rattle.flow_graph.specs.declared.program.Program.{Program}
use Rattle.flow_block.specs.Blocks.{AreBlocks}

-- a loop, as moves are judged by it
abbrev pub bounded_loop : LoopInfo → monitor.BoundedLoop
bounded_loop l = record { head = l.head; members = l.members; maxcount = l.maxcount; totalcount = l.totalcount }

-- a function, as moves are judged by it
abbrev pub judged_function : Function → monitor.Function
judged_function f = record { entry = f.entry; loops = map bounded_loop f.loops }

-- what the runs of a program are judged by
abbrev pub rules_of : Facts → Program → monitor.Rules
rules_of facts program =
    record { branches = facts.branches; calls = facts.calls; functions = map judged_function program.functions }

-- the program of an image with facts, whose runs start at an entry: its functions and loops are those by which runs are judged
pub record IsProgram (image : Image) (facts : Facts) (entry : ℕ) (machine : Machine) (program : Program) : Type 0 where
  pub start : program.start ≡ entry
  pub rules : AreRules image facts entry (rules_of facts program)
  pub blocks : All (λ f. AreBlocks image facts machine f.entry f.blocks) program.functions

-- the number of blocks over all functions
abbrev pub block_count : Program → ℕ
block_count program = sum (map (λ f. length f.blocks) program.functions)
