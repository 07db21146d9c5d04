-- What is said of programs, and of the rules that runs are judged by. This project's own.
use Rattle.std.specs.Prelude.{◌≡◌, ℕ}
use Rattle.wx_base.specs.declared.facts.Facts.{Facts}
use Rattle.wx_base.specs.declared.image.Image.{Image}
use Rattle.wx_base.specs.declared.machine.Machine.{Machine}
use Rattle.wx_base.specs.Functions.{AreRules}
use Rattle.wx_base.specs.Monitor.{Rules}
use Rattle.flow_graph.specs.declared.program.Program.{Program}
use Rattle.flow_graph.specs.Program.{IsProgram}

-- an image, its facts and a start have one set of rules
abbrev pub RulesAreOne : Type 0
RulesAreOne = (image : Image) (facts : Facts) (start : ℕ) (r s : Rules) → AreRules image facts start r → AreRules image facts start s
    → r ≡ s

-- an image with facts, from a start and on a machine, has at most one program: functions, blocks and loops
abbrev pub ProgramIsOne : Type 0
ProgramIsOne = (image : Image) (facts : Facts) (start : ℕ) (machine : Machine) (p q : Program) → IsProgram image facts start machine p
    → IsProgram image facts start machine q → p ≡ q
