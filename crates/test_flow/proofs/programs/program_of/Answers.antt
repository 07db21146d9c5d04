use Rattle.std.proofs.Common.{◌≡◌, ℕ, Result, Ok, Err, IfOk}
use Rattle.wx_base.specs.declared.facts.Facts.{Facts}
use Rattle.wx_base.specs.declared.image.Image.{Image}
use Rattle.wx_base.specs.declared.machine.Machine.{Machine}
use Rattle.flow_graph.specs.declared.error.FlowError.{FlowError}
use Rattle.flow_graph.specs.declared.program.Program.{Program}
use Rattle.flow_graph.specs.Refusals.{IsSoundProgram}
use Rattle.flow_ctx.specs.Laws.{IsBuilt, IsBuiltOn}
use Rattle.test_flow.proofs.programs.program_of.Goals as goal

built : (image : Image) (facts : Facts) (start : ℕ) (machine : Machine) (r : Result Program FlowError)
    → IfOk r (IsSoundProgram image facts start machine) → IfOk r IsBuilt
built image facts start machine (Ok program) is = record { image = image; facts = facts; start = start; machine = machine; is = is }
built image facts start machine (Err e) is = tt

built_on : (image : Image) (facts : Facts) (start : ℕ) (machine : Machine) (r : Result Program FlowError)
    → IfOk r (IsSoundProgram image facts start machine) → IfOk r (IsBuiltOn machine)
built_on image facts start machine (Ok program) is = record { image = image; facts = facts; start = start; is = is.is }
built_on image facts start machine (Err e) is = tt

pub returns-clause-built : goal.returns-clause-built
returns-clause-built c = built _ _ _ _ c.build.result c.build.ensures.sound

pub returns-clause-on : goal.returns-clause-on
returns-clause-on c = built_on _ _ _ _ c.build.result c.build.ensures.sound
