use Rattle.std.proofs.Common.{◌≡◌}
use Rattle.wx_base.specs.Run.{run_of}
use Rattle.wx_base.specs.State.{pc}
use Rattle.arm_step.specs.Cpu.{registers_of}
use Rattle.flow_graph.specs.Program.{rules_of}
use Rattle.start_file.specs.StartState.{start_of}
use Rattle.run_machine.specs.Walk.{IsWalk, Shows}
use Rattle.run_machine.proofs.course.run.Given as goal

-- what is at hand stands for the run of as many instructions as were executed
abbrev pub invariant-loop-executed : goal.invariant-loop-executed
invariant-loop-executed l = record {
  shows : Shows l.machine l.image l.facts l.program (run_of l.machine l.image (rules_of l.facts l.program) (registers_of l.fn.start.cpu.regs pc) (start_of l.image l.fn.start) l.executed) l.walk;
  walk : IsWalk l.machine l.program l.walk;
  steps : l.walk.clock.steps ≡ l.executed;
}
