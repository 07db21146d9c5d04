-- What is at hand along a run, and what it stands for: the run of the definitions so far. This project's own.
use Rattle.std.specs.Prelude.{◌≡◌, ℕ, ◌*◌, Bool, true, false, not, List, [], length, Option, Some, None, is_some}
use Rattle.std.specs.Option.{unwrap_or}
use Rattle.wx_base.specs.declared.fact_kind.FactKind.{FactKind}
use Rattle.wx_base.specs.declared.fact_kind.FactKind.TheVariants.{Branch, Call, Return, Loop, Total}
use Rattle.wx_base.specs.declared.facts.Facts.{Facts}
use Rattle.wx_base.specs.declared.image.Image.{Image}
use Rattle.wx_base.specs.declared.machine.Machine.{Machine}
use Rattle.wx_base.specs.Cache.{Lines, line_of, holds_line}
use Rattle.wx_base.specs.Recurrence.{Entry, Done, next, completion, window}
use Rattle.wx_base.specs.Vector.{AreWithin}
use Rattle.wx_base.specs.Run as runs
use Rattle.flow_graph.specs.declared.program.Program.{Program}
use Rattle.flow_graph.specs.Program.{rules_of}
use Rattle.arm_step.specs.Cpu.{state_of}
use Rattle.run_machine.specs.declared.clock.Clock.{Clock}
use Rattle.run_machine.specs.declared.report.End.{End}
use Rattle.run_machine.specs.declared.walk.Walk.{Walk}
use Rattle.run_machine.specs.Judging.{frame_of, callers_of, frames_of, totals_of, watch_of, IsMonitor, decided, leaves_by}
use Rattle.run_machine.specs.Report.{report_of}

-- the most cycles by which an instruction moves the pipeline on
abbrev pub most_cycles : ℕ
most_cycles = 4016

-- the cache is one of the machine, and the times are no greater than the instructions allow
pub record IsClock (machine : Machine) (clock : Clock) : Type 0 where
  pub shape : clock.cache.shape ≡ machine.shape
  pub slots : AreWithin (clock.steps * most_cycles) clock.pipeline.slots

-- the clock stands for instructions with their times, and a cache
pub record Tells (machine : Machine) (past : List Done) (cache : Lines) (clock : Clock) : Type 0 where
  pub cache_is : cache ≡ clock.cache.lists
  pub slots : clock.pipeline.slots ≡ window machine [] past
  pub time : clock.time ≡ completion [] past

-- the instruction of a word at an address, as it is executed behind others
abbrev pub done_now : Machine → List Done → Lines → ℕ → ℕ → Bool → Bool → Done
done_now machine past cache word address taken slow =
    let e : Entry = record {
      word = word;
      miss = not (holds_line machine.shape cache (line_of machine.shape address));
      slow = slow;
      taken = taken;
    } in
    record { entry = e; times = next machine [] past e }

-- the clock is one of the machine, the activations are the program's, and the run goes on
pub record IsWalk (machine : Machine) (program : Program) (walk : Walk) : Type 0 where
  pub clock : IsClock machine walk.clock
  pub activations : IsMonitor program.functions walk.monitor
  pub stays : leaves_by walk.came (frames_of program.functions walk.monitor) ≡ false

-- what is at hand stands for a run that has not ended
pub record Shows (machine : Machine) (image : Image) (facts : Facts) (program : Program) (run : runs.Run) (walk : Walk) : Type 0 where
  pub going : run.end ≡ None
  pub state : run.state ≡ state_of image walk.cpu
  pub told : Tells machine (runs.dones run.executed) run.cache walk.clock
  pub steps : walk.clock.steps ≡ length run.executed
  pub watch : run.watch ≡ watch_of program.functions walk.monitor
  pub came : (to : ℕ) → runs.watch_before (rules_of facts program) run.executed run.watch to
      ≡ decided (rules_of facts program) walk.came (frame_of program.functions walk.monitor.current) (callers_of program.functions walk.monitor) (totals_of walk.monitor.totals) to
  pub last : runs.last_address run ≡ unwrap_or walk.monitor.current.last 0

-- after one more step what is at hand stands for the longer run, or the run has ended and this is its report
abbrev pub Follows : Machine → Image → Facts → Program → runs.Run → Option End → Walk → Type 0
Follows machine image facts program run None walk = Shows machine image facts program run walk
Follows machine image facts program run (Some end) walk =
    (report_of run ≡ record { time = walk.clock.time; steps = walk.clock.steps; end = end }) × (is_some run.end ≡ true)

-- where a broken rule is told: at the address to which the move leads for the counts of a loop, else at the one from which it comes
abbrev pub address_of_breach : FactKind → ℕ → ℕ → ℕ
address_of_breach Loop last to = to
address_of_breach Total last to = to
address_of_breach Branch last to = last
address_of_breach Call last to = last
address_of_breach Return last to = last
