-- What is reported of a run. This project's own.
use Rattle.std.specs.Prelude.{length, Option, Some, None}
use Rattle.wx_base.specs.Run as runs
use Rattle.wx_base.specs.State.{pc}
use Rattle.run_machine.specs.declared.report.End.{End}
use Rattle.run_machine.specs.declared.report.End.TheVariants as ended
use Rattle.run_machine.specs.declared.report.Report.{Report}
pub use Rattle.start_file.specs.StartState.{start_of}

-- how a run came to its end; one that has not is at the limit of what was allowed
abbrev pub end_of : runs.Run → Option runs.End → End
end_of run None = ended.Limit
end_of run (Some runs.Finished) = ended.Ended
end_of run (Some (runs.Halted why)) = ended.Stopped why (run.state.registers pc)
end_of run (Some (runs.Broken fact)) = ended.Breaks fact (runs.breach_address run fact)

-- the report of a run
abbrev pub report_of : runs.Run → Report
report_of run = record { time = runs.time_of run; steps = length run.executed; end = end_of run run.end }
