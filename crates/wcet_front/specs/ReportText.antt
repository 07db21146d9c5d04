-- The text of what a run came to: how long it took, how many instructions were executed, and how it ended. This project's own.
use Rattle.std.specs.Prelude.{ℕ, List, ◌++◌, codes}
use Rattle.wx_text.specs.Decimal.{decimal}
use Rattle.wx_text.specs.Hexadecimal.{hex_word}
use Rattle.wx_base.specs.declared.fact_kind.FactKind.{FactKind}
use Rattle.wx_base.specs.declared.fact_kind.FactKind.TheVariants as fact_kind
use Rattle.wx_base.specs.declared.step.Why.{Why}
use Rattle.wx_base.specs.declared.step.Why.TheVariants as why
use Rattle.run_machine.specs.declared.report.End.{End}
use Rattle.run_machine.specs.declared.report.End.TheVariants as end
use Rattle.run_machine.specs.declared.report.Report.{Report}
use Rattle.wcet_front.specs.RefusalText.{further}

-- why the machine stopped
abbrev pub stop_name : Why → List ℕ
stop_name why.Fetch = codes "fetch"
stop_name why.Word = codes "word"
stop_name why.Align = codes "align"
stop_name why.Store = codes "store"

-- which rule was broken
abbrev pub fact_name : FactKind → List ℕ
fact_name fact_kind.Branch = codes "branch"
fact_name fact_kind.Call = codes "call"
fact_name fact_kind.Return = codes "return"
fact_name fact_kind.Loop = codes "loop"
fact_name fact_kind.Total = codes "total"

-- a run that breaks no rule has a time
abbrev pub timed_text : ℕ → ℕ → List ℕ → List ℕ
timed_text time steps ending =
    codes "time" ++ further (decimal time) ++ codes " steps" ++ further (decimal steps) ++ codes " end" ++ further ending

-- so many cycles, so many instructions, and this end
abbrev pub run_text : ℕ → ℕ → End → List ℕ
run_text time steps end.Ended = timed_text time steps (codes "ended")
run_text time steps end.Limit = timed_text time steps (codes "limit")
run_text time steps (end.Stopped because addr) =
    timed_text time steps (codes "stopped" ++ further (stop_name because) ++ further (hex_word addr))
run_text time steps (end.Breaks fact addr) =
    codes "breaks" ++ further (fact_name fact) ++ further (hex_word addr) ++ further (decimal steps)

abbrev pub report_text : Report → List ℕ
report_text report = run_text report.time report.steps report.end
