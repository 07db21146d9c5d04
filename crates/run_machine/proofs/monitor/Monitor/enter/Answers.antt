use Rattle.std.proofs.Common.{◌≡◌, List, map, Option, subst}
use Rattle.std.specs.Prelude.{IfOk}
use Rattle.wx_base.specs.declared.fact_kind.FactKind.{FactKind}
use Rattle.wx_base.specs.Monitor.{moved_within}
use Rattle.flow_graph.specs.declared.program.Function.{Function}
use Rattle.flow_graph.specs.Program.{judged_function}
use Rattle.run_machine.specs.Judging.{frame_of, callers_of, totals_of, verdict, watch_of}
use Rattle.run_machine.proofs.Moves.{if_ok}
use Rattle.run_machine.proofs.monitor.Monitor.enter.Goals as goal

pub returns-clause-moved : goal.returns-clause-moved
returns-clause-moved c =
    let old = c.args.self.now in
    let P : List Function → Option FactKind → Type 0 = λ functions breach. moved_within (map judged_function functions) (frame_of functions old.current) (callers_of functions old) (totals_of old.totals) c.args.to ≡ verdict breach (watch_of functions (record { current = c.enter.new.self; callers = old.callers; totals = c.enter.new.totals })) in
    let slice = c.as_slice.result.now in
    subst (λ functions. IfOk c.enter.result (P functions)) c.as_slice.ensures
    (if_ok c.enter.result _ (P slice) (λ breach moved. moved (callers_of slice old)) c.enter.ensures.moved)
