use Rattle.std.proofs.Common.{◌≡◌, sym, subst}
use Rattle.std.specs.Prelude.{IfOk}
use Rattle.flow_graph.specs.Program.{rules_of}
use Rattle.run_machine.specs.declared.came.Came.{Came}
use Rattle.run_machine.specs.Judging.{frame_of, callers_of, decided, totals_of, verdict, watch_of}
use Rattle.run_machine.proofs.monitor.Monitor.judge.Goals as goal

pub returns-in-On-clause-moved : goal.returns-in-On-clause-moved
returns-in-On-clause-moved c =
    let functions = c.args.program.now.functions in
    let old = c.args.self.now in
    let P : Came → Type 0 = λ came. IfOk c.enter.result (λ breach.
    decided (rules_of c.args.facts.now c.args.program.now) came (frame_of functions old.current) (callers_of functions old) (totals_of old.totals) c.args.to ≡ verdict breach (watch_of functions c.enter.new.self)) in
    subst P (sym c.in-On.is) c.enter.ensures.moved
