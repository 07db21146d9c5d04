use Rattle.std.proofs.Common.{◌≡◌, ℕ, map, ap, ◌∙◌}
use Rattle.wx_base.specs.Bits.{add_words}
use Rattle.flow_graph.specs.Program.{judged_function}
use Rattle.run_machine.specs.Judging.{frame_of, callers_of, totals_of, verdict, watch_of}
use Rattle.wx_base.specs.Monitor.{moved_within, returned}
use Rattle.run_machine.specs.declared.monitor.Monitor.{Monitor}
use Rattle.run_machine.proofs.Moves.{if_ok, popped, caller_is, rest_are, goes_back}
use Rattle.run_machine.proofs.monitor.Monitor.close.Goals as goal

pub returns-then-to-last-clause-moved : goal.returns-then-to-last-clause-moved
returns-then-to-last-clause-moved c =
    let functions = c.args.program.now.functions in
    let judged = map judged_function functions in
    let behind : Monitor = record { current = c.in-Some.caller; callers = c.pop.new.self; totals = c.args.self.now.totals } in
    let totals = totals_of c.args.self.now.totals in
    if_ok c.enter.result
    (λ breach. moved_within judged (frame_of functions c.in-Some.caller) (callers_of functions behind) totals c.args.to ≡ verdict breach (watch_of functions c.enter.new.self))
    (λ breach. returned judged (callers_of functions c.args.self.now) totals c.args.to ≡ verdict breach (watch_of functions c.enter.new.self))
    (λ breach moved.
    goes_back judged (callers_of functions c.args.self.now) (callers_of functions behind) (frame_of functions c.in-Some.caller) totals c.args.to
    (popped functions c.args.self.now.callers.items c.pop.new.self.items c.in-Some.caller c.in-Some.ensures.items)
    (c.if-to-last.true ∙ ap (λ (last : ℕ). add_words last 4) c.last.ensures) ∙ moved)
    c.enter.ensures.moved

pub returns-else-to-last-clause-monitor : goal.returns-else-to-last-clause-monitor
returns-else-to-last-clause-monitor c =
    let functions = c.args.program.now.functions in
    record {
      current = caller_is functions c.args.self.now.callers.items c.pop.new.self.items c.in-Some.caller c.in-Some.ensures.items c.requires.monitor.callers;
      callers = rest_are functions c.args.self.now.callers.items c.pop.new.self.items c.in-Some.caller c.in-Some.ensures.items c.requires.monitor.callers;
    }
