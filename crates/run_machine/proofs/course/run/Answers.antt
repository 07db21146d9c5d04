use Rattle.std.proofs.Common.{◌≡◌, ◌+◌, Option, IfNone, ap, ◌∙◌, subst, arith}
use Rattle.wx_base.specs.Run.{run_of, advanced}
use Rattle.wx_base.specs.State.{pc}
use Rattle.arm_step.specs.Cpu.{registers_of}
use Rattle.flow_graph.specs.Program.{rules_of}
use Rattle.run_machine.specs.declared.report.End.{End}
use Rattle.start_file.specs.StartState.{start_of}
use Rattle.run_machine.specs.Walk.{IsWalk, Follows}
use Rattle.wx_base.specs.Monitor.{Watch}
use Rattle.run_machine.specs.Judging.{totals_of}
use Rattle.run_machine.proofs.Few.{are_few, few_moves}
use Rattle.run_machine.proofs.Whole.{begins, longer, ordered, reported, over_not_limited}
use Rattle.run_machine.proofs.course.run.Goals as goal

pub loop-executed-init : goal.loop-executed-init
loop-executed-init c = record {
  shows = begins c.args.machine.now c.args.image.now c.args.facts.now c.args.program.now (registers_of c.args.start.cpu.regs pc) (start_of c.args.image.now c.args.start) c.in_ok-walk.walk
      (c.in_ok-walk.ensures.shows c.args.machine.now c.args.image.now c.args.facts.now);
  walk = c.in_ok-walk.ensures.walk c.args.machine.now c.requires.shape;
  steps = c.in_ok-walk.ensures.steps;
}

pub returns-in-Some-clause-report : goal.returns-in-Some-clause-report
returns-in-Some-clause-report c =
    let rules = rules_of c.args.facts.now c.args.program.now in
    let entry = registers_of c.args.start.cpu.regs pc in
    let start = start_of c.args.image.now c.args.start in
    let run = run_of c.args.machine.now c.args.image.now rules entry start c.loop-executed.executed in
    let P : Option End → Type 0 = λ end. Follows c.args.machine.now c.args.image.now c.args.facts.now c.args.program.now (advanced c.args.machine.now c.args.image.now rules run run.end) end c.advance.new.self in
    reported c.args.machine.now c.args.image.now c.args.facts.now c.args.program.now entry start c.loop-executed.executed c.args.n c.in-Some.end c.advance.new.self c.loop-executed-test.true
    (subst P c.in-Some.is (c.in_ok-end.ensures.follows run c.loop-executed.invariant.shows))

pub returns-in-Some-clause-limit : goal.returns-in-Some-clause-limit
returns-in-Some-clause-limit c = λ e.
    let run = run_of c.args.machine.now c.args.image.now (rules_of c.args.facts.now c.args.program.now) (registers_of c.args.start.cpu.regs pc) (start_of c.args.image.now c.args.start) c.loop-executed.executed in
    let P : Option End → Type 0 = λ end. Follows c.args.machine.now c.args.image.now c.args.facts.now c.args.program.now (advanced c.args.machine.now c.args.image.now (rules_of c.args.facts.now c.args.program.now) run run.end) end c.advance.new.self in
    absurd (over_not_limited c.args.machine.now c.args.image.now c.args.facts.now c.args.program.now (advanced c.args.machine.now c.args.image.now (rules_of c.args.facts.now c.args.program.now) run run.end) c.in-Some.end c.advance.new.self
    (subst P c.in-Some.is (c.in_ok-end.ensures.follows run c.loop-executed.invariant.shows)) e)

pub loop-executed-preserved : goal.loop-executed-preserved
loop-executed-preserved c =
    let rules = rules_of c.args.facts.now c.args.program.now in
    let entry = registers_of c.args.start.cpu.regs pc in
    let start = start_of c.args.image.now c.args.start in
    let run = run_of c.args.machine.now c.args.image.now rules entry start c.loop-executed.executed in
    let P : Option End → Type 0 = λ end. Follows c.args.machine.now c.args.image.now c.args.facts.now c.args.program.now (advanced c.args.machine.now c.args.image.now rules run run.end) end c.advance.new.self in
    let W : Option End → Type 0 = λ end. IfNone end (IsWalk c.args.machine.now c.args.program.now c.advance.new.self) in
    let S : Option End → Type 0 = λ end. IfNone end (c.advance.new.self.clock.steps ≡ c.loop-executed.walk.clock.steps + 1) in
    record {
      shows = longer c.args.machine.now c.args.image.now c.args.facts.now c.args.program.now entry start c.loop-executed.executed (c.loop-executed.executed + 1) c.advance.new.self (omega arith)
          (subst P c.in_default.is (c.in_ok-end.ensures.follows run c.loop-executed.invariant.shows));
      walk = subst W c.in_default.is c.in_ok-end.ensures.walk;
      steps = subst S c.in_default.is c.in_ok-end.ensures.steps ∙ ap (λ n. n + 1) c.loop-executed.invariant.steps;
    }

pub advance-requires-clause-totals : goal.advance-requires-clause-totals
advance-requires-clause-totals c =
    let rules = rules_of c.args.facts.now c.args.program.now in
    let entry = registers_of c.args.start.cpu.regs pc in
    let start = start_of c.args.image.now c.args.start in
    let run = run_of c.args.machine.now c.args.image.now rules entry start c.loop-executed.executed in
    are_few run.watch (totals_of c.loop-executed.walk.monitor.totals) c.loop-executed.executed (few_moves c.args.machine.now c.args.image.now rules entry start c.loop-executed.executed)
    (ap (λ (watch : Watch). watch.totals) c.loop-executed.invariant.shows.watch) (omega arith)

pub new-requires : goal.new-requires
new-requires c =
    ordered c.args.image.now c.args.facts.now (registers_of c.args.start.cpu.regs pc) c.args.program.now c.requires.program.rules

pub advance-requires-clause-ordered : goal.advance-requires-clause-ordered
advance-requires-clause-ordered c =
    ordered c.args.image.now c.args.facts.now (registers_of c.args.start.cpu.regs pc) c.args.program.now c.requires.program.rules
