use Rattle.std.proofs.Common.{Option, slice_index, ap, sym, ◌∙◌, subst, refl}
use Rattle.wx_base.specs.declared.fact_kind.FactKind.{FactKind}
use Rattle.run_machine.specs.Judging.{watch_of, verdict}
use Rattle.run_machine.specs.declared.look.Looked.TheVariants.{Next}
use Rattle.run_machine.specs.Look.{Looks}
use Rattle.run_machine.proofs.Steps.{went_on}
use Rattle.run_machine.proofs.walk.Walk.advance.Goals as goal

pub returns-else-go_on-clause-follows : goal.returns-else-go_on-clause-follows
returns-else-go_on-clause-follows c = λ run s.
    let judged = c.in_ok-fact.ensures.moved ∙ ap (λ (breach : Option FactKind). verdict breach (watch_of c.args.program.now.functions c.judge.new.self)) c.in_default.is in
    let looked : Looks c.args.machine.now c.args.image.now c.args.self.now.cpu c.look.new.cpu (Next c.in-Next.insn c.in-Next.taken c.in-Next.slow) = subst (λ l. Looks c.args.machine.now c.args.image.now c.args.self.now.cpu c.look.new.cpu l) c.in-Next.is c.in_ok-why.ensures in
    went_on c.args.machine.now c.args.image.now c.args.facts.now c.args.program.now run c.args.self.now c.go_on-in-Next.new.self c.judge.new.self c.look.new.cpu c.in-Next.insn (slice_index c.args.self.now.cpu.regs 15) c.in-Next.taken c.in-Next.slow s
    judged refl looked.0 looked.1.word (sym c.if-go_on.false ∙ c.go_on-in-Next.ensures.left c.args.program.now.functions)
    c.go_on-in-Next.ensures.cpu c.go_on-in-Next.ensures.steps c.go_on-in-Next.ensures.monitor c.go_on-in-Next.ensures.came c.go_on-in-Next.ensures.told
