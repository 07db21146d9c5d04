use Rattle.std.proofs.Common.{ap, sym, ◌∙◌}
use Rattle.arm_code.specs.Encoding.{decoded}
use Rattle.arm_step.specs.Cpu.{state_of}
use Rattle.arm_step.specs.Effects.{outcome_of}
use Rattle.run_machine.proofs.Steps.{no_end, no_next}
use Rattle.run_machine.proofs.look.look.Goals as goal

pub unreachable-requires : goal.unreachable-requires
unreachable-requires c =
    no_end c.args.machine.now c.args.image.now (state_of c.args.image.now c.args.cpu.now)
    (ap decoded (sym c.word_at-word.ensures) ∙ sym c.decode.ensures.exact ∙ c.in-None.is)
    (ap (outcome_of c.args.image.now c.step.new.cpu) (sym c.in-Ended.is) ∙ c.in_ok-why.ensures.outcome)

pub unreachable-requires-in-None-decode : goal.unreachable-requires-in-None-decode
unreachable-requires-in-None-decode c =
    no_next c.args.machine.now c.args.image.now (state_of c.args.image.now c.args.cpu.now) _
    (ap decoded (sym c.word_at-word.ensures) ∙ sym c.decode-in-Next.ensures.exact ∙ c.in-None-decode.is)
    (ap (outcome_of c.args.image.now c.step.new.cpu) (sym c.in-Next.is) ∙ c.in_ok-why.ensures.outcome)
