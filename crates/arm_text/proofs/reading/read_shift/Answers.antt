-- Shifts right by 32 places have an amount of 0.
use Rattle.std.proofs.Common.{◌∙◌}
use Rattle.arm_text.proofs.Shapes.{lsr_32, asr_32}
use Rattle.arm_text.proofs.reading.read_shift.Goals as goal

pub returns-then-is-clause-complete : goal.returns-then-is-clause-complete
returns-then-is-clause-complete c kind amount below small same =
    lsr_32 kind amount c.args.text.now below small (c.is.ensures.0 c.if-is.true ∙ c.as_slice.ensures) same

pub returns-then-is-2-clause-complete : goal.returns-then-is-2-clause-complete
returns-then-is-2-clause-complete c kind amount below small same =
    asr_32 kind amount c.args.text.now below small (c.is-2.ensures.0 c.if-is-2.true ∙ c.as_slice-2.ensures) same
