use Rattle.std.proofs.Common.{◌∙◌}
use Rattle.arm_code.proofs.Timing.{writes_are}
use Rattle.arm_code.proofs.columns.writes.Goals as goal

pub returns : goal.returns
returns c = record { value = c.op_writes.ensures ∙ writes_are c.args.insn.now c.requires }
