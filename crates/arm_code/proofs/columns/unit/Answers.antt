use Rattle.std.proofs.Common.{◌∙◌}
use Rattle.arm_code.proofs.Timing.{unit_is}
use Rattle.arm_code.proofs.columns.unit.Goals as goal

pub returns : goal.returns
returns c = record { value = c.op_unit.ensures ∙ unit_is c.args.insn.now c.requires }
