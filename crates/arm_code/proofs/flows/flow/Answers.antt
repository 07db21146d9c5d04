use Rattle.std.proofs.Common.{◌∙◌}
use Rattle.arm_code.proofs.Ways.{flow_is}
use Rattle.arm_code.proofs.flows.flow.Goals as goal

pub returns : goal.returns
returns c = record { value = c.op_flow.ensures ∙ flow_is c.args.insn.now c.args.addr c.requires }
