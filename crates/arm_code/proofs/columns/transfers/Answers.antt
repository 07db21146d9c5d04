use Rattle.std.proofs.Common.{◌∙◌, arith}
use Rattle.arm_code.proofs.Timing.{transfers_are, transfers_in_range}
use Rattle.arm_code.proofs.columns.transfers.Goals as goal

pub returns-clause-value : goal.returns-clause-value
returns-clause-value c = c.op_transfers.ensures ∙ transfers_are c.args.insn.now c.requires

pub returns-clause-few : goal.returns-clause-few
returns-clause-few c =
    let range = transfers_in_range c.args.insn.now c.requires in let is = c.op_transfers.ensures in omega arith

pub returns-clause-some : goal.returns-clause-some
returns-clause-some c =
    let range = transfers_in_range c.args.insn.now c.requires in let is = c.op_transfers.ensures in omega arith
