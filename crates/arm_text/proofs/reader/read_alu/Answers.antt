-- Only the return by a move has pc as its result.
use Rattle.arm_text.specs.Text.{operand_text}
use Rattle.arm_text.proofs.OperandParts.{alu_answer}
use Rattle.arm_text.proofs.reader.read_alu.Goals as goal

pub returns-in_err-rn-clause-complete : goal.returns-in_err-rn-clause-complete
returns-in_err-rn-clause-complete c first to second below small no_pc fits compare move same =
    absurd (c.in_err-rn.ensures.complete first to (operand_text second) below small compare move same)

pub returns-in_err-operand-clause-complete : goal.returns-in_err-operand-clause-complete
returns-in_err-operand-clause-complete c first to second below small no_pc fits compare move same =
    let parts = c.in_ok-rn.ensures.complete first to (operand_text second) below small compare move same in
    let read = c.in_err-operand.ensures.complete second fits parts.2 in
    absurd (cc)

pub returns-clause-complete : goal.returns-clause-complete
returns-clause-complete c first to second below small no_pc fits compare move same =
    let parts = c.in_ok-rn.ensures.complete first to (operand_text second) below small compare move same in
    let read = c.in_ok-operand.ensures.complete second fits parts.2 in
    alu_answer c.args.op c.args.s c.in_ok-rn.rn first c.in_ok-rn.rd to c.in_ok-operand.operand second parts.0 parts.1 read
