-- A comparison names its first operand, a move its result, and the others both.
use Rattle.std.proofs.Common.{true, false, sym, ◌∙◌}
use Rattle.arm_text.proofs.OperandParts.{alu_by, alu_compare}
use Rattle.arm_text.proofs.reader.split_alu.Goals as goal

pub returns-in_err-rn-clause-complete : goal.returns-in_err-rn-clause-complete
returns-in_err-rn-clause-complete c first to tail below small compare move same =
    absurd (c.in_err-rn.ensures.complete first tail below (alu_compare c.args.op first to tail c.args.text.now (sym c.is_compare.ensures ∙ c.if-is_compare.true) same))

pub returns-then-is_compare-clause-complete : goal.returns-then-is_compare-clause-complete
returns-then-is_compare-clause-complete c first to tail below small compare move same =
    let compares = sym c.is_compare.ensures ∙ c.if-is_compare.true in
    let one = c.in_ok-rn.ensures.complete first tail below (alu_compare c.args.op first to tail c.args.text.now compares same) in
    (one.0, sym (compare compares), one.1)

pub returns-in_err-rd-clause-complete : goal.returns-in_err-rd-clause-complete
returns-in_err-rd-clause-complete c first to tail below small compare move same =
    absurd (c.in_err-rd.ensures.complete to tail small
    (alu_by false true c.args.op first to tail c.args.text.now (sym c.is_compare.ensures ∙ c.if-is_compare.false) (sym c.is_move.ensures ∙ c.if-is_move.true) same))

pub returns-then-is_move-clause-complete : goal.returns-then-is_move-clause-complete
returns-then-is_move-clause-complete c first to tail below small compare move same =
    let moves = sym c.is_move.ensures ∙ c.if-is_move.true in
    let one = c.in_ok-rd.ensures.complete to tail small
    (alu_by false true c.args.op first to tail c.args.text.now (sym c.is_compare.ensures ∙ c.if-is_compare.false) moves same) in
    (sym (move moves), one.0, one.1)

pub returns-in_err-rd-2-clause-complete : goal.returns-in_err-rd-2-clause-complete
returns-in_err-rd-2-clause-complete c first to tail below small compare move same =
    absurd (c.in_err-rd-2.ensures.complete to first tail small below
    (alu_by false false c.args.op first to tail c.args.text.now (sym c.is_compare.ensures ∙ c.if-is_compare.false) (sym c.is_move.ensures ∙ c.if-is_move.false) same))

pub returns-clause-complete : goal.returns-clause-complete
returns-clause-complete c first to tail below small compare move same =
    let both = c.in_ok-rd-2.ensures.complete to first tail small below
    (alu_by false false c.args.op first to tail c.args.text.now (sym c.is_compare.ensures ∙ c.if-is_compare.false) (sym c.is_move.ensures ∙ c.if-is_move.false) same) in
    (both.1, both.0, both.2)
