-- Four registers.
use Rattle.std.proofs.Common.{◌++◌}
use Rattle.arm_text.specs.Names.{register_name}
use Rattle.arm_text.specs.Text.{further}
use Rattle.arm_text.proofs.Shapes.{some_is}
use Rattle.arm_text.proofs.OperandParts.{mul_long_is, mul_long_answer}
use Rattle.arm_text.proofs.reader.read_mul_long.Goals as goal

pub returns-in_err-lo-clause-complete : goal.returns-in_err-lo-clause-complete
returns-in_err-lo-clause-complete c high low second first high_fits low_fits second_fits first_fits same =
    absurd (c.in_err-lo.ensures.complete low high (register_name first ++ further (register_name second)) low_fits high_fits (mul_long_is high low second first c.args.text.now same))

pub returns-in_err-rm-clause-complete : goal.returns-in_err-rm-clause-complete
returns-in_err-rm-clause-complete c high low second first high_fits low_fits second_fits first_fits same =
    let one = c.in_ok-lo.ensures.complete low high (register_name first ++ further (register_name second)) low_fits high_fits (mul_long_is high low second first c.args.text.now same) in
    absurd (c.in_err-rm.ensures.complete first (register_name second) first_fits one.2)

pub returns-in_err-rs-clause-complete : goal.returns-in_err-rs-clause-complete
returns-in_err-rs-clause-complete c high low second first high_fits low_fits second_fits first_fits same =
    let one = c.in_ok-lo.ensures.complete low high (register_name first ++ further (register_name second)) low_fits high_fits (mul_long_is high low second first c.args.text.now same) in
    let two = c.in_ok-rm.ensures.complete first (register_name second) first_fits one.2 in
    let read = c.in_err-rs.ensures.complete second second_fits two.1 in
    absurd (cc)

pub returns-clause-complete : goal.returns-clause-complete
returns-clause-complete c high low second first high_fits low_fits second_fits first_fits same =
    let one = c.in_ok-lo.ensures.complete low high (register_name first ++ further (register_name second)) low_fits high_fits (mul_long_is high low second first c.args.text.now same) in
    let two = c.in_ok-rm.ensures.complete first (register_name second) first_fits one.2 in
    let read = some_is (c.in_ok-rs.ensures.complete second second_fits two.1) in
    mul_long_answer c.args.signed c.args.accumulate c.args.s c.in_ok-lo.hi high c.in_ok-lo.lo low c.in_ok-rs.rs second c.in_ok-rm.rm first one.1 one.0 read two.0
