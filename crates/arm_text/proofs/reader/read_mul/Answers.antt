-- What is added stands last, if anything is.
use Rattle.std.proofs.Common.{sym}
use Rattle.arm_text.specs.Names.{register_name}
use Rattle.arm_text.proofs.Shapes.{some_is}
use Rattle.arm_text.proofs.OperandParts.{mul_rest, mul_is, mul_added, mul_alone, mul_answer}
use Rattle.arm_text.proofs.reader.read_mul.Goals as goal

pub returns-in_err-rd-clause-complete : goal.returns-in_err-rd-clause-complete
returns-in_err-rd-clause-complete c to added second first small fits others below none same =
    absurd (c.in_err-rd.ensures.complete to first (mul_rest c.args.accumulate added second) small below (mul_is c.args.accumulate to added second first c.args.text.now same))

pub returns-in_err-rs-clause-complete : goal.returns-in_err-rs-clause-complete
returns-in_err-rs-clause-complete c to added second first small fits others below none same =
    let parts = c.in_ok-rd.ensures.complete to first (mul_rest c.args.accumulate added second) small below (mul_is c.args.accumulate to added second first c.args.text.now same) in
    let last = mul_added c.args.accumulate added second c.in_ok-rd.rest.now c.if-accumulate.true parts.2 in
    absurd (c.in_err-rs.ensures.complete second (register_name added) others last)

pub returns-in_err-read_register-clause-complete : goal.returns-in_err-read_register-clause-complete
returns-in_err-read_register-clause-complete c to added second first small fits others below none same =
    let parts = c.in_ok-rd.ensures.complete to first (mul_rest c.args.accumulate added second) small below (mul_is c.args.accumulate to added second first c.args.text.now same) in
    let last = mul_added c.args.accumulate added second c.in_ok-rd.rest.now c.if-accumulate.true parts.2 in
    let two = c.in_ok-rs.ensures.complete second (register_name added) others last in
    let read = c.in_err-read_register.ensures.complete added fits two.1 in
    absurd (cc)

pub returns-in_err-read_register-2-clause-complete : goal.returns-in_err-read_register-2-clause-complete
returns-in_err-read_register-2-clause-complete c to added second first small fits others below none same =
    let parts = c.in_ok-rd.ensures.complete to first (mul_rest c.args.accumulate added second) small below (mul_is c.args.accumulate to added second first c.args.text.now same) in
    let last = mul_alone c.args.accumulate added second c.in_ok-rd.rest.now c.if-accumulate.false parts.2 in
    let read = c.in_err-read_register-2.ensures.complete second others last in
    absurd (cc)

pub returns-in_ok-read_register-clause-complete : goal.returns-in_ok-read_register-clause-complete
returns-in_ok-read_register-clause-complete c to added second first small fits others below none same =
    let parts = c.in_ok-rd.ensures.complete to first (mul_rest c.args.accumulate added second) small below (mul_is c.args.accumulate to added second first c.args.text.now same) in
    let last = mul_added c.args.accumulate added second c.in_ok-rd.rest.now c.if-accumulate.true parts.2 in
    let two = c.in_ok-rs.ensures.complete second (register_name added) others last in
    let read = some_is (c.in_ok-read_register.ensures.complete added fits two.1) in
    mul_answer c.args.accumulate c.args.s c.in_ok-rd.rd to c.in_ok-read_register.field-0 added c.in_ok-rs.rs second c.in_ok-rd.rm first parts.0 read two.0 parts.1

pub returns-in_ok-read_register-2-clause-complete : goal.returns-in_ok-read_register-2-clause-complete
returns-in_ok-read_register-2-clause-complete c to added second first small fits others below none same =
    let parts = c.in_ok-rd.ensures.complete to first (mul_rest c.args.accumulate added second) small below (mul_is c.args.accumulate to added second first c.args.text.now same) in
    let last = mul_alone c.args.accumulate added second c.in_ok-rd.rest.now c.if-accumulate.false parts.2 in
    let read = some_is (c.in_ok-read_register-2.ensures.complete second others last) in
    mul_answer c.args.accumulate c.args.s c.in_ok-rd.rd to 0 added c.in_ok-read_register-2.field-0 second c.in_ok-rd.rm first parts.0 (sym (none c.if-accumulate.false)) read parts.1
