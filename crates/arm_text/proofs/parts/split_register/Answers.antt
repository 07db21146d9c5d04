-- No register's name has a comma.
use Rattle.arm_text.specs.Names.{register_name}
use Rattle.arm_text.proofs.Distinct.{register_without}
use Rattle.arm_text.proofs.parts.split_register.Goals as goal

pub returns-in_err-read_register-clause-complete : goal.returns-in_err-read_register-clause-complete
returns-in_err-read_register-clause-complete c register tail below same =
    let parts = c.in_ok-operand.ensures.complete (register_name register) tail (register_without register below) same in
    let read = c.in_err-read_register.ensures.complete register below parts.0 in
    cc

pub returns-clause-complete : goal.returns-clause-complete
returns-clause-complete c register tail below same =
    let parts = c.in_ok-operand.ensures.complete (register_name register) tail (register_without register below) same in
    let read = c.in_ok-read_register.ensures.complete register below parts.0 in
    (cc, parts.1)
