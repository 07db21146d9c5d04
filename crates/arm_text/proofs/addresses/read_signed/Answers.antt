-- A number begins with a digit and not with a sign.
use Rattle.wx_text.specs.Decimal.{decimal}
use Rattle.arm_text.proofs.AddressParts.{no_sign}
use Rattle.arm_text.proofs.addresses.read_signed.Goals as goal

pub returns-in_err-read_number-clause-complete : goal.returns-in_err-read_number-clause-complete
returns-in_err-read_number-clause-complete c up value small same =
    let parts = c.split_sign-up.ensures.complete up (decimal value) (no_sign value small) same in
    let read = c.in_err-read_number.ensures.complete value small parts.1 in
    cc

pub returns-clause-complete : goal.returns-clause-complete
returns-clause-complete c up value small same =
    let parts = c.split_sign-up.ensures.complete up (decimal value) (no_sign value small) same in
    let read = c.in_ok-read_number.ensures.complete value small parts.1 in
    cc
