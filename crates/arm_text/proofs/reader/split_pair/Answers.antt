-- One register after the other.
use Rattle.std.proofs.Common.{◌++◌}
use Rattle.arm_text.specs.Names.{register_name}
use Rattle.arm_text.specs.Text.{further}
use Rattle.arm_text.proofs.OperandParts.{pair_is}
use Rattle.arm_text.proofs.reader.split_pair.Goals as goal

pub returns-in_err-first-clause-complete : goal.returns-in_err-first-clause-complete
returns-in_err-first-clause-complete c first second tail below small same =
    absurd (c.in_err-first.ensures.complete first (register_name second ++ further tail) below (pair_is first second tail c.args.text.now same))

pub returns-in_err-second-clause-complete : goal.returns-in_err-second-clause-complete
returns-in_err-second-clause-complete c first second tail below small same =
    let one = c.in_ok-first.ensures.complete first (register_name second ++ further tail) below (pair_is first second tail c.args.text.now same) in
    absurd (c.in_err-second.ensures.complete second tail small one.1)

pub returns-clause-complete : goal.returns-clause-complete
returns-clause-complete c first second tail below small same =
    let one = c.in_ok-first.ensures.complete first (register_name second ++ further tail) below (pair_is first second tail c.args.text.now same) in
    let two = c.in_ok-second.ensures.complete second tail small one.1 in
    (one.0, two.0, two.1)
