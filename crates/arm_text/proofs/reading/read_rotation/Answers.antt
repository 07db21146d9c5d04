-- The rotation stands behind its name.
use Rattle.std.proofs.Common.{◌*◌}
use Rattle.wx_text.specs.Decimal.{decimal}
use Rattle.arm_text.proofs.reading.read_rotation.Goals as goal

pub returns-in_err-behind-clause-complete : goal.returns-in_err-behind-clause-complete
returns-in_err-behind-clause-complete c value rot small below least bits by =
    absurd (c.in_err-behind.ensures (decimal (2 * rot)) (search (by, c.as_slice.ensures)))
