-- The mark stands at the front.
use Rattle.wx_text.specs.Decimal.{decimal}
use Rattle.arm_text.proofs.numerals.read_numeral.Goals as goal

pub returns-in_err-behind-clause-complete : goal.returns-in_err-behind-clause-complete
returns-in_err-behind-clause-complete c n small same =
    absurd (c.in_err-behind.ensures (decimal n) (search (same, c.as_slice.ensures)))
