-- The mark of a hexadecimal number stands at the front.
use Rattle.wx_text.specs.Hexadecimal.{hex_word}
use Rattle.arm_code.specs.Flows.{offset_target}
use Rattle.arm_text.proofs.numerals.read_target.Goals as goal

pub returns-in_err-behind-clause-complete : goal.returns-in_err-behind-clause-complete
returns-in_err-behind-clause-complete c words small same =
    absurd (c.in_err-behind.ensures (hex_word (offset_target c.args.addr words)) (search (same, c.as_slice.ensures)))
