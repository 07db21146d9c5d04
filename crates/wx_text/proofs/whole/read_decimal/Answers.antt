-- A number's spelling is its digits, of which the first is no zero that could be left out.
use Rattle.std.proofs.Common.{◌≡◌, ◌<◌, length, arith, get_or}
use Rattle.wx_text.proofs.Decimals.{spelled, digits_sound, digits_complete}
use Rattle.wx_text.proofs.whole.read_decimal.Goals as goal
use Rattle.wx_text.proofs.whole.read_decimal.Goals.{else-text-gt1-via-then-text-gt1+else-text-eq48, else-text-gt1-via-else-text-gt1}

pub returns-then-text-eq48-clause-complete : goal.returns-then-text-eq48-clause-complete
returns-then-text-eq48-clause-complete c n small same =
    let is = spelled n c.args.text.now small same in
    absurd (is.lead c.if-text-gt1.true c.if-text-eq48.true)

pub returns-clause-sound : goal.returns-clause-sound
returns-clause-sound c =
    let text = c.args.text.now in
    let lead : 1 < length text → get_or text 0 0 ≡ 48 → ⊥ = λ many zero_first.
    elim c.else-text-gt1.branch [
      | else-text-gt1-via-then-text-gt1+else-text-eq48 w ↦ w.if-text-eq48.false zero_first
      | else-text-gt1-via-else-text-gt1 w ↦ omega arith
    ] in
    digits_sound text _ lead c.read_digits.ensures

pub returns-clause-complete : goal.returns-clause-complete
returns-clause-complete c n small same =
    digits_complete c.args.text.now n _ small same c.read_digits.ensures
