-- The leading digits are the whole text, or the text is more than digits.
use Rattle.std.proofs.Common.{◌≡◌, Some, None, length, sym, ◌∙◌, ap}
use Rattle.std.proofs.lemmas.Bool.{false≢true}
use Rattle.wx_text.specs.Cursor.{rest, leading_digits, number_at}
use Rattle.wx_text.proofs.FromStart.{from_start, passed}
use Rattle.wx_text.proofs.Decimals.{number_at_digits, value_at, all_lead}
use Rattle.wx_text.proofs.whole.read_digits.Goals as goal

pub returns-in_err-value : goal.returns-in_err-value
returns-in_err-value c =
    let here = from_start c.new-cursor.result c.args.text.now c.new-cursor.ensures.bytes c.new-cursor.ensures.place in
    rw c.from_residual.ensures (λ numeral.
    let some : None ≡ Some _ = c.in_err-value.ensures.value ∙ ap number_at here ∙ number_at_digits c.args.text.now numeral.0 numeral.1 in
    cc)

pub returns-then-at_end : goal.returns-then-at_end
returns-then-at_end c =
    let text = c.args.text.now in
    let here = from_start c.new-cursor.result text c.new-cursor.ensures.bytes c.new-cursor.ensures.place in
    let by = passed c.new-cursor.result c.number.new.self text (length (leading_digits (rest c.new-cursor.result))) c.new-cursor.ensures.bytes c.new-cursor.ensures.place c.in_ok-value.ensures.after in
    let end : c.number.new.self.place ≡ length c.number.new.self.bytes = c.at_end.ensures.0 c.if-at_end.true in
    let size : length (leading_digits text) ≡ length text =
    ap (λ t. length (leading_digits t)) (sym here) ∙ sym by.place ∙ end ∙ ap length by.bytes in
    let is = value_at text c.in_ok-value.value size (c.in_ok-value.ensures.value ∙ ap number_at here) in
    (((is.some, is.digits), is.small), is.same)

pub returns-else-at_end : goal.returns-else-at_end
returns-else-at_end c numeral =
    let text = c.args.text.now in
    let here = from_start c.new-cursor.result text c.new-cursor.ensures.bytes c.new-cursor.ensures.place in
    let by = passed c.new-cursor.result c.number.new.self text (length (leading_digits (rest c.new-cursor.result))) c.new-cursor.ensures.bytes c.new-cursor.ensures.place c.in_ok-value.ensures.after in
    let end : c.number.new.self.place ≡ length c.number.new.self.bytes =
    by.place ∙ ap (λ t. length (leading_digits t)) here ∙ ap length (all_lead text numeral.0.1) ∙ sym (ap length by.bytes) in
    false≢true (sym c.if-at_end.false ∙ c.at_end.ensures.1 end)
