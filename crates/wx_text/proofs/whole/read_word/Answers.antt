-- Eight digits are the whole text, or the text is no word.
use Rattle.std.proofs.Common.{◌≡◌, Some, None, length, sym, ◌∙◌, ap}
use Rattle.std.proofs.lemmas.Bool.{false≢true}
use Rattle.wx_text.specs.Cursor.{hex_at}
use Rattle.wx_text.proofs.FromStart.{from_start, passed}
use Rattle.wx_text.proofs.HexDigits.{word_is, word_back, eight_long}
use Rattle.wx_text.proofs.whole.read_word.Goals as goal

pub returns-in_err-word-clause-complete : goal.returns-in_err-word-clause-complete
returns-in_err-word-clause-complete c word small same =
    let here = from_start c.new-cursor.result c.args.text.now c.new-cursor.ensures.bytes c.new-cursor.ensures.place in
    let some : None ≡ Some word = c.in_err-word.ensures.value ∙ ap hex_at (here ∙ same) ∙ word_back word small in
    absurd (cc)

pub returns-then-at_end-clause-sound : goal.returns-then-at_end-clause-sound
returns-then-at_end-clause-sound c =
    let text = c.args.text.now in
    let here = from_start c.new-cursor.result text c.new-cursor.ensures.bytes c.new-cursor.ensures.place in
    let by = passed c.new-cursor.result c.hex.new.self text 8 c.new-cursor.ensures.bytes c.new-cursor.ensures.place c.in_ok-word.ensures.after in
    let end : c.hex.new.self.place ≡ length c.hex.new.self.bytes = c.at_end.ensures.0 c.if-at_end.true in
    word_is text c.in_ok-word.word (sym (ap length by.bytes) ∙ sym end ∙ by.place) (c.in_ok-word.ensures.value ∙ ap hex_at here)

pub returns-then-at_end-clause-complete : goal.returns-then-at_end-clause-complete
returns-then-at_end-clause-complete c word small same =
    let here = from_start c.new-cursor.result c.args.text.now c.new-cursor.ensures.bytes c.new-cursor.ensures.place in
    c.in_ok-word.ensures.value ∙ ap hex_at (here ∙ same) ∙ word_back word small

pub returns-else-at_end-clause-complete : goal.returns-else-at_end-clause-complete
returns-else-at_end-clause-complete c word small same =
    let by = passed c.new-cursor.result c.hex.new.self c.args.text.now 8 c.new-cursor.ensures.bytes c.new-cursor.ensures.place c.in_ok-word.ensures.after in
    let end : c.hex.new.self.place ≡ length c.hex.new.self.bytes =
    by.place ∙ sym (eight_long word) ∙ sym (ap length (by.bytes ∙ same)) in
    absurd (false≢true (sym c.if-at_end.false ∙ c.at_end.ensures.1 end))
