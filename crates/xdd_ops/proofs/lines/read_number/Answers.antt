use Rattle.std.proofs.Common.{[], ◌∷◌, sym, ◌∙◌}
use Rattle.wx_text.specs.Cursor.{rest}
use Rattle.xdd_ops.proofs.ReadLemmas.{passed, zero_text, number_text, failed}
use Rattle.xdd_ops.proofs.NumberLemmas.{zero_again, number_same}
use Rattle.xdd_ops.proofs.lines.read_number.Goals as goal

pub returns-then-expect-clause-text : goal.returns-then-expect-clause-text
returns-then-expect-clause-text c =
    zero_text (rest c.args.cursor.now) (rest c.expect.new.self) (passed c.args.cursor.now c.expect.new.self c.expect.result (48 ∷ []) c.expect.ensures.found c.expect.ensures.after c.if-expect.true)

pub returns-clause-text : goal.returns-clause-text
returns-clause-text c =
    number_text c.args.cursor.now c.expect.new.self c.number.new.self c.number.result (failed c.args.cursor.now c.expect.new.self c.expect.result 1 c.expect.ensures.after c.if-expect.false)
    (sym c.expect.ensures.found ∙ c.if-expect.false) c.number.ensures.value c.number.ensures.after

pub returns-then-expect-clause-again : goal.returns-then-expect-clause-again
returns-then-expect-clause-again c = λ n tail small none e.
    zero_again (rest c.args.cursor.now) (rest c.expect.new.self) tail n (passed c.args.cursor.now c.expect.new.self c.expect.result (48 ∷ []) c.expect.ensures.found c.expect.ensures.after c.if-expect.true) small e

pub returns-clause-again : goal.returns-clause-again
returns-clause-again c = λ n tail small none e.
    number_same c.args.cursor.now c.expect.new.self c.number.new.self c.number.result n tail (failed c.args.cursor.now c.expect.new.self c.expect.result 1 c.expect.ensures.after c.if-expect.false)
    c.number.ensures.value c.number.ensures.after small none e
