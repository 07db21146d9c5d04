use Rattle.std.proofs.Common.{◌≡◌, ◌∷◌, codes, refl, sym, ◌∙◌, arith}
use Rattle.std.proofs.lemmas.Bool.{false≢true}
use Rattle.xdd_ops.proofs.NumberLemmas.{number_behind, expected_again, some_same, none_some}
use Rattle.std.specs.Fmt.{decimal}
use Rattle.wx_text.specs.Cursor.{rest}
use Rattle.xdd_ops.proofs.ReadLemmas.{passed, three}
use Rattle.xdd_ops.proofs.lines.read_count.Goals as goal
use Rattle.xdd_ops.proofs.lines.read_count.Goals.{then-count-eq0-via-then-count-eq0, then-count-eq0-via-else-count-eq0+then-not-expect-2}

pub returns-clause-text : goal.returns-clause-text
returns-clause-text c =
    three (rest c.args.cursor.now) (rest c.expect.new.self) (rest c.read_number.new.cursor) (rest c.expect-else-count-eq0.new.self) (codes "dd ") (decimal c.in_ok-count.count) (codes "\n")
    (passed c.args.cursor.now c.expect.new.self c.expect.result (codes "dd ") c.expect.ensures.found c.expect.ensures.after c.if-not-expect.false)
    c.in_ok-count.ensures.text
    (passed c.read_number.new.cursor c.expect-else-count-eq0.new.self c.expect-else-count-eq0.result (codes "\n") c.expect-else-count-eq0.ensures.found c.expect-else-count-eq0.ensures.after c.if-not-expect-2.false)

pub returns-in_err-count-clause-again : goal.returns-in_err-count-clause-again
returns-in_err-count-clause-again c = λ n tail some small e.
    let h = number_behind c.args.cursor.now c.expect.new.self c.expect.result (codes "dd ") tail n c.expect.ensures.found c.expect.ensures.after e in
    none_some _ n (c.in_err-count.ensures.again n (10 ∷ tail) small refl h).0

pub returns-then-count-eq0-clause-again : goal.returns-then-count-eq0-clause-again
returns-then-count-eq0-clause-again c = λ n tail some small e.
    let h = number_behind c.args.cursor.now c.expect.new.self c.expect.result (codes "dd ") tail n c.expect.ensures.found c.expect.ensures.after e in
    let k = c.in_ok-count.ensures.again n (10 ∷ tail) small refl h in
    let s : c.in_ok-count.count ≡ n = some_same c.in_ok-count.count n k.0 in
    elim c.then-count-eq0.branch [
      | then-count-eq0-via-then-count-eq0 w ↦ absurd (omega (arith, w.if-count-eq0.true))
      | then-count-eq0-via-else-count-eq0+then-not-expect-2 w ↦
          let x = expected_again c.read_number.new.cursor w.expect-else-count-eq0.new.self w.expect-else-count-eq0.result (codes "\n") tail w.expect-else-count-eq0.ensures.found w.expect-else-count-eq0.ensures.after k.1 in
          absurd (false≢true (sym w.if-not-expect-2.true ∙ x.0))
    ]

pub returns-clause-again : goal.returns-clause-again
returns-clause-again c = λ n tail some small e.
    let h = number_behind c.args.cursor.now c.expect.new.self c.expect.result (codes "dd ") tail n c.expect.ensures.found c.expect.ensures.after e in
    let k = c.in_ok-count.ensures.again n (10 ∷ tail) small refl h in
    (k.0, (expected_again c.read_number.new.cursor c.expect-else-count-eq0.new.self c.expect-else-count-eq0.result (codes "\n") tail c.expect-else-count-eq0.ensures.found c.expect-else-count-eq0.ensures.after k.1).1)
