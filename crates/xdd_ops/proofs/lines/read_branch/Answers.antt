use Rattle.std.proofs.Common.{◌≡◌, ◌<◌, ◌^◌, ◌∷◌, ◌++◌, codes, refl, sym, ◌∙◌, arith}
use Rattle.std.proofs.lemmas.Bool.{false≢true}
use Rattle.xdd_ops.proofs.NumberLemmas.{regroup, expected_again, some_same, none_some}
use Rattle.std.specs.Fmt.{decimal}
use Rattle.wx_text.specs.Cursor.{rest}
use Rattle.xdd_ops.proofs.ReadLemmas.{passed, six, tried}
use Rattle.xdd_ops.proofs.lines.read_branch.Goals as goal

pub returns-clause-text : goal.returns-clause-text
returns-clause-text c =
    let e : c.in_ok-event.event ≡ c.in_ok-read_number.field-0 = tried (c.in_ok-read_number.field-0 < 2 ^ 32) c.try_from.result c.in_ok-read_number.field-0 c.in_ok-event.event c.try_from.ensures c.in_ok-event.ensures.value in
    rw e (six (rest c.args.cursor.now) (rest c.read_number.new.cursor) (rest c.expect.new.self) (rest c.read_number-2.new.cursor) (rest c.expect-2.new.self) (rest c.read_number-3.new.cursor) (rest c.expect-3.new.self)
    (decimal c.in_ok-read_number.field-0) (codes " ") (decimal c.in_ok-hit.hit) (codes " ") (decimal c.in_ok-miss.miss) (codes "\n")
    c.in_ok-read_number.ensures.text
    (passed c.read_number.new.cursor c.expect.new.self c.expect.result (codes " ") c.expect.ensures.found c.expect.ensures.after c.if-not-expect.false)
    c.in_ok-hit.ensures.text
    (passed c.read_number-2.new.cursor c.expect-2.new.self c.expect-2.result (codes " ") c.expect-2.ensures.found c.expect-2.ensures.after c.if-not-expect-2.false)
    c.in_ok-miss.ensures.text
    (passed c.read_number-3.new.cursor c.expect-3.new.self c.expect-3.result (codes "\n") c.expect-3.ensures.found c.expect-3.ensures.after c.if-not-expect-3.false))

pub returns-in_err-hit-clause-again : goal.returns-in_err-hit-clause-again
returns-in_err-hit-clause-again c = λ e h m tail small0 small1 small2 text.
    let e0 = text ∙ regroup (decimal e) (decimal h) (decimal m) tail 32 32 10 in
    let k0 = c.in_ok-read_number.ensures.again e (32 ∷ (decimal h ++ 32 ∷ (decimal m ++ 10 ∷ tail))) (omega arith) refl e0 in
    let x0 = expected_again c.read_number.new.cursor c.expect.new.self c.expect.result (codes " ") (decimal h ++ 32 ∷ (decimal m ++ 10 ∷ tail)) c.expect.ensures.found c.expect.ensures.after k0.1 in
    let k1 = c.in_err-hit.ensures.again h (32 ∷ (decimal m ++ 10 ∷ tail)) small1 refl x0.1 in
    none_some _ h k1.0

pub returns-then-not-expect-2-clause-again : goal.returns-then-not-expect-2-clause-again
returns-then-not-expect-2-clause-again c = λ e h m tail small0 small1 small2 text.
    let e0 = text ∙ regroup (decimal e) (decimal h) (decimal m) tail 32 32 10 in
    let k0 = c.in_ok-read_number.ensures.again e (32 ∷ (decimal h ++ 32 ∷ (decimal m ++ 10 ∷ tail))) (omega arith) refl e0 in
    let x0 = expected_again c.read_number.new.cursor c.expect.new.self c.expect.result (codes " ") (decimal h ++ 32 ∷ (decimal m ++ 10 ∷ tail)) c.expect.ensures.found c.expect.ensures.after k0.1 in
    let k1 = c.in_ok-hit.ensures.again h (32 ∷ (decimal m ++ 10 ∷ tail)) small1 refl x0.1 in
    let x1 = expected_again c.read_number-2.new.cursor c.expect-2.new.self c.expect-2.result (codes " ") (decimal m ++ 10 ∷ tail) c.expect-2.ensures.found c.expect-2.ensures.after k1.1 in
    absurd (false≢true (sym c.if-not-expect-2.true ∙ x1.0))

pub returns-in_err-miss-clause-again : goal.returns-in_err-miss-clause-again
returns-in_err-miss-clause-again c = λ e h m tail small0 small1 small2 text.
    let e0 = text ∙ regroup (decimal e) (decimal h) (decimal m) tail 32 32 10 in
    let k0 = c.in_ok-read_number.ensures.again e (32 ∷ (decimal h ++ 32 ∷ (decimal m ++ 10 ∷ tail))) (omega arith) refl e0 in
    let x0 = expected_again c.read_number.new.cursor c.expect.new.self c.expect.result (codes " ") (decimal h ++ 32 ∷ (decimal m ++ 10 ∷ tail)) c.expect.ensures.found c.expect.ensures.after k0.1 in
    let k1 = c.in_ok-hit.ensures.again h (32 ∷ (decimal m ++ 10 ∷ tail)) small1 refl x0.1 in
    let x1 = expected_again c.read_number-2.new.cursor c.expect-2.new.self c.expect-2.result (codes " ") (decimal m ++ 10 ∷ tail) c.expect-2.ensures.found c.expect-2.ensures.after k1.1 in
    let k2 = c.in_err-miss.ensures.again m (10 ∷ tail) small2 refl x1.1 in
    none_some _ m k2.0

pub returns-then-not-expect-3-clause-again : goal.returns-then-not-expect-3-clause-again
returns-then-not-expect-3-clause-again c = λ e h m tail small0 small1 small2 text.
    let e0 = text ∙ regroup (decimal e) (decimal h) (decimal m) tail 32 32 10 in
    let k0 = c.in_ok-read_number.ensures.again e (32 ∷ (decimal h ++ 32 ∷ (decimal m ++ 10 ∷ tail))) (omega arith) refl e0 in
    let x0 = expected_again c.read_number.new.cursor c.expect.new.self c.expect.result (codes " ") (decimal h ++ 32 ∷ (decimal m ++ 10 ∷ tail)) c.expect.ensures.found c.expect.ensures.after k0.1 in
    let k1 = c.in_ok-hit.ensures.again h (32 ∷ (decimal m ++ 10 ∷ tail)) small1 refl x0.1 in
    let x1 = expected_again c.read_number-2.new.cursor c.expect-2.new.self c.expect-2.result (codes " ") (decimal m ++ 10 ∷ tail) c.expect-2.ensures.found c.expect-2.ensures.after k1.1 in
    let k2 = c.in_ok-miss.ensures.again m (10 ∷ tail) small2 refl x1.1 in
    let x2 = expected_again c.read_number-3.new.cursor c.expect-3.new.self c.expect-3.result (codes "\n") tail c.expect-3.ensures.found c.expect-3.ensures.after k2.1 in
    absurd (false≢true (sym c.if-not-expect-3.true ∙ x2.0))

pub returns-clause-again : goal.returns-clause-again
returns-clause-again c = λ e h m tail small0 small1 small2 text.
    let e0 = text ∙ regroup (decimal e) (decimal h) (decimal m) tail 32 32 10 in
    let k0 = c.in_ok-read_number.ensures.again e (32 ∷ (decimal h ++ 32 ∷ (decimal m ++ 10 ∷ tail))) (omega arith) refl e0 in
    let x0 = expected_again c.read_number.new.cursor c.expect.new.self c.expect.result (codes " ") (decimal h ++ 32 ∷ (decimal m ++ 10 ∷ tail)) c.expect.ensures.found c.expect.ensures.after k0.1 in
    let k1 = c.in_ok-hit.ensures.again h (32 ∷ (decimal m ++ 10 ∷ tail)) small1 refl x0.1 in
    let x1 = expected_again c.read_number-2.new.cursor c.expect-2.new.self c.expect-2.result (codes " ") (decimal m ++ 10 ∷ tail) c.expect-2.ensures.found c.expect-2.ensures.after k1.1 in
    let k2 = c.in_ok-miss.ensures.again m (10 ∷ tail) small2 refl x1.1 in
    let x2 = expected_again c.read_number-3.new.cursor c.expect-3.new.self c.expect-3.result (codes "\n") tail c.expect-3.ensures.found c.expect-3.ensures.after k2.1 in
    let t : c.in_ok-event.event ≡ c.in_ok-read_number.field-0 = tried (c.in_ok-read_number.field-0 < 2 ^ 32) c.try_from.result c.in_ok-read_number.field-0 c.in_ok-event.event c.try_from.ensures c.in_ok-event.ensures.value in
    let f = some_same c.in_ok-read_number.field-0 e k0.0 in
    let g = some_same c.in_ok-hit.hit h k1.0 in
    let i = some_same c.in_ok-miss.miss m k2.0 in
    (rw (t, f, g, i) refl, x2.1)
