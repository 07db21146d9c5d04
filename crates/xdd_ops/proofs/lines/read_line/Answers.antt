use Rattle.std.proofs.Common.{◌≡◌, ◌++◌, codes}
use Rattle.std.proofs.lemmas.Bool.{false≢true}
use Rattle.std.proofs.lemmas.Option.{none-some}
use Rattle.std.specs.Fmt.{decimal}
use Rattle.wx_text.specs.Cursor.{rest}
use Rattle.xdd_ops.proofs.ReadLemmas.{passed, passed_second, failed, leaf_text, join}
use Rattle.xdd_ops.proofs.LineLemmas.{if_none, no_leaf, branch_of, read_event, read_hit, read_miss}
use Rattle.xdd_ops.proofs.lines.read_line.Goals as goal

pub returns-then-expect-clause-text : goal.returns-then-expect-clause-text
returns-then-expect-clause-text c =
    leaf_text c.read_leaf.result (rest c.args.cursor.now) (rest c.expect.new.self) (rest c.read_leaf.new.cursor)
    (passed c.args.cursor.now c.expect.new.self c.expect.result (codes "leaf ") c.expect.ensures.found c.expect.ensures.after c.if-expect.true) c.read_leaf.ensures.text

pub returns-clause-text : goal.returns-clause-text
returns-clause-text c = rw (c.in_ok-hit.ensures.number, c.in_ok-miss.ensures.number)
    (join (rest c.args.cursor.now) (rest c.expect-2.new.self) (rest c.read_branch.new.cursor) (codes "branch ")
    (decimal c.in_ok-event.event ++ codes " " ++ decimal c.in_ok-event.hit ++ codes " " ++ decimal c.in_ok-event.miss ++ codes "\n")
    (passed_second c.args.cursor.now c.expect.new.self c.expect-2.new.self c.expect-2.result (codes "branch ") (failed c.args.cursor.now c.expect.new.self c.expect.result 5 c.expect.ensures.after c.if-expect.false)
    c.expect-2.ensures.found c.expect-2.ensures.after c.if-not-expect.false)
    c.in_ok-event.ensures.text)

pub returns-then-expect-clause-none : goal.returns-then-expect-clause-none
returns-then-expect-clause-none c = λ few.
    no_leaf c.read_leaf.result c.args.lines.now (rest c.args.cursor.now) (rest c.expect.new.self) (λ tail. rest c.read_leaf.new.cursor ≡ tail)
    (passed c.args.cursor.now c.expect.new.self c.expect.result (codes "leaf ") c.expect.ensures.found c.expect.ensures.after c.if-expect.true) c.read_leaf.ensures.again

pub returns-in_err-event-clause-none : goal.returns-in_err-event-clause-none
returns-in_err-event-clause-none c = λ few.
    if_none _ _ (branch_of c.args.lines.now (rest c.args.cursor.now) (rest c.expect-2.new.self) ⊥ few
    (passed_second c.args.cursor.now c.expect.new.self c.expect-2.new.self c.expect-2.result (codes "branch ") (failed c.args.cursor.now c.expect.new.self c.expect.result 5 c.expect.ensures.after c.if-expect.false)
    c.expect-2.ensures.found c.expect-2.ensures.after c.if-not-expect.false)
    (λ e h m tail line s0 s1 s2 text. none-some (e, h, m) (c.in_err-event.ensures.again e h m tail s0 s1 s2 text).0))

pub returns-in_err-hit-clause-none : goal.returns-in_err-hit-clause-none
returns-in_err-hit-clause-none c = λ few.
    if_none _ _ (branch_of c.args.lines.now (rest c.args.cursor.now) (rest c.expect-2.new.self) ⊥ few
    (passed_second c.args.cursor.now c.expect.new.self c.expect-2.new.self c.expect-2.result (codes "branch ") (failed c.args.cursor.now c.expect.new.self c.expect.result 5 c.expect.ensures.after c.if-expect.false)
    c.expect-2.ensures.found c.expect-2.ensures.after c.if-not-expect.false)
    (λ e h m tail line s0 s1 s2 text.
    let k = (c.in_ok-event.ensures.again e h m tail s0 s1 s2 text).0 in
    let event = read_event c.in_ok-event.event c.in_ok-event.hit c.in_ok-event.miss e h m k in
    let hit = read_hit c.in_ok-event.event c.in_ok-event.hit c.in_ok-event.miss e h m k in
    false≢true (c.in_err-hit.ensures.found (rw hit line.hit_earlier) (rw (hit, event) line.hit_after))))

pub returns-in_err-miss-clause-none : goal.returns-in_err-miss-clause-none
returns-in_err-miss-clause-none c = λ few.
    if_none _ _ (branch_of c.args.lines.now (rest c.args.cursor.now) (rest c.expect-2.new.self) ⊥ few
    (passed_second c.args.cursor.now c.expect.new.self c.expect-2.new.self c.expect-2.result (codes "branch ") (failed c.args.cursor.now c.expect.new.self c.expect.result 5 c.expect.ensures.after c.if-expect.false)
    c.expect-2.ensures.found c.expect-2.ensures.after c.if-not-expect.false)
    (λ e h m tail line s0 s1 s2 text.
    let k = (c.in_ok-event.ensures.again e h m tail s0 s1 s2 text).0 in
    let event = read_event c.in_ok-event.event c.in_ok-event.hit c.in_ok-event.miss e h m k in
    let miss = read_miss c.in_ok-event.event c.in_ok-event.hit c.in_ok-event.miss e h m k in
    false≢true (c.in_err-miss.ensures.found (rw miss line.miss_earlier) (rw (miss, event) line.miss_after))))
