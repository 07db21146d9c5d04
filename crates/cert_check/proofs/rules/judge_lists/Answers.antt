use Rattle.std.proofs.lemmas.Option.{slice_get_within}
use Rattle.cert_rules.specs.Rules.{HasShape, HasSmallNumbers, HasStart}
use Rattle.cert_check.proofs.BreakLemmas.{denied, numbers_break, shape_breaks, start_breaks}
use Rattle.cert_check.proofs.rules.judge_lists.Goals as goal

pub returns-then-not-shape-clause-refused : goal.returns-then-not-shape-clause-refused
returns-then-not-shape-clause-refused c = λ m.
    let u = c.args.u.now in
    let k = c.args.c.now in
    shape_breaks u m c.args.classes.now k c.broken.result c.broken.ensures
    (denied c.in_ok-shape.shape (HasShape u c.args.classes.now k) c.in_ok-shape.ensures c.if-not-shape.true)

pub returns-then-not-has_small_numbers-clause-refused : goal.returns-then-not-has_small_numbers-clause-refused
returns-then-not-has_small_numbers-clause-refused c = λ m.
    let u = c.args.u.now in
    let k = c.args.c.now in
    numbers_break u m c.args.classes.now k c.broken-then-not-has_small_numbers.result c.broken-then-not-has_small_numbers.ensures (c.in_ok-shape.ensures.0 c.if-not-shape.false)
    (denied c.has_small_numbers.result (HasSmallNumbers k) c.has_small_numbers.ensures c.if-not-has_small_numbers.true)

pub has_start-requires-clause-families : goal.has_start-requires-clause-families
has_start-requires-clause-families c = (c.in_ok-shape.ensures.0 c.if-not-shape.false).families

pub has_start-requires-clause-start : goal.has_start-requires-clause-start
has_start-requires-clause-start c =
    let u = c.args.u.now in
    slice_get_within u.nodes u.start c.requires.unfolding.start.node c.requires.unfolding.start.stands

pub returns-then-not-has_start-clause-refused : goal.returns-then-not-has_start-clause-refused
returns-then-not-has_start-clause-refused c = λ m.
    let u = c.args.u.now in
    let k = c.args.c.now in
    start_breaks u m c.args.classes.now k c.broken-then-not-has_start.result c.broken-then-not-has_start.ensures (c.in_ok-shape.ensures.0 c.if-not-shape.false)
    (c.has_small_numbers.ensures.0 c.if-not-has_small_numbers.false) (denied c.has_start.result (HasStart u k) c.has_start.ensures c.if-not-has_start.true)
