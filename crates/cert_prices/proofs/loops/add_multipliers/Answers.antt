use Rattle.std.proofs.Common.{◌≡◌, length, subst, refl, arith}
use Rattle.std.proofs.lemmas.Option.{slice_get_read}
use Rattle.cert_prices.proofs.MultiplierLemmas.{FirstGrown, all_grown, none_grown, one_grown}
use Rattle.cert_prices.proofs.loops.add_multipliers.Goals as goal

pub loop-number-init : goal.loop-number-init
loop-number-init c = none_grown c.args.loops.now c.args.multipliers.now c.args.prices.now c.requires.room

pub with_multiplier-requires : goal.with_multiplier-requires
with_multiplier-requires c =
    let i = c.loop-number.number in
    let left = c.loop-number.invariant.left i (omega arith) in
    let room = c.requires.room i 0 (omega arith) in
    omega (arith, left, room)

pub loop-number-preserved : goal.loop-number-preserved
loop-number-preserved c =
    let loops = c.args.loops.now in
    let i = c.loop-number.number in
    let l = c.index-loops-number.result in
    one_grown loops c.args.multipliers.now c.args.prices.now c.loop-number.prices _ i l c.with_multiplier.result
    (slice_get_read loops (length loops) i l refl c.loop-number-test.true c.index-loops-number.is) (omega arith)
    c.loop-number.invariant c.with_multiplier.ensures.price c.with_multiplier.ensures.bound refl

pub returns-clause-prices : goal.returns-clause-prices
returns-clause-prices c =
    let done : c.loop-number.number ≡ length c.args.loops.now = omega arith in
    all_grown c.args.loops.now c.args.multipliers.now c.args.prices.now c.loop-number.prices
    (subst (λ n. FirstGrown c.args.loops.now c.args.multipliers.now c.args.prices.now n c.loop-number.prices) done c.loop-number.invariant)
