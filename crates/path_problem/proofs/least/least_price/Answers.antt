use Rattle.std.proofs.Common.{◌+◌, sym, subst, arith}
use Rattle.std.specs.Prelude.{pos, ◌<ℤ◌, ℤ}
use Rattle.path_graph.specs.declared.graph.TheConstants.{LARGEST}
use Rattle.path_problem.specs.Net.{IsShortGain}
use Rattle.path_problem.proofs.LeastLemmas.{gain_within, gain_positive, above_none, gains_below, next_greater, gains_same, pays_same, enough_same}
use Rattle.path_problem.proofs.least.least_price.Goals as goal

pub slope_of-requires-clause-walk : goal.slope_of-requires-clause-walk
slope_of-requires-clause-walk c =
    gain_within c.args.links.now c.prices.price c.as_slice.result.now (subst (IsShortGain c.args.links.now c.prices.price) (sym c.as_slice.ensures.value) (gains_same c.args.links.now c.prices.price c.args.start.now _ c.in-Gains.walk c.in-Gains.is c.in_ok-settle.ensures))

pub next_price-requires : goal.next_price-requires
next_price-requires c =
    let s = subst (IsShortGain c.args.links.now c.prices.price) (sym c.as_slice.ensures.value) (gains_same c.args.links.now c.prices.price c.args.start.now _ c.in-Gains.walk c.in-Gains.is c.in_ok-settle.ensures) in
    subst (λ (z : ℤ). pos 0 <ℤ z) (sym c.slope_of.ensures.weight) (above_none _ _ (gain_positive c.args.links.now c.prices.price c.as_slice.result.now s))

pub returns-in-None : goal.returns-in-None
returns-in-None c =
    let s = subst (IsShortGain c.args.links.now c.prices.price) (sym c.as_slice.ensures.value) (gains_same c.args.links.now c.prices.price c.args.start.now _ c.in-Gains.walk c.in-Gains.is c.in_ok-settle.ensures) in
    gains_below c.args.links.now c.prices.price (LARGEST + 1) c.as_slice.result.now s (pays_same c.slope_of.ensures.weight c.slope_of.ensures.backs c.in-None.ensures)

pub prices-smaller : goal.prices-smaller
prices-smaller c =
    let s = subst (IsShortGain c.args.links.now c.prices.price) (sym c.as_slice.ensures.value) (gains_same c.args.links.now c.prices.price c.args.start.now _ c.in-Gains.walk c.in-Gains.is c.in_ok-settle.ensures) in
    let low = c.prices.invariant.0 in
    let greater = next_greater c.args.links.now c.prices.price c.in-Some.next c.as_slice.result.now s (enough_same c.in-Some.next c.slope_of.ensures.weight c.slope_of.ensures.backs c.in-Some.ensures.enough) in
    omega arith

pub prices-preserved : goal.prices-preserved
prices-preserved c =
    let s = subst (IsShortGain c.args.links.now c.prices.price) (sym c.as_slice.ensures.value) (gains_same c.args.links.now c.prices.price c.args.start.now _ c.in-Gains.walk c.in-Gains.is c.in_ok-settle.ensures) in (
      c.in-Some.ensures.small,
      gains_below c.args.links.now c.prices.price c.in-Some.next c.as_slice.result.now s (pays_same c.slope_of.ensures.weight c.slope_of.ensures.backs c.in-Some.ensures.below),
    )
