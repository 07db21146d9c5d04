use Rattle.std.proofs.Common.{◌<◌, ◌^◌, ◌≡◌, ℕ, List, All, length, subst, sym, ap, arith}
use Rattle.std.proofs.lemmas.List.Elements.{All-nil, All-push}
use Rattle.cert_prices.proofs.BackLemmas.{IsBackPrice, all_backs, back_is}
use Rattle.cert_prices.proofs.GrownLemmas.{FirstOf, none_of, one_of}
use Rattle.cert_prices.proofs.ReadLemmas.{element}
use Rattle.cert_prices.proofs.edges.back_prices.Goals as goal

pub loop-number-init : goal.loop-number-init
loop-number-init c =
    let cert = c.args.c.now in
    let u = c.args.u.now in
    record {
      prices = subst (FirstOf (IsBackPrice cert u) u.loops 0) (sym c.new-prices.ensures.items) (none_of (IsBackPrice cert u) u.loops);
      bound = subst (λ (ps : List ℕ). All (λ price. price < 2 ^ 126) ps) (sym c.new-prices.ensures.items) (All-nil (λ price. price < 2 ^ 126));
    }

pub loop-number-preserved : goal.loop-number-preserved
loop-number-preserved c =
    let cert = c.args.c.now in
    let u = c.args.u.now in
    let i = c.loop-number.number in
    let l = c.index-loops-number.result in
    let at = element u.loops c.as_slice-loops.result.now i l c.as_slice-loops.ensures c.loop-number-test.true c.index-loops-number.is in
    let is = back_is cert u i l c.as_slice-multipliers.result.now c.as_slice-totals.result.now c.back_price.result c.as_slice-multipliers.ensures c.as_slice-totals.ensures c.back_price.ensures.price in
    record {
      prices = one_of (IsBackPrice cert u) u.loops i l c.back_price.result c.loop-number.prices.items _ at is c.loop-number.invariant.prices c.in_ok-push.ensures.items;
      bound = subst (λ (ps : List ℕ). All (λ price. price < 2 ^ 126) ps) (sym c.in_ok-push.ensures.items)
          (All-push (λ price. price < 2 ^ 126) c.loop-number.prices.items c.back_price.result c.loop-number.invariant.bound c.back_price.ensures.bound);
    }

pub returns-clause-prices : goal.returns-clause-prices
returns-clause-prices c =
    let cert = c.args.c.now in
    let u = c.args.u.now in
    let same = ap length c.as_slice-loops.ensures in
    let done : c.loop-number.number ≡ length u.loops = omega (arith, same) in
    all_backs cert u u.loops c.loop-number.prices.items
    (subst (λ n. FirstOf (IsBackPrice cert u) u.loops n c.loop-number.prices.items) done c.loop-number.invariant.prices)
