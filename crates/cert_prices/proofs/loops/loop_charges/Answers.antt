use Rattle.std.proofs.Common.{◌≡◌, ◌<◌, ◌^◌, ℕ, List, All, length, drop, ap, subst, sym, refl, ◌∙◌}
use Rattle.std.proofs.lemmas.List.{length-replicate, take_at}
use Rattle.std.proofs.lemmas.List.Elements.{All-replicate}
use Rattle.cert_prices.specs.Sums.{AreLoopCharges}
use Rattle.cert_prices.proofs.loops.loop_charges.Goals as goal

pub add_charges-requires-clause-none : goal.add_charges-requires-clause-none
add_charges-requires-clause-none c =
    let zeros = c.as_mut_slice.ensures.value ∙ c.in_ok-sums.ensures in
    subst (λ (xs : List ℕ). All (λ sum. sum ≡ 0) xs) (sym zeros) (All-replicate (λ sum. sum ≡ 0) c.args.count 0 refl)

pub returns-clause-charges : goal.returns-clause-charges
returns-clause-charges c =
    let new = c.add_charges.new.sums in
    let long : length new ≡ c.in_ok-sums.sums.len = c.add_charges.auto.sums ∙ c.as_mut_slice.ensures.len in
    let count = ap length (c.as_mut_slice.ensures.value ∙ c.in_ok-sums.ensures) ∙ length-replicate c.args.count 0 in
    subst (AreLoopCharges c.args.charges.now c.args.count) (sym (take_at new (drop (length new) c.in_ok-sums.sums.items) c.in_ok-sums.sums.len long))
    (subst (λ n. AreLoopCharges c.args.charges.now n new) count c.add_charges.ensures.charges)

pub returns-clause-bound : goal.returns-clause-bound
returns-clause-bound c =
    let new = c.add_charges.new.sums in
    let long : length new ≡ c.in_ok-sums.sums.len = c.add_charges.auto.sums ∙ c.as_mut_slice.ensures.len in
    subst (λ (xs : List ℕ). All (λ sum. sum < 2 ^ 125) xs) (sym (take_at new (drop (length new) c.in_ok-sums.sums.items) c.in_ok-sums.sums.len long)) c.add_charges.ensures.bound
