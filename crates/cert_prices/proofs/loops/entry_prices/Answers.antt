use Rattle.std.proofs.Common.{◌≡◌, ◌<◌, ◌^◌, ℕ, List, All, length, drop, subst, sym, ◌∙◌}
use Rattle.std.proofs.lemmas.List.{take_at}
use Rattle.cert_text.specs.declared.certificate.Charge.{Charge}
use Rattle.cert_prices.specs.Sums.{AddsMultipliers, AreEntryPrices, AreLoopCharges}
use Rattle.cert_prices.proofs.MultiplierLemmas.{are_entries}
use Rattle.cert_prices.proofs.loops.entry_prices.Goals as goal

pub returns-clause-prices : goal.returns-clause-prices
returns-clause-prices c =
    let cert = c.args.c.now in
    let loops = c.args.loops.now in
    let old = c.in_ok-prices.prices.items in
    let new = c.add_multipliers.new.prices in
    let long : length new ≡ c.in_ok-prices.prices.len = c.add_multipliers.auto.prices ∙ c.as_mut_slice.ensures.len in
    let charges = subst (λ (cs : List Charge). AreLoopCharges cs (length loops) old) c.as_slice-charges.ensures c.in_ok-prices.ensures.charges in
    let first = subst (λ (ms : List ℕ). AddsMultipliers loops ms c.as_mut_slice.result.now new) c.as_slice-multipliers.ensures c.add_multipliers.ensures.prices in
    let adds = subst (λ (ps : List ℕ). AddsMultipliers loops cert.multipliers ps new) c.as_mut_slice.ensures.value first in
    subst (AreEntryPrices cert loops) (sym (take_at new (drop (length new) old) c.in_ok-prices.prices.len long)) (are_entries cert loops old new charges adds)

pub returns-clause-bound : goal.returns-clause-bound
returns-clause-bound c =
    let new = c.add_multipliers.new.prices in
    let long : length new ≡ c.in_ok-prices.prices.len = c.add_multipliers.auto.prices ∙ c.as_mut_slice.ensures.len in
    subst (λ (xs : List ℕ). All (λ price. price < 2 ^ 126) xs) (sym (take_at new (drop (length new) c.in_ok-prices.prices.items) c.in_ok-prices.prices.len long)) c.add_multipliers.ensures.bound
