use Rattle.std.proofs.Common.{List, ap, subst, ◌∙◌}
use Rattle.std.specs.List.{sum_by}
use Rattle.flow_ctx.specs.declared.scope.Scope.TheVariants.{Run}
use Rattle.flow_ctx.specs.declared.unfolded.ULoop.{ULoop}
use Rattle.cert_text.specs.declared.certificate.Charge.{Charge}
use Rattle.cert_text.specs.declared.certificate.TotalPrice.{TotalPrice}
use Rattle.cert_rules.specs.Prices.{charges_in}
use Rattle.cert_prices.specs.Sums.{AreEntryPrices, counted_worth, start_price}
use Rattle.cert_prices.proofs.CountLemmas.{paid_is}
use Rattle.cert_prices.proofs.start.paid_at_start.Goals as goal

pub returns-clause-paid : goal.returns-clause-paid
returns-clause-paid c =
    let u = c.args.u.now in
    let cert = c.args.c.now in
    let counts = c.args.counts.now in
    let prices = c.in_ok-prices.prices.items in
    let entries : AreEntryPrices cert u.loops prices = subst (λ (ls : List ULoop). AreEntryPrices cert ls prices) c.as_slice-loops.ensures c.in_ok-prices.ensures.prices in
    let run = c.run_charges-run.ensures.sum ∙ ap (λ (cs : List Charge). charges_in cs Run) c.as_slice-charges.ensures in
    let first = c.start_price-first.ensures.price ∙ ap (start_price u) c.as_slice.ensures.value in
    let back = c.totals_worth-back.ensures.sum ∙ ap (λ (ts : List TotalPrice). sum_by (λ total. counted_worth counts total) ts) c.as_slice-totals.ensures in
    paid_is cert u counts prices c.run_charges-run.result c.start_price-first.result c.totals_worth-back.result c.requires.counts entries run first back
