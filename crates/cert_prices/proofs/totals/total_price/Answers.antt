use Rattle.std.proofs.Common.{rules, Ok, Err, sym, ◌∙◌}
use Rattle.std.proofs.lemmas.List.Sorted.{answers_always}
use Rattle.cert_text.specs.declared.certificate.TotalPrice.{TotalPrice}
use Rattle.cert_prices.proofs.ChargeLemmas.{price_nowhere, price_there}
use Rattle.cert_prices.proofs.FoundLemmas.{by_elements, found}
use Rattle.cert_prices.proofs.CountLemmas.{amount_there}
use Rattle.cert_prices.proofs.totals.total_price.Goals as goal

abbrev no_total : TotalPrice
no_total = record { address = 0; amount = 0 }

pub returns-in-Ok : goal.returns-in-Ok
returns-in-Ok c =
    let totals = c.args.totals.now in
    let by_key = c.in-Ok.ensures.position (λ t. t.address) (answers_always _ _ _ (λ f a r g called. search rules)) in
    let f = found (λ t. t.address) totals c.args.address (by_elements (λ t. t.address) totals c.requires) (Ok c.in-Ok.at) c.in-Ok.ensures.bound by_key in
    amount_there totals c.in-Ok.at f.there.0 no_total f.there.1 ∙ sym (price_there totals c.in-Ok.at f.there.0 c.args.address c.requires f.there.1 f.there.2)

pub returns-in-Err : goal.returns-in-Err
returns-in-Err c =
    let totals = c.args.totals.now in
    let by_key = c.in-Err.ensures.position (λ t. t.address) (answers_always _ _ _ (λ f a r g called. search rules)) in
    let f = found (λ t. t.address) totals c.args.address (by_elements (λ t. t.address) totals c.requires) (Err c.in-Err.field-0) c.in-Err.ensures.bound by_key in
    sym (price_nowhere totals c.args.address f.nowhere)
