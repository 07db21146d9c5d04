use Rattle.std.proofs.Common.{◌≡◌, ◌<◌, ◌^◌, ℕ, List, All, length, drop, subst, sym, ◌∙◌}
use Rattle.std.proofs.lemmas.List.{take_at}
use Rattle.flow_ctx.specs.declared.unfolded.ULoop.{ULoop}
use Rattle.cert_prices.specs.Sums.{AreBackPrices, AreEdgePrices, AreEntryPrices}
use Rattle.cert_prices.proofs.BackLemmas.{edges_priced}
use Rattle.cert_prices.proofs.BoundLemmas.{within_limit}
use Rattle.cert_prices.proofs.edges.edge_prices.Goals as goal

pub returns-clause-prices : goal.returns-clause-prices
returns-clause-prices c =
    let u = c.args.u.now in
    let cert = c.args.c.now in
    let entries = c.as_slice.result.now in
    let backs = c.as_slice-2.result.now in
    let costs = c.set_loops.new.entering in
    let gains = c.set_loops.new.returning in
    let long : length costs ≡ c.in_ok-entering.entering.len = c.set_loops.auto.entering ∙ c.as_mut_slice.ensures.len in
    let again : length gains ≡ c.in_ok-returning.returning.len = c.set_loops.auto.returning ∙ c.as_mut_slice-2.ensures.len in
    let first = subst (λ (ls : List ULoop). AreEntryPrices cert ls c.in_ok-entries.entries.items) c.as_slice-loops.ensures c.in_ok-entries.ensures.prices in
    let entered = subst (AreEntryPrices cert u.loops) (sym c.as_slice.ensures.value) first in
    let returned = subst (AreBackPrices cert u u.loops) (sym c.as_slice-2.ensures.value) c.in_ok-backs.ensures.prices in
    let is = edges_priced cert u entries backs costs gains entered returned c.set_loops.ensures.entering c.set_loops.ensures.returning in
    subst (λ (xs : List ℕ). AreEdgePrices cert u xs c.new-2.result) (sym (c.new.ensures ∙ take_at costs (drop (length costs) c.in_ok-entering.entering.items) c.in_ok-entering.entering.len long))
    (subst (AreEdgePrices cert u costs) (sym (c.new-2.ensures ∙ take_at gains (drop (length gains) c.in_ok-returning.returning.items) c.in_ok-returning.returning.len again)) is)

pub returns-clause-bound : goal.returns-clause-bound
returns-clause-bound c =
    let costs = c.set_loops.new.entering in
    let gains = c.set_loops.new.returning in
    let long : length costs ≡ c.in_ok-entering.entering.len = c.set_loops.auto.entering ∙ c.as_mut_slice.ensures.len in
    let again : length gains ≡ c.in_ok-returning.returning.len = c.set_loops.auto.returning ∙ c.as_mut_slice-2.ensures.len in (
      subst (λ (xs : List ℕ). All (λ price. price < 2 ^ 127) xs) (sym (c.new.ensures ∙ take_at costs (drop (length costs) c.in_ok-entering.entering.items) c.in_ok-entering.entering.len long))
          (within_limit costs c.set_loops.ensures.small_entering),
      subst (λ (xs : List ℕ). All (λ price. price < 2 ^ 127) xs) (sym (c.new-2.ensures ∙ take_at gains (drop (length gains) c.in_ok-returning.returning.items) c.in_ok-returning.returning.len again))
          (within_limit gains c.set_loops.ensures.small_returning),
    )
