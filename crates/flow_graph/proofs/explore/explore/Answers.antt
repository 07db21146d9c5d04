use Rattle.std.proofs.Common.{rules}
use Rattle.std.proofs.lemmas.List.Sorted.{IsNonDecreasingBy-from_sort_by_key}
use Rattle.flow_graph.proofs.ReachLemmas.{sorted}
use Rattle.flow_graph.proofs.explore.explore.Goals as goal

pub returns : goal.returns
returns c =
    let e = c.sort_unstable_by_key.ensures in
    sorted c.args.image.now c.args.facts.now c.args.start c.in_ok-sites.sites.items _ c.in_ok-sites.ensures e.permutation
    (IsNonDecreasingBy-from_sort_by_key (λ s. s.address) _ e.sorted (λ a r q k. search rules))
