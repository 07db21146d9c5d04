use Rattle.std.proofs.Common.{◌≡◌, ◌<◌, ◌^◌, map, take}
use Rattle.std.specs.List.{All}
use Rattle.flow_graph.proofs.listing.addresses.Given as goal

abbrev pub invariant-loop-site : goal.invariant-loop-site
invariant-loop-site l = record {
  are : l.addresses.items ≡ map (λ s. s.address) (take l.site-index l.sites);
  small : All (λ x. x < 2 ^ 32) l.addresses.items;
}
