use Rattle.std.proofs.Common.{take}
use Rattle.flow_graph.specs.Listing.{ArePlaces}
use Rattle.flow_graph.proofs.listing.places.Given as goal

abbrev pub invariant-loop-address : goal.invariant-loop-address
invariant-loop-address l = ArePlaces l.addresses (take l.address-index l.list) l.places.items
