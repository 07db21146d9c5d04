use Rattle.std.proofs.Common.{List, ℕ, get_or, sym, subst, arith}
use Rattle.flow_graph.specs.Listing.{ArePlaces}
use Rattle.std.proofs.Common.{take, ◌+◌}
use Rattle.flow_graph.proofs.ListingLemmas.{next_place, there}
use Rattle.flow_graph.proofs.listing.places.Goals as goal

pub place-requires-clause-listed : goal.place-requires-clause-listed
place-requires-clause-listed c =
    let i = c.loop-address.address-index in
    let a = get_or c.args.list.now i 0 in
    there c.args.addresses.now a (c.requires.listed i 0 (omega arith))

pub loop-address-preserved : goal.loop-address-preserved
loop-address-preserved c = subst (λ (ps : List ℕ). ArePlaces c.args.addresses.now (take (c.loop-address.address-index + 1) c.args.list.now) ps) (sym c.in_ok-push.ensures.items)
    (next_place c.args.addresses.now c.args.list.now c.loop-address.places.items c.loop-address.address-index c.place.result (omega arith) c.loop-address.invariant
    c.place.ensures.within c.place.ensures.stands)
