use Rattle.std.proofs.Common.{List, ℕ, sym, subst, arith}
use Rattle.std.specs.List.{All, Contains}
use Rattle.flow_graph.specs.Listing.{ArePlaces}
use Rattle.flow_graph.proofs.ListingLemmas.{at_item, next_row}
use Rattle.flow_graph.proofs.listing.call_rows.Goals as goal

pub places-requires-clause-listed : goal.places-requires-clause-listed
places-requires-clause-listed c = subst (λ (xs : List ℕ). All (λ a. Contains c.args.addresses.now a) xs) (sym c.as_slice.ensures.value)
    (at_item (λ s. All (λ a. Contains c.args.addresses.now a) s.callees.items) c.args.sites.now c.loop-site.site-index c.site-item.result (omega arith) c.site-item.is c.requires.listed)

pub loop-site-preserved : goal.loop-site-preserved
loop-site-preserved c =
    next_row (λ s. s.callees.items) c.args.addresses.now c.args.sites.now c.loop-site.rows.items c.push.new.self.items c.loop-site.site-index c.site-item.result c.in_ok-places.field-0
    (omega arith) c.site-item.is c.loop-site.invariant (subst (λ (xs : List ℕ). ArePlaces c.args.addresses.now xs c.in_ok-places.field-0.items) c.as_slice.ensures.value c.in_ok-places.ensures)
    c.in_ok-push.ensures.items
