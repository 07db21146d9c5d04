use Rattle.std.proofs.Common.{List, map, sym, subst}
use Rattle.wx_base.specs.Facts.{AreAscending}
use Rattle.flow_graph.specs.declared.site.Site.{Site}
use Rattle.flow_graph.specs.Listing.{IsListOf}
use Rattle.flow_graph.specs.Reached.{IsClosed}
use Rattle.flow_graph.proofs.ListingLemmas.{addresses_ascend, have_insns, listed_callees, listed_ways, listing_from}
use Rattle.flow_graph.proofs.construction.reached_listing.Goals as goal

pub list_sites-requires-clause-ascending : goal.list_sites-requires-clause-ascending
list_sites-requires-clause-ascending c =
    let sites = c.in_ok-sites.sites.items in
    let closed = subst (λ (xs : List Site). IsClosed c.args.inputs.now.image.now c.args.inputs.now.facts.now c.args.inputs.now.start xs) c.as_slice.ensures.value c.in_ok-refuse_early.ensures.closed in
    subst (λ (xs : List Site). AreAscending (map (λ s. s.address) xs)) (sym c.as_slice-2.ensures.value) (addresses_ascend sites c.in_ok-sites.ensures closed)

pub list_sites-requires-clause-insns : goal.list_sites-requires-clause-insns
list_sites-requires-clause-insns c =
    let sites = c.in_ok-sites.sites.items in
    let closed = subst (λ (xs : List Site). IsClosed c.args.inputs.now.image.now c.args.inputs.now.facts.now c.args.inputs.now.start xs) c.as_slice.ensures.value c.in_ok-refuse_early.ensures.closed in
    rw c.as_slice-2.ensures.value (have_insns sites c.in_ok-sites.ensures closed)

pub list_sites-requires-clause-ways : goal.list_sites-requires-clause-ways
list_sites-requires-clause-ways c =
    let sites = c.in_ok-sites.sites.items in
    let closed = subst (λ (xs : List Site). IsClosed c.args.inputs.now.image.now c.args.inputs.now.facts.now c.args.inputs.now.start xs) c.as_slice.ensures.value c.in_ok-refuse_early.ensures.closed in
    rw c.as_slice-2.ensures.value (listed_ways sites c.in_ok-sites.ensures closed)

pub list_sites-requires-clause-callees : goal.list_sites-requires-clause-callees
list_sites-requires-clause-callees c =
    let sites = c.in_ok-sites.sites.items in
    let closed = subst (λ (xs : List Site). IsClosed c.args.inputs.now.image.now c.args.inputs.now.facts.now c.args.inputs.now.start xs) c.as_slice.ensures.value c.in_ok-refuse_early.ensures.closed in
    rw c.as_slice-2.ensures.value (listed_callees sites c.in_ok-sites.ensures closed)

pub returns-clause-listing : goal.returns-clause-listing
returns-clause-listing c =
    let sites = c.in_ok-sites.sites.items in
    let closed = subst (λ (xs : List Site). IsClosed c.args.inputs.now.image.now c.args.inputs.now.facts.now c.args.inputs.now.start xs) c.as_slice.ensures.value c.in_ok-refuse_early.ensures.closed in
    listing_from sites c.in_ok-sites.ensures closed c.in_ok-list_sites.field-0
    (subst (λ (xs : List Site). IsListOf xs c.in_ok-list_sites.field-0) c.as_slice-2.ensures.value c.in_ok-list_sites.ensures)
