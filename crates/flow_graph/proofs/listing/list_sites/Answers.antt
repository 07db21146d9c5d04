use Rattle.std.proofs.Common.{List, ℕ, map, sym, subst, ◌∙◌}
use Rattle.std.proofs.lemmas.List.{length-map}
use Rattle.std.specs.List.{All, Contains}
use Rattle.wx_base.specs.Facts.{AreAscending}
use Rattle.graph_loops.specs.Graph.{lists_of}
use Rattle.flow_graph.specs.Listing.{AreRows}
use Rattle.flow_graph.proofs.ListingLemmas.{rows_graph}
use Rattle.flow_graph.proofs.listing.list_sites.Goals as goal

pub way_rows-requires-clause-ascending : goal.way_rows-requires-clause-ascending
way_rows-requires-clause-ascending c =
    subst (λ (xs : List ℕ). AreAscending xs) (sym (c.as_slice.ensures.value ∙ c.in_ok-addresses.ensures.are)) c.requires.ascending

pub way_rows-requires-clause-listed : goal.way_rows-requires-clause-listed
way_rows-requires-clause-listed c =
    subst (λ (xs : List ℕ). All (λ s. All (λ a. Contains xs a) s.ways.items) c.args.sites.now) (sym (c.as_slice.ensures.value ∙ c.in_ok-addresses.ensures.are))
    c.requires.ways

pub new-requires : goal.new-requires
new-requires c =
    rows_graph (map (λ s. s.address) c.args.sites.now) (map (λ s. s.ways.items) c.args.sites.now) (lists_of c.in_ok-way_rows.field-0.items)
    (length-map c.args.sites.now (λ s. s.ways.items) ∙ sym (length-map c.args.sites.now (λ s. s.address)))
    (subst (λ (xs : List ℕ). AreRows xs (map (λ s. s.ways.items) c.args.sites.now) (lists_of c.in_ok-way_rows.field-0.items)) (c.as_slice.ensures.value ∙ c.in_ok-addresses.ensures.are) c.in_ok-way_rows.ensures)

pub call_rows-requires-clause-ascending : goal.call_rows-requires-clause-ascending
call_rows-requires-clause-ascending c =
    subst (λ (xs : List ℕ). AreAscending xs) (sym (c.as_slice-2.ensures.value ∙ c.in_ok-addresses.ensures.are)) c.requires.ascending

pub call_rows-requires-clause-listed : goal.call_rows-requires-clause-listed
call_rows-requires-clause-listed c =
    subst (λ (xs : List ℕ). All (λ s. All (λ a. Contains xs a) s.callees.items) c.args.sites.now) (sym (c.as_slice-2.ensures.value ∙ c.in_ok-addresses.ensures.are))
    c.requires.callees

pub returns : goal.returns
returns c =
    let sites = c.args.sites.now in
    let ways = map (λ s. s.ways.items) sites in
    record {
      addresses = c.in_ok-addresses.ensures.are;
      small = c.in_ok-addresses.ensures.small;
      insns = c.in_ok-insns.ensures;
      ways = subst (λ (rows : List (List ℕ)). AreRows c.in_ok-addresses.addresses.items ways rows) (sym c.in_ok-ways.ensures)
          (subst (λ (xs : List ℕ). AreRows xs ways (lists_of c.in_ok-way_rows.field-0.items)) c.as_slice.ensures.value c.in_ok-way_rows.ensures);
      calls = subst (λ (xs : List ℕ). AreRows xs (map (λ s. s.callees.items) sites) (lists_of c.in_ok-calls.calls.items)) c.as_slice-2.ensures.value c.in_ok-calls.ensures;
    }
