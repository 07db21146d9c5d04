use Rattle.std.proofs.Common.{◌≡◌, ◌<◌, ℕ, Bool, List, Option, length, sym, subst, ◌∙◌, inr}
use Rattle.std.proofs.lemmas.List.{get_or_default}
use Rattle.std.specs.Global.{Vec}
use Rattle.std.specs.Prelude.{slice_index}
use Rattle.graph_loops.specs.Graph.{IsGraph, lists_of}
use Rattle.flow_block.specs.Code.{IsPlace, IsThere}
use Rattle.flow_graph.specs.declared.error.FlowError.TheVariants.{Recursion}
use Rattle.flow_graph.specs.Listing.{AreEntries, AreMarkedCallees, IsLeast, IsRecursiveNumber, IsStart}
use Rattle.flow_graph.specs.Refusals.{IsFirst}
use Rattle.flow_graph.proofs.NumberedEntries.{calls_graph, callees_marked, recursion_first, recursion_clean, recursive_within}
use Rattle.flow_graph.proofs.construction.function_entries.Goals as goal

-- the marks at the entries, for lists that were lent
begins_at : (addresses given : List ℕ) (calls lent : List (Vec ℕ)) (start number : ℕ) (marks : List Bool) → given ≡ addresses → lent ≡ calls → IsPlace given start number
    → AreEntries (lists_of lent) number marks → IsStart addresses (lists_of calls) start marks
begins_at addresses given calls lent start number marks e f place entries = record {
  number = number;
  place = subst (λ (xs : List ℕ). IsPlace xs start number) e place;
  entries = subst (λ (lists : List (Vec ℕ)). AreEntries (lists_of lists) number marks) f entries;
}

pub place-start-requires-clause-listed : goal.place-start-requires-clause-listed
place-start-requires-clause-listed c =
    let first = c.requires.listing.first in
    subst (λ (xs : List ℕ). IsThere xs c.args.inputs.now.start) (sym c.as_slice.ensures.value) (record { place = first.0; at = first.1 })

pub entries-requires-clause-graph : goal.entries-requires-clause-graph
entries-requires-clause-graph c =
    subst (λ (lists : List (Vec ℕ)). IsGraph (lists_of lists)) (sym c.as_slice-calls.ensures.value) (calls_graph c.requires.listing)

pub recursive_call-requires-clause-calls : goal.recursive_call-requires-clause-calls
recursive_call-requires-clause-calls c =
    subst (λ (lists : List (Vec ℕ)). IsGraph (lists_of lists)) (sym c.as_slice-calls.ensures.value) (calls_graph c.requires.listing)

pub recursive_call-requires-clause-entries : goal.recursive_call-requires-clause-entries
recursive_call-requires-clause-entries c =
    let begins = begins_at c.args.listing.now.addresses.items _ c.args.listing.now.calls.items _ _ _ _ c.as_slice.ensures.value c.as_slice-calls.ensures.value c.place-start.ensures c.in_ok-marks.ensures in
    subst (λ (lists : List (Vec ℕ)). AreMarkedCallees (lists_of lists) c.as_slice-2.result.now) (sym c.as_slice-calls.ensures.value)
    (subst (λ (marks : List Bool). AreMarkedCallees (lists_of c.args.listing.now.calls.items) marks) (sym c.as_slice-2.ensures.value) (callees_marked c.requires.listing begins))

pub returns-in-Some-clause-refused : goal.returns-in-Some-clause-refused
returns-in-Some-clause-refused c =
    let inputs = c.args.inputs.now in
    let listing = c.args.listing.now in
    let addresses = listing.addresses.items in
    let at = c.in-Some.at in
    let P : ℕ → Type 0 = IsRecursiveNumber listing.ways (lists_of listing.calls.items) in
    let found = subst (λ (lists : List (Vec ℕ)). IsLeast (IsRecursiveNumber listing.ways (lists_of lists)) c.in_ok-at.field-0) c.as_slice-calls.ensures.value c.in_ok-at.ensures in
    let least = subst (λ (o : Option ℕ). IsLeast P o) c.in-Some.is found in
    let within : at < length addresses = recursive_within c.requires.listing at least.0 in
    let same : c.index.result.now ≡ slice_index addresses at = c.index.ensures ∙ get_or_default addresses at c.index.result.now 0 within in
    inr (subst (λ (a : ℕ). IsFirst inputs.image.now inputs.facts.now inputs.start inputs.machine.now (Recursion a)) (sym same)
    (recursion_first c.requires.listing inputs.machine.now at within c.requires.clean least.0 least.1))

pub returns-in-None-clause-entries : goal.returns-in-None-clause-entries
returns-in-None-clause-entries c =
    begins_at c.args.listing.now.addresses.items _ c.args.listing.now.calls.items _ _ _ _ c.as_slice.ensures.value c.as_slice-calls.ensures.value c.place-start.ensures c.in_ok-marks.ensures

pub returns-in-None-clause-clean : goal.returns-in-None-clause-clean
returns-in-None-clause-clean c =
    let listing = c.args.listing.now in
    let P : ℕ → Type 0 = IsRecursiveNumber listing.ways (lists_of listing.calls.items) in
    let found = subst (λ (lists : List (Vec ℕ)). IsLeast (IsRecursiveNumber listing.ways (lists_of lists)) c.in_ok-at.field-0) c.as_slice-calls.ensures.value c.in_ok-at.ensures in
    recursion_clean c.requires.listing c.args.inputs.now.machine.now c.requires.clean (subst (λ (o : Option ℕ). IsLeast P o) c.in-None.is found)
