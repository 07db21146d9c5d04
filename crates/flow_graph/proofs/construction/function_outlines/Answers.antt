use Rattle.std.proofs.Common.{◌≡◌, ◌<◌, ℕ, List, Some, None, length, sym, subst, ◌∙◌, inr, arith}
use Rattle.std.proofs.lemmas.List.{get_or_default}
use Rattle.std.specs.List.{All}
use Rattle.std.specs.Prelude.{slice_index}
use Rattle.flow_graph.specs.declared.error.FlowError.TheVariants.{Irreducible, LoopNoBound}
use Rattle.flow_graph.specs.declared.outline.Outline.{Outline}
use Rattle.flow_graph.specs.Listing.{IsLeast}
use Rattle.flow_graph.specs.Outlines.{AreOutlines, HasBounds, IsUnboundedNumber}
use Rattle.flow_graph.specs.Refusals.{IsFirst}
use Rattle.flow_graph.proofs.LoopRefusalLemmas.{heads_within, cycle_found, cycle_first, cycle_clean, unbounded_to, unbounded_first, unbounded_clean, all_bounded}
use Rattle.flow_graph.proofs.construction.function_outlines.Goals as goal

-- outlines that were lent are those that were made
lent_outlines : (ways : List (List ℕ)) (marks : _) (made lent : List Outline) → lent ≡ made → AreOutlines ways marks made → AreOutlines ways marks lent
lent_outlines ways marks made lent e all = subst (λ (list : List Outline). AreOutlines ways marks list) (sym e) all

pub index-requires : goal.index-requires
index-requires c =
    let all = lent_outlines _ _ _ _ c.as_slice-outlines.ensures.value c.in_ok-list.ensures in
    omega (arith, (cycle_found c.requires.listing c.requires.marks all c.in-Some.at c.in-Some.ensures.0).0, c.args.listing.now.addresses.ok)

pub returns-in-Some-clause-refused : goal.returns-in-Some-clause-refused
returns-in-Some-clause-refused c =
    let inputs = c.args.inputs.now in
    let all = lent_outlines _ _ _ _ c.as_slice-outlines.ensures.value c.in_ok-list.ensures in
    let addresses = c.args.listing.now.addresses.items in
    let at = c.in-Some.at in
    let within : at < length addresses = (cycle_found c.requires.listing c.requires.marks all at c.in-Some.ensures.0).0 in
    let same : c.index.result.now ≡ slice_index addresses at = c.index.ensures ∙ get_or_default addresses at c.index.result.now 0 within in
    inr (subst (λ (a : ℕ). IsFirst inputs.image.now inputs.facts.now inputs.start inputs.machine.now (Irreducible a)) (sym same)
    (cycle_first c.requires.listing c.requires.marks all inputs.machine.now at c.requires.clean c.in-Some.ensures.0 c.in-Some.ensures.1))

pub least_unbounded-requires-clause-heads : goal.least_unbounded-requires-clause-heads
least_unbounded-requires-clause-heads c =
    let all = lent_outlines _ _ _ _ c.as_slice-outlines.ensures.value c.in_ok-list.ensures in
    subst (λ (list : List ℕ). All (λ o. All (λ l. l.head < length list) o.structure.loops) c.as_slice-outlines.result.now) (sym c.as_slice.ensures.value)
    (heads_within c.requires.listing c.requires.marks all)

pub index-requires-in-Some-least_unbounded : goal.index-requires-in-Some-least_unbounded
index-requires-in-Some-least_unbounded c =
    let all = lent_outlines _ _ _ _ c.as_slice-outlines.ensures.value c.in_ok-list.ensures in
    let found = subst (λ (list : List ℕ). IsLeast (IsUnboundedNumber c.args.inputs.now.facts.now list c.as_slice-outlines.result.now) (Some c.in-Some-least_unbounded.at)) c.as_slice.ensures.value c.in-Some-least_unbounded.ensures in
    omega (arith, (unbounded_to c.requires.listing c.requires.marks all c.in-Some-least_unbounded.at found.0).0, c.args.listing.now.addresses.ok)

pub returns-in-Some-least_unbounded-clause-refused : goal.returns-in-Some-least_unbounded-clause-refused
returns-in-Some-least_unbounded-clause-refused c =
    let inputs = c.args.inputs.now in
    let all = lent_outlines _ _ _ _ c.as_slice-outlines.ensures.value c.in_ok-list.ensures in
    let addresses = c.args.listing.now.addresses.items in
    let machine = inputs.machine.now in
    let at = c.in-Some-least_unbounded.at in
    let found = subst (λ (list : List ℕ). IsLeast (IsUnboundedNumber inputs.facts.now list c.as_slice-outlines.result.now) (Some at)) c.as_slice.ensures.value c.in-Some-least_unbounded.ensures in
    let within : at < length addresses = (unbounded_to c.requires.listing c.requires.marks all at found.0).0 in
    let result = c.index-in-Some-least_unbounded.result.now in
    let same : result ≡ slice_index addresses at = c.index-in-Some-least_unbounded.ensures ∙ get_or_default addresses at result 0 within in
    let clean = cycle_clean c.requires.listing c.requires.marks all machine c.requires.clean c.in_default.ensures in
    inr (subst (λ (a : ℕ). IsFirst inputs.image.now inputs.facts.now inputs.start machine (LoopNoBound a)) (sym same)
    (unbounded_first c.requires.listing c.requires.marks all machine at clean found.0 found.1))

pub returns-in-None-clause-outlines : goal.returns-in-None-clause-outlines
returns-in-None-clause-outlines c = record { marks = c.args.marks.now; entries = c.requires.marks; marked = c.in_ok-list.ensures }

pub returns-in-None-clause-clean : goal.returns-in-None-clause-clean
returns-in-None-clause-clean c =
    let machine = c.args.inputs.now.machine.now in
    let all = lent_outlines _ _ _ _ c.as_slice-outlines.ensures.value c.in_ok-list.ensures in
    let clean = cycle_clean c.requires.listing c.requires.marks all machine c.requires.clean c.in_default.ensures in
    unbounded_clean c.requires.listing c.requires.marks all machine clean
    (subst (λ (list : List ℕ). IsLeast (IsUnboundedNumber c.args.inputs.now.facts.now list c.as_slice-outlines.result.now) None) c.as_slice.ensures.value c.in-None.ensures)

pub returns-in-None-clause-bounded : goal.returns-in-None-clause-bounded
returns-in-None-clause-bounded c =
    let all = lent_outlines _ _ _ _ c.as_slice-outlines.ensures.value c.in_ok-list.ensures in
    subst (λ (list : List Outline). All (λ o. HasBounds c.args.inputs.now.facts.now c.args.listing.now.addresses.items o) list) c.as_slice-outlines.ensures.value
    (all_bounded c.requires.listing c.requires.marks all
    (subst (λ (list : List ℕ). IsLeast (IsUnboundedNumber c.args.inputs.now.facts.now list c.as_slice-outlines.result.now) None) c.as_slice.ensures.value c.in-None.ensures))
