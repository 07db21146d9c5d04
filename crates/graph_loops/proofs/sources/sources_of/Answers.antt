use Rattle.std.proofs.Common.{◌≡◌, ◌+◌, ℕ, List, length, drop, ap, sym, subst, ◌∙◌, arith}
use Rattle.std.proofs.lemmas.List.{take_at}
use Rattle.std.specs.Global.{Vec}
use Rattle.graph_loops.specs.Graph.{lists_of}
use Rattle.graph_loops.specs.Walk.{IsSourceAdded}
use Rattle.graph_loops.proofs.Places.{lists_length}
use Rattle.graph_loops.proofs.WalkLemmas.{targets_within}
use Rattle.graph_loops.proofs.SourceLemmas.{SourcesSoFar, no_sources, sources_more, all_sources}
use Rattle.graph_loops.proofs.sources.sources_of.Goals as goal

pub loop-u-init : goal.loop-u-init
loop-u-init c = no_sources (lists_of c.args.lists.now) (lists_of c.in_ok-sources.sources.items) (length c.args.lists.now) (sym (lists_length c.args.lists.now)) c.in_ok-sources.ensures

pub add_source-requires : goal.add_source-requires
add_source-requires c = targets_within (lists_of c.args.lists.now) (length c.as_mut_slice.result.now) c.loop-u.u c.list_at.result.now (ap length c.as_mut_slice.ensures.value ∙ sym (lists_length c.loop-u.sources.items) ∙ c.loop-u.invariant.count) c.requires (sym c.list_at.ensures)

pub loop-u-preserved : goal.loop-u-preserved
loop-u-preserved c =
    let lists = lists_of c.args.lists.now in
    let new = c.add_source.new.sources in
    let added = subst (λ (old : List (Vec ℕ)). IsSourceAdded (lists_of old) (lists_of new) c.loop-u.u c.list_at.result.now) c.as_mut_slice.ensures.value c.in_ok-add_source.ensures in
    let count : length new ≡ c.loop-u.sources.len = c.add_source.auto.sources ∙ c.as_mut_slice.ensures.len in
    let P : List (Vec ℕ) → Type 0 = λ after. SourcesSoFar lists (c.loop-u.u + 1) (lists_of after) in
    subst P (sym (take_at new (drop (length new) c.loop-u.sources.items) c.loop-u.sources.len count))
    (sources_more lists (lists_of c.loop-u.sources.items) (lists_of new) c.loop-u.u c.loop-u.invariant
    (subst (λ (targets : List ℕ). IsSourceAdded (lists_of c.loop-u.sources.items) (lists_of new) c.loop-u.u targets) c.list_at.ensures added))

pub returns : goal.returns
returns c = all_sources (lists_of c.args.lists.now) (lists_of c.loop-u.sources.items) c.loop-u.u (omega (arith, lists_length c.args.lists.now)) c.loop-u.invariant
