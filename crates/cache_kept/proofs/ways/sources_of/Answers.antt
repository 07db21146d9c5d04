use Rattle.std.proofs.Common.{◌≡◌, ◌+◌, ◌++◌, ◌∷◌, [], ℕ, List, length, get_or, set, drop, ap, sym, subst, ◌∙◌, arith}
use Rattle.std.specs.Global.{Vec}
use Rattle.std.proofs.lemmas.List.{get_or_default, take_at}
use Rattle.cache_flow.specs.declared.flow.Move.{Move}
use Rattle.cache_kept.specs.Ways.{lists_of, list_at}
use Rattle.cache_kept.proofs.WaysLemmas.{SourcesSoFar, sources_none, sources_more, sources_all}
use Rattle.cache_kept.proofs.ways.sources_of.Goals as goal

pub loop-step-init : goal.loop-step-init
loop-step-init c = sources_none c.args.count c.args.moves.now c.in_ok-lists.lists.items c.in_ok-lists.ensures

pub push_at-requires : goal.push_at-requires
push_at-requires c =
    omega (arith, c.requires c.loop-step.step-index (record { from = 0; to = 0 }) c.loop-step-test.true, ap length c.as_mut_slice.ensures.value, c.loop-step.invariant.long)

pub loop-step-preserved : goal.loop-step-preserved
loop-step-preserved c =
    let none : Move = record { from = 0; to = 0 } in
    let step : Move = get_or c.args.moves.now c.loop-step.step-index none in
    let new = c.push_at.new.lists in
    let count : length new ≡ c.loop-step.lists.len = c.push_at.auto.lists ∙ c.as_mut_slice.ensures.len in
    let long : length new ≡ length c.loop-step.lists.items = c.push_at.auto.lists ∙ ap length c.as_mut_slice.ensures.value in
    let is : lists_of new ≡ set (lists_of c.loop-step.lists.items) step.to (list_at c.loop-step.lists.items step.to ++ step.from ∷ []) =
    subst (λ (old : List (Vec ℕ)). lists_of new ≡ set (lists_of old) step.to (list_at old step.to ++ step.from ∷ [])) c.as_mut_slice.ensures.value c.in_ok-push_at.ensures in
    subst (λ (after : List (Vec ℕ)). SourcesSoFar c.args.count c.args.moves.now (c.loop-step.step-index + 1) after) (sym (take_at new (drop (length new) c.loop-step.lists.items) c.loop-step.lists.len count))
    (sources_more c.args.count c.args.moves.now c.loop-step.step-index c.loop-step.lists.items new step c.loop-step-test.true (get_or_default c.args.moves.now c.loop-step.step-index none step c.loop-step-test.true)
    (c.requires c.loop-step.step-index none c.loop-step-test.true) c.loop-step.invariant long is)

pub returns : goal.returns
returns c = sources_all c.args.count c.args.moves.now c.loop-step.step-index c.loop-step.lists.items c.loop-step-test.false c.loop-step.invariant
