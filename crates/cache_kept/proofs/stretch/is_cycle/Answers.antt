use Rattle.std.proofs.Common.{◌≡◌, List, ℕ, Bool, true, [], ◌∷◌, length, sym, subst, ◌∙◌, arith}
use Rattle.std.specs.List.{Contains}
use Rattle.std.specs.Global.{Vec}
use Rattle.cache_kept.specs.Walk.{is_marked, AreNodes, AreSpread}
use Rattle.cache_kept.specs.Ways.{list_at}
use Rattle.cache_kept.proofs.KnownLemmas.{is_one_cycle, sources_nodes, targets_nodes}
use Rattle.cache_kept.proofs.WaysLemmas.{list_there}
use Rattle.cache_kept.proofs.stretch.is_cycle.Goals as goal

pub spread-requires-clause-lists : goal.spread-requires-clause-lists
spread-requires-clause-lists c node =
    subst (λ (lists : List (Vec ℕ)). AreNodes (length lists) (list_at lists node)) (sym c.as_slice.ensures.value) (targets_nodes c.args.flow.now c.args.ways.now.targets.items node c.requires.flow c.requires.ways.targets)

pub spread-requires-clause-roots : goal.spread-requires-clause-roots
spread-requires-clause-roots c =
    subst (λ (lists : List (Vec ℕ)). AreNodes (length lists) c.as_slice-first.result.now) (sym c.as_slice.ensures.value)
    (subst (λ (roots : List ℕ). AreNodes (length c.args.ways.now.targets.items) roots) (sym (c.as_slice-first.ensures.value
    ∙ sym (list_there c.args.ways.now.targets.items c.args.head c.index.result.now (omega (arith, c.requires.ways.targets.long, c.requires.head)) c.index.ensures)))
    (targets_nodes c.args.flow.now c.args.ways.now.targets.items c.args.head c.requires.flow c.requires.ways.targets))

pub spread-requires-2-clause-lists : goal.spread-requires-2-clause-lists
spread-requires-2-clause-lists c node =
    subst (λ (lists : List (Vec ℕ)). AreNodes (length lists) (list_at lists node)) (sym c.as_slice-2.ensures.value) (sources_nodes c.args.flow.now c.args.ways.now.sources.items node c.requires.flow c.requires.ways.sources)

pub returns : goal.returns
returns c all =
    is_one_cycle c.args.flow.now c.args.ways.now.targets.items c.args.ways.now.sources.items c.args.members.now c.args.head c.args.inside.now c.in_ok-ahead.ahead.items c.in_ok-back.back.items
    c.requires.ways.targets c.requires.ways.sources c.requires.inside c.as_slice-first.result.now
    (c.as_slice-first.ensures.value
    ∙ sym (list_there c.args.ways.now.targets.items c.args.head c.index.result.now (omega (arith, c.requires.ways.targets.long, c.requires.head)) c.index.ensures))
    (subst (λ (lists : List (Vec ℕ)). AreSpread lists c.args.inside.now c.as_slice-first.result.now c.in_ok-ahead.ahead.items) c.as_slice.ensures.value c.in_ok-ahead.ensures)
    (subst (λ (lists : List (Vec ℕ)). AreSpread lists c.args.inside.now (c.args.head ∷ []) c.in_ok-back.back.items) c.as_slice-2.ensures.value c.in_ok-back.ensures)
    (subst (λ (marks : List Bool). (node : ℕ) → Contains c.args.members.now node → is_marked marks node ≡ true) c.as_slice-3.ensures.value (c.are_marked.ensures c.if-not-are_marked.false))
    (subst (λ (marks : List Bool). (node : ℕ) → Contains c.args.members.now node → is_marked marks node ≡ true) c.as_slice-4.ensures.value (c.are_marked-is_back.ensures all))
