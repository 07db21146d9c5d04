use Rattle.std.proofs.Common.{List, ℕ, length, sym, subst}
use Rattle.std.specs.Global.{Vec}
use Rattle.cache_kept.specs.Walk.{AreNodes}
use Rattle.cache_kept.specs.Ways.{list_at}
use Rattle.cache_kept.proofs.KnownLemmas.{targets_nodes, roots_nodes, spread_closed, spread_sure, spread_same}
use Rattle.cache_kept.proofs.known.known.Goals as goal

pub spread-requires-clause-lists : goal.spread-requires-clause-lists
spread-requires-clause-lists c node =
    subst (λ (lists : List (Vec ℕ)). AreNodes (length lists) (list_at lists node)) (sym c.as_slice.ensures.value) (targets_nodes c.args.flow.now c.args.ways.now.targets.items node c.requires.flow c.requires.ways.targets)

pub spread-requires-clause-roots : goal.spread-requires-clause-roots
spread-requires-clause-roots c =
    subst (λ (lists : List (Vec ℕ)). AreNodes (length lists) c.as_slice-3.result.now) (sym c.as_slice.ensures.value)
    (subst (λ (roots : List ℕ). AreNodes (length c.args.ways.now.targets.items) roots) (sym c.as_slice-3.ensures.value)
    (roots_nodes c.args.flow.now c.args.ways.now.targets.items c.args.stretch.now.members.now c.args.line c.in_ok-roots.roots.items c.requires.flow c.requires.ways.targets c.in_ok-roots.ensures))

pub returns-clause-closed : goal.returns-clause-closed
returns-clause-closed c =
    spread_closed c.args.flow.now c.args.ways.now.targets.items c.args.stretch.now.members.now c.args.line c.args.stretch.now.inside.items c.in_ok-marks.marks.items c.in_ok-roots.roots.items
    c.requires.flow c.requires.ways.targets c.requires.stretch.inside c.in_ok-roots.ensures
    (spread_same _ _ _ _ _ _ c.in_ok-marks.marks.items c.as_slice.ensures.value c.as_slice-2.ensures.value c.as_slice-3.ensures.value c.in_ok-marks.ensures)

pub returns-clause-sure : goal.returns-clause-sure
returns-clause-sure c shape part same =
    spread_sure c.args.flow.now c.args.ways.now.targets.items c.args.stretch.now.members.now c.args.line c.args.stretch.now.inside.items c.in_ok-marks.marks.items c.in_ok-roots.roots.items
    c.requires.flow c.requires.ways.targets c.requires.stretch.inside c.in_ok-roots.ensures
    (spread_same _ _ _ _ _ _ c.in_ok-marks.marks.items c.as_slice.ensures.value c.as_slice-2.ensures.value c.as_slice-3.ensures.value c.in_ok-marks.ensures) shape part same
