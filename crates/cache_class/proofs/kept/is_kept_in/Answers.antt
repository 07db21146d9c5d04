use Rattle.std.proofs.Common.{◌<◌, ℕ, get_or, length, subst, sym}
use Rattle.std.specs.Bool.{Decides}
use Rattle.cache_flow.specs.Flows.{accesses_of}
use Rattle.cache_flow.specs.Shown.{IsKept}
use Rattle.cache_class.proofs.NarrowLemmas.{kept_told, narrow_inside, narrow_stretch, narrow_ways}
use Rattle.cache_class.proofs.kept.is_kept_in.Goals as goal

pub is_kept-requires-clause-ways : goal.is_kept-requires-clause-ways
is_kept-requires-clause-ways c =
    let tables = c.args.tables.now in
    let a = c.args.access in
    narrow_ways tables.shape tables.flow c.set_of_line.result.now.flow a.node a.place a.line c.set_of_line.ensures.of c.requires.access tables.ways c.requires.tables.ways_are

pub is_kept-requires-clause-stretch : goal.is_kept-requires-clause-stretch
is_kept-requires-clause-stretch c =
    let tables = c.args.tables.now in
    let a = c.args.access in
    narrow_stretch tables.shape tables.flow c.set_of_line.result.now.flow a.node a.place a.line c.set_of_line.ensures.of c.requires.access c.args.stretch.now c.requires.stretch

pub is_kept-requires-clause-place : goal.is_kept-requires-clause-place
is_kept-requires-clause-place c =
    let tables = c.args.tables.now in
    let a = c.args.access in
    let narrow = c.set_of_line.result.now.flow in
    subst (λ (p : ℕ). p < length (accesses_of narrow a.node)) (sym c.place_in_set-place.ensures)
    (narrow_inside tables.shape tables.flow narrow a.node a.place a.line c.set_of_line.ensures.of c.requires.access)

pub returns : goal.returns
returns c part members =
    let tables = c.args.tables.now in
    let a = c.args.access in
    let narrow = c.set_of_line.result.now.flow in
    kept_told tables.shape tables.flow narrow a.node a.place a.line c.set_of_line.ensures.of c.requires.access c.sets_tell.ensures.kept part c.in_ok-kept.kept
    (subst (λ (p : ℕ). Decides c.in_ok-kept.kept (IsKept tables.shape narrow part a.node p (get_or (accesses_of narrow a.node) p 0))) c.place_in_set-place.ensures
    (c.in_ok-kept.ensures part members))
