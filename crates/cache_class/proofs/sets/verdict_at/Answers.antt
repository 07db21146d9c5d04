use Rattle.std.proofs.Common.{◌≡◌, ◌<◌, ℕ, List, get_or, length, slice_get, Some, subst, sym, ap, arith}
use Rattle.cache_flow.specs.Flows.{accesses_of}
use Rattle.cache_sets.specs.declared.verdict.Verdict.{Verdict}
use Rattle.cache_sets.specs.declared.verdict.Verdict.TheVariants.{Held}
use Rattle.cache_sets.specs.Verdicts.{IsVerdict}
use Rattle.cache_class.proofs.NarrowLemmas.{as_many, narrow_inside, verdict_told}
use Rattle.cache_class.proofs.TableLemmas.{stands_at}
use Rattle.cache_class.proofs.sets.verdict_at.Goals as goal

pub bounds-as_slice-place : goal.bounds-as_slice-place
bounds-as_slice-place c =
    let tables = c.args.tables.now in
    let a = c.args.access in
    let table = c.set_of_line-table.result.now in
    let told = c.index.result.now in
    let inside : a.node < length table.verdicts.items =
    omega (arith, c.set_of_line-table.ensures.judged.long, c.requires.access.inside, as_many tables.shape tables.flow table.flow a.node a.place a.line c.set_of_line-table.ensures.of c.requires.access) in
    let at : slice_get table.verdicts.items a.node ≡ Some told = stands_at table.verdicts.items a.node told inside c.index.ensures in
    let here : c.place_in_set-place.result < length (accesses_of table.flow a.node) = subst (λ (p : ℕ). p < length (accesses_of table.flow a.node)) (sym c.place_in_set-place.ensures)
    (narrow_inside tables.shape tables.flow table.flow a.node a.place a.line c.set_of_line-table.ensures.of c.requires.access) in
    omega (arith, here, (c.set_of_line-table.ensures.judged.each a.node told at).long, ap (λ (v : List Verdict). length v) c.as_slice.ensures)

pub returns : goal.returns
returns c =
    let tables = c.args.tables.now in
    let a = c.args.access in
    let table = c.set_of_line-table.result.now in
    let told = c.index.result.now in
    let inside : a.node < length table.verdicts.items =
    omega (arith, c.set_of_line-table.ensures.judged.long, c.requires.access.inside, as_many tables.shape tables.flow table.flow a.node a.place a.line c.set_of_line-table.ensures.of c.requires.access) in
    let at : slice_get table.verdicts.items a.node ≡ Some told = stands_at table.verdicts.items a.node told inside c.index.ensures in
    subst (λ (v : List Verdict). IsVerdict tables.shape tables.flow a.node a.place a.line (get_or v c.place_in_set-place.result Held)) (sym c.as_slice.ensures)
    (subst (λ (p : ℕ). IsVerdict tables.shape tables.flow a.node a.place a.line (get_or told p Held)) (sym c.place_in_set-place.ensures)
    (verdict_told tables.shape tables.flow table.flow a.node a.place a.line c.set_of_line-table.ensures.of c.requires.access c.sets_tell.ensures.held c.sets_tell.ensures.barred
    table.verdicts.items told c.set_of_line-table.ensures.judged at))
