use Rattle.std.proofs.Common.{Option, subst}
use Rattle.flow_ctx.specs.declared.scope.Scope.{Scope}
use Rattle.cache_class.specs.Tables.{IsOutermostScope}
use Rattle.cache_class.proofs.VerdictLemmas.{hit_told, miss_told, first_told, open_told}
use Rattle.cache_class.proofs.events.fetch_class.Goals as goal

pub returns-in-Held : goal.returns-in-Held
returns-in-Held c =
    let tables = c.args.tables.now in
    let a = c.args.access in
    hit_told tables.shape c.args.tables.now.u.now tables.flow a.node a.place a.line c.verdict_at.result c.in-Held.is c.verdict_at.ensures

pub returns-in-Barred : goal.returns-in-Barred
returns-in-Barred c =
    let tables = c.args.tables.now in
    let a = c.args.access in
    miss_told tables.shape c.args.tables.now.u.now tables.flow a.node a.place a.line c.verdict_at.result c.in-Barred.is c.verdict_at.ensures

pub returns-in-Some : goal.returns-in-Some
returns-in-Some c =
    let tables = c.args.tables.now in
    let a = c.args.access in
    first_told tables.shape c.args.tables.now.u.now tables.flow a.node a.place a.line c.verdict_at.result c.in-Some.scope c.in-Unsure.is c.verdict_at.ensures
    (subst (λ (found : Option Scope). IsOutermostScope tables.shape c.args.tables.now.u.now tables.flow a.node a.place a.line found) c.in-Some.is c.in_ok-scope-in-Unsure.ensures)

pub returns-in-None : goal.returns-in-None
returns-in-None c =
    let tables = c.args.tables.now in
    let a = c.args.access in
    open_told tables.shape c.args.tables.now.u.now tables.flow a.node a.place a.line c.verdict_at.result c.in-Unsure.is c.verdict_at.ensures
    (subst (λ (found : Option Scope). IsOutermostScope tables.shape c.args.tables.now.u.now tables.flow a.node a.place a.line found) c.in-None.is c.in_ok-scope-in-Unsure.ensures)
