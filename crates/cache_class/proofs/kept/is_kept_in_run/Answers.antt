use Rattle.std.proofs.Common.{◌<◌, ℕ, List, length, subst, sym, arith}
use Rattle.std.specs.List.{Contains}
use Rattle.flow_ctx.specs.declared.scope.Scope.TheVariants.{Run}
use Rattle.cache_class.specs.Accesses.{part_of}
use Rattle.cache_class.proofs.KeptLemmas.{run_decided}
use Rattle.cache_class.proofs.ReadyLemmas.{as_many_nodes}
use Rattle.cache_class.proofs.TableLemmas.{in_range}
use Rattle.cache_class.proofs.kept.is_kept_in_run.Goals as goal

pub is_kept_in-requires-clause-member : goal.is_kept_in-requires-clause-member
is_kept_in-requires-clause-member c =
    let tables = c.args.tables.now in
    let inside : c.args.access.node < length tables.u.now.nodes = omega (arith, c.requires.access.inside, as_many_nodes tables.u.now tables.flow c.requires.tables.of) in
    subst (λ (ms : List ℕ). Contains ms c.args.access.node) (sym c.requires.tables.run_is.members) (in_range (length tables.u.now.nodes) c.args.access.node inside)

pub returns : goal.returns
returns c =
    let tables = c.args.tables.now in
    let a = c.args.access in
    let inside : a.node < length tables.u.now.nodes = omega (arith, c.requires.access.inside, as_many_nodes tables.u.now tables.flow c.requires.tables.of) in
    run_decided tables.shape tables.u.now tables.flow a.node a.place a.line c.in_ok-kept.kept inside
    (c.in_ok-kept.ensures (part_of tables.u.now Run) (sym c.requires.tables.run_is.members))
