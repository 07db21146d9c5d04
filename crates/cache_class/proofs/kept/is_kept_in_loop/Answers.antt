use Rattle.std.proofs.Common.{◌<◌, ℕ, List, length, subst, sym, arith}
use Rattle.std.specs.List.{Contains}
use Rattle.flow_ctx.specs.declared.scope.Scope.TheVariants.{Loop}
use Rattle.cache_class.specs.Accesses.{part_of}
use Rattle.cache_class.proofs.KeptLemmas.{loop_decided}
use Rattle.cache_class.proofs.TableLemmas.{contained, stands_at}
use Rattle.cache_class.proofs.kept.is_kept_in_loop.Goals as goal

pub is_kept_in-requires-clause-stretch : goal.is_kept_in-requires-clause-stretch
is_kept_in-requires-clause-stretch c =
    let tables = c.args.tables.now in
    let stretch = c.index-stretch.result.now in
    let inside : c.args.number < length tables.loops.items = omega (arith, c.requires.number, c.requires.tables.loops_are.long) in
    (c.requires.tables.loops_are.each c.args.number stretch (stands_at tables.loops.items c.args.number stretch inside c.index-stretch.ensures)).is

pub is_kept_in-requires-clause-member : goal.is_kept_in-requires-clause-member
is_kept_in-requires-clause-member c =
    let tables = c.args.tables.now in
    let stretch = c.index-stretch.result.now in
    let inside : c.args.number < length tables.loops.items = omega (arith, c.requires.number, c.requires.tables.loops_are.long) in
    let ready = c.requires.tables.loops_are.each c.args.number stretch (stands_at tables.loops.items c.args.number stretch inside c.index-stretch.ensures) in
    subst (λ (ms : List ℕ). Contains ms c.args.access.node) (sym ready.members)
    (contained (part_of tables.u.now (Loop c.args.number)).members c.args.access.node c.requires.member)

pub returns : goal.returns
returns c =
    let tables = c.args.tables.now in
    let a = c.args.access in
    let stretch = c.index-stretch.result.now in
    let inside : c.args.number < length tables.loops.items = omega (arith, c.requires.number, c.requires.tables.loops_are.long) in
    let ready = c.requires.tables.loops_are.each c.args.number stretch (stands_at tables.loops.items c.args.number stretch inside c.index-stretch.ensures) in
    loop_decided tables.shape tables.u.now tables.flow a.node a.place a.line c.in_ok-kept.kept c.args.number c.requires.member
    (c.in_ok-kept.ensures (part_of tables.u.now (Loop c.args.number)) (sym ready.members))
