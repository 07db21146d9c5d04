use Rattle.std.proofs.Common.{◌∙◌, sym}
use Rattle.std.proofs.lemmas.Bool.{false≢true}
use Rattle.cache_class.proofs.KeptLemmas.{loop_outermost, none_outermost}
use Rattle.cache_class.proofs.TableLemmas.{stands_at}
use Rattle.cache_class.proofs.scopes.outermost_scope.Goals as goal

pub returns-in-Some : goal.returns-in-Some
returns-in-Some c =
    let tables = c.args.tables.now in
    let a = c.args.access in
    let there = c.in-Some.ensures.lookup in
    loop_outermost tables.shape tables.u.now tables.flow a.node a.place a.line c.requires.tables.whole tables.chains.are_nested c.chain_of-chain.result.now c.in_ok-found.found
    c.chain_of-chain.ensures c.in_ok-found.ensures (λ e kept. false≢true (sym c.if-in_run.false ∙ c.in_ok-in_run.ensures.1 (e, kept)))
    c.in-Some.number.now (stands_at c.chain_of-chain.result.now c.in_ok-found.found c.in-Some.number.now there.3.0 there.1)

pub returns-in-None : goal.returns-in-None
returns-in-None c =
    let tables = c.args.tables.now in
    let a = c.args.access in
    none_outermost tables.shape tables.u.now tables.flow a.node a.place a.line c.requires.tables.whole tables.chains.are_nested c.chain_of-chain.result.now c.in_ok-found.found
    c.chain_of-chain.ensures c.in_ok-found.ensures (λ e kept. false≢true (sym c.if-in_run.false ∙ c.in_ok-in_run.ensures.1 (e, kept))) c.in-None.ensures.lookup.3
