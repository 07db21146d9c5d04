use Rattle.std.proofs.Common.{◌<◌, ◌∙◌, length, arith}
use Rattle.cache_class.proofs.ChainLemmas.{chain_is}
use Rattle.cache_class.proofs.TableLemmas.{stands_at}
use Rattle.cache_class.proofs.scopes.chain_of.Goals as goal

pub returns : goal.returns
returns c =
    let tables = c.args.tables.now in
    let are = c.requires.tables.chains_are in
    let inside : c.args.node < length tables.chains.loops.items = omega (arith, c.requires.node, are.chains.long) in
    chain_is tables.u.now tables.chains c.args.node c.as_slice.result.now are
    (c.as_slice.ensures.value ∙ are.chains.each c.args.node c.index.result.now (stands_at tables.chains.loops.items c.args.node c.index.result.now inside c.index.ensures))
