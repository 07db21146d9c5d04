use Rattle.std.proofs.Common.{sym}
use Rattle.flow_ctx.proofs.SearchLemmas.{entry_last}
use Rattle.flow_ctx.proofs.search.entry_of.Goals as goal

pub returns-in-Some : goal.returns-in-Some
returns-in-Some c = entry_last c.args.program.now.start c.args.chain.now c.in-Some.call.now (sym c.in-Some.ensures.value)
