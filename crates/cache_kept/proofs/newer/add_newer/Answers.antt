use Rattle.std.proofs.Common.{sym, ◌∙◌}
use Rattle.cache_kept.proofs.NewerLemmas.{newer_some}
use Rattle.cache_kept.proofs.newer.add_newer.Goals as goal

pub returns-clause-exact : goal.returns-clause-exact
returns-clause-exact c =
    newer_some c.args.shape c.args.line c.args.known c.args.accesses.now c.since.result.now c.args.found.now.items c.add_rivals.new.found.items (sym c.is_known.ensures ∙ c.if-not-is_known.false)
    c.since.ensures c.in_ok-add_rivals.ensures.exact
