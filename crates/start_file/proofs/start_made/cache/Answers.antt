use Rattle.std.proofs.Common.{ap, subst}
use Rattle.std.specs.Prelude.{Err}
use Rattle.cache_lru.specs.Lru.{IsFirstBad}
use Rattle.start_file.proofs.start_made.cache.Goals as goal

pub returns-in-Err-NotACache-clause-refused : goal.returns-in-Err-NotACache-clause-refused
returns-in-Err-NotACache-clause-refused c =
    subst (λ lists. IsFirstBad c.args.shape lists c.in-Err-NotACache.set) c.in_ok-lists.ensures.lists
    (c.in-Err-NotACache.ensures.cause c.in-Err-NotACache.set (ap Err c.in-Err-NotACache.field-0-is))
