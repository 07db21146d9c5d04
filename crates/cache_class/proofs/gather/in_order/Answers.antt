use Rattle.std.proofs.Common.{rules}
use Rattle.std.proofs.lemmas.Iterator.{items_from_collect, YieldsList-from_map}
use Rattle.std.proofs.lemmas.Iterator.Consumers.{YieldsList-at, YieldsList-from_rest}
use Rattle.cache_class.specs.GroupsSoFar.{group_at}
use Rattle.cache_class.proofs.gather.in_order.Goals as goal

pub returns-clause-all : goal.returns-clause-all
returns-clause-all c =
    items_from_collect c.collect.result c.collect.ensures.ran
    (YieldsList-from_map _ group_at (YieldsList-at c.map.ensures.source (YieldsList-from_rest c.args.set.now.keys c.iter.ensures.rest)) c.map.ensures.closure (λ x r q k. search rules))
