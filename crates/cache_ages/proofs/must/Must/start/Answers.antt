use Rattle.std.proofs.Common.{length}
use Rattle.cache_ages.proofs.States.{fresh}
use Rattle.cache_ages.proofs.must.Must.start.Goals as goal

pub returns-clause-unknown : goal.returns-clause-unknown
returns-clause-unknown c = fresh c.args.shape.ways (length c.args.lines.now) c.in_ok-lines.lines.items c.in_ok-ages.ages.items (c.in_ok-ages.ensures.items_if_clones_equal (λ y e. e))
