use Rattle.std.proofs.Common.{length}
use Rattle.cache_ages.proofs.States.{fresh}
use Rattle.cache_ages.proofs.may.May.start.Goals as goal

pub returns-clause-anywhere : goal.returns-clause-anywhere
returns-clause-anywhere c = fresh 0 (length c.args.lines.now) c.in_ok-lines.lines.items c.in_ok-ages.ages.items (c.in_ok-ages.ensures.items_if_clones_equal (λ y e. e))
