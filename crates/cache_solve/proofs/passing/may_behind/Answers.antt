use Rattle.cache_solve.proofs.Lowering.{may_within}
use Rattle.cache_solve.proofs.Tables.{may_passed}
use Rattle.cache_solve.proofs.passing.may_behind.Goals as goal

pub returns-clause-ages : goal.returns-clause-ages
returns-clause-ages c = may_passed c.args.may.now.shape c.args.may.now.lines c.args.may.now c.in_ok-after.after c.args.accesses.now c.in_ok-after.ensures.known

pub behind-requires-clause-within : goal.behind-requires-clause-within
behind-requires-clause-within c = may_within c.args.may.now c.are_bounds.ensures
