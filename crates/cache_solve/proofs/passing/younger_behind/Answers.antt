use Rattle.cache_solve.proofs.Tables.{younger_passed}
use Rattle.cache_solve.proofs.passing.younger_behind.Goals as goal

pub returns-clause-covers : goal.returns-clause-covers
returns-clause-covers c = (younger_passed c.args.younger.now.shape c.args.younger.now.lines c.args.younger.now c.in_ok-after.after c.args.accesses.now c.in_ok-after.ensures.known).0

pub returns-clause-covered : goal.returns-clause-covered
returns-clause-covered c = (younger_passed c.args.younger.now.shape c.args.younger.now.lines c.args.younger.now c.in_ok-after.after c.args.accesses.now c.in_ok-after.ensures.known).1
