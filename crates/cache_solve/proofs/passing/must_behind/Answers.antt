use Rattle.cache_solve.proofs.Lowering.{must_within}
use Rattle.cache_solve.proofs.Tables.{must_passed}
use Rattle.cache_solve.proofs.passing.must_behind.Goals as goal

pub returns-clause-ages : goal.returns-clause-ages
returns-clause-ages c = must_passed c.args.must.now.shape c.args.must.now.lines c.args.must.now c.in_ok-after.after c.args.accesses.now c.in_ok-after.ensures.known

pub behind-requires-clause-within : goal.behind-requires-clause-within
behind-requires-clause-within c = must_within c.args.must.now c.are_bounds.ensures
