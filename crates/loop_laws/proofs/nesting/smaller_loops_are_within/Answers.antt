use Rattle.loop_laws.proofs.NestLemmas.{smaller_loops_are_within}
use Rattle.loop_laws.proofs.Sizes.{loops_of_one_size_are_one}
use Rattle.loop_laws.proofs.nesting.smaller_loops_are_within.Goals as goal

pub returns-clause-within : goal.returns-clause-within
returns-clause-within c = smaller_loops_are_within c.loops_are_nested.ensures

pub returns-clause-one : goal.returns-clause-one
returns-clause-one c = loops_of_one_size_are_one c.loops_are_nested.ensures c.heads_are_entries.ensures.paths
