use Rattle.wx_base.specs.CacheStates.{younger_start}
use Rattle.cache_pers.specs.Stays.{younger_of}
use Rattle.cache_solve.proofs.Lowering.{younger_least_start, younger_nothing}
use Rattle.cache_solve.proofs.younger.YoungerState.first.Goals as goal

pub returns-clause-of : goal.returns-clause-of
returns-clause-of c = record {
  of_shape = c.in_ok-state.ensures.made.shape;
  of_lines = c.in_ok-state.ensures.made.lines;
  within = younger_nothing c.args.lines.now (younger_of c.in_ok-state.state) c.in_ok-state.ensures.unknown;
}

pub returns-clause-covered : goal.returns-clause-covered
returns-clause-covered c = younger_least_start c.args.lines.now (younger_of c.in_ok-state.state) younger_start c.in_ok-state.ensures.unknown
