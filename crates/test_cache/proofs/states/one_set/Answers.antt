use Rattle.std.proofs.Common.{refl, arith}
use Rattle.test_cache.proofs.states.one_set.Goals as goal

pub returns : goal.returns
returns c = record {
  sets = (omega arith, omega arith);
  sets_power = (0, refl);
  ways = (omega arith, omega arith);
  line = (omega arith, omega arith);
  line_power = (4, refl);
}
