use Rattle.std.proofs.Common.{refl, arith}
use Rattle.test_flow.proofs.classes.shape_of.Goals as goal

pub returns-in-text : goal.returns-in-text
returns-in-text c = record {
  sets = (omega arith, omega arith);
  sets_power = (0, refl);
  ways = (omega arith, omega arith);
  line = (omega arith, omega arith);
  line_power = (4, refl);
}

pub returns-in-text-2 : goal.returns-in-text-2
returns-in-text-2 c = record {
  sets = (omega arith, omega arith);
  sets_power = (0, refl);
  ways = (omega arith, omega arith);
  line = (omega arith, omega arith);
  line_power = (4, refl);
}

pub returns-in-text-3 : goal.returns-in-text-3
returns-in-text-3 c = record {
  sets = (omega arith, omega arith);
  sets_power = (1, refl);
  ways = (omega arith, omega arith);
  line = (omega arith, omega arith);
  line_power = (4, refl);
}
