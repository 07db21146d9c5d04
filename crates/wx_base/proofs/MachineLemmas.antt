use Rattle.std.proofs.Common.{refl, arith, rules}
use Rattle.wx_base.specs.Machine.{m1, IsShape, IsTiming, IsMachine}

timing : IsTiming m1.alu × IsTiming m1.mul × IsTiming m1.mem
timing = (
  record { latency = (omega arith, omega arith); occupancy = (omega arith, omega arith); slow = omega arith },
  record { latency = (omega arith, omega arith); occupancy = (omega arith, omega arith); slow = omega arith },
  record { latency = (omega arith, omega arith); occupancy = (omega arith, omega arith); slow = omega arith },
)

shape : IsShape m1.shape
shape = record {
  sets = (omega arith, omega arith);
  sets_power = (1, refl);
  ways = (omega arith, omega arith);
  line = (omega arith, omega arith);
  line_power = (4, refl);
}

-- the machine of the examples is in range
pub m1_in_range : IsMachine m1
m1_in_range = record {
  width = (omega arith, omega arith);
  queue = (omega arith, omega arith);
  hit = (omega arith, omega arith);
  miss = omega arith;
  alu = timing.0;
  alu_never_slow = refl;
  mul = timing.1;
  mem = timing.2;
  shape = shape;
  horizon = (omega arith, omega arith);
  states = (omega arith, omega arith);
  regions = omega arith;
  region = search rules;
  apart = λ i j a b _ h _. cc;
}
