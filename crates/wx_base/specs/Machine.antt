-- The written machine: its numbers and their ranges. This project's own.
use Rattle.std.specs.Prelude.{◌≡◌, ◌≢◌, ℕ, ◌<◌, ◌≤◌, ◌^◌, ◌⊎◌, [], length, All, slice_get, Some}
use Rattle.wx_base.specs.declared.machine.Machine.{Machine}
use Rattle.wx_base.specs.declared.machine.Shape.{Shape}
use Rattle.wx_base.specs.declared.machine.Region.{Region}
use Rattle.wx_base.specs.declared.machine.Unit.{Unit as Timing}
use Rattle.wx_base.specs.declared.machine.UnitKind.{UnitKind}
use Rattle.wx_base.specs.declared.machine.UnitKind.TheVariants.{Alu, Mul, Mem}

-- the numbers of a unit
abbrev pub timing_of : Machine → UnitKind → Timing
timing_of machine Alu = machine.alu
timing_of machine Mul = machine.mul
timing_of machine Mem = machine.mem

-- the number lies between two, both included
abbrev pub Between : ℕ → ℕ → ℕ → Type 0
Between low high n = (low ≤ n) × (n ≤ high)

-- the number is a power of two
abbrev pub IsPowerOfTwo : ℕ → Type 0
IsPowerOfTwo n = (k : ℕ) × (n ≡ 2 ^ k)

-- the ranges of a cache's shape
pub record IsShape (shape : Shape) : Type 0 where
  pub sets : Between 1 1024 shape.sets
  pub sets_power : IsPowerOfTwo shape.sets
  pub ways : Between 1 16 shape.ways
  pub line : Between 4 256 shape.line
  pub line_power : IsPowerOfTwo shape.line

-- the ranges of a unit's numbers
pub record IsTiming (unit : Timing) : Type 0 where
  pub latency : Between 1 1000 unit.latency
  pub occupancy : Between 1 1000 unit.occupancy
  pub slow : unit.slow ≤ 1000

-- the two regions have no address in common
abbrev pub AreApart : Region → Region → Type 0
AreApart a b = (a.last < b.first) ⊎ (b.last < a.first)

-- the ranges of a machine
pub record IsMachine (machine : Machine) : Type 0 where
  pub width : Between 1 2 machine.width
  pub queue : Between 1 8 machine.queue
  pub hit : Between 1 1000 machine.hit
  pub miss : machine.miss ≤ 1000
  pub alu : IsTiming machine.alu
  pub alu_never_slow : machine.alu.slow ≡ 0
  pub mul : IsTiming machine.mul
  pub mem : IsTiming machine.mem
  pub shape : IsShape machine.shape
  pub horizon : Between 1 4095 machine.horizon
  pub states : Between 1 64 machine.states
  pub regions : length machine.regions ≤ 64
  pub region : All (λ region. region.first ≤ region.last) machine.regions
  pub apart : (i j : ℕ) (a b : Region) → i ≢ j → slice_get machine.regions i ≡ Some a → slice_get machine.regions j ≡ Some b → AreApart a b

-- the machine that the examples speak of
abbrev pub m1 : Machine
m1 = record {
  width = 1;
  queue = 2;
  hit = 1;
  miss = 8;
  alu = record { latency = 1; occupancy = 1; slow = 0 };
  mul = record { latency = 3; occupancy = 1; slow = 2 };
  mem = record { latency = 2; occupancy = 1; slow = 6 };
  regions = [];
  shape = record { sets = 2; ways = 2; line = 16 };
  horizon = 255;
  states = 8;
}
