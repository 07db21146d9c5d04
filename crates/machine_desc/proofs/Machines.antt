-- The machine of a document in which no key has a fault lies in its ranges.
use Rattle.std.proofs.Common.{◌≡◌, true, false, [], codes, is_some, refl, subst, sym, arith}
use Rattle.toml.specs.Data.{Data, as_table, table}
use Rattle.wx_base.specs.declared.machine.Machine.{Machine}
use Rattle.wx_base.specs.Machine.{Between, IsMachine}
use Rattle.machine_desc.specs.Document.{elements, faults}
use Rattle.machine_desc.specs.Meeting.{NoneMeet}
use Rattle.machine_desc.specs.Keys.{rows}
use Rattle.machine_desc.specs.Laws.{DescriptionsAreInRange}
use Rattle.machine_desc.specs.Values.{machine_of, number_at, regions_of}
use Rattle.machine_desc.proofs.Ranges.{top_in, inner_in, inner_power}
use Rattle.machine_desc.proofs.Elements.{all_apart, few, ordered_from, regions_right}

pub width_in : (d : Data) → is_some (as_table d) ≡ true → faults d ≡ [] → Between 1 2 (number_at d [] (codes "width"))
unfolding rows
width_in d t h = top_in d 0 (codes "width") 1 2 t h refl

pub queue_in : (d : Data) → is_some (as_table d) ≡ true → faults d ≡ [] → Between 1 8 (number_at d [] (codes "queue"))
unfolding rows
queue_in d t h = top_in d 1 (codes "queue") 1 8 t h refl

pub states_in : (d : Data) → is_some (as_table d) ≡ true → faults d ≡ [] → Between 1 64 (number_at d [] (codes "states"))
unfolding rows
states_in d t h = top_in d 3 (codes "states") 1 64 t h refl

pub sets_in : (d : Data) → is_some (as_table d) ≡ true → faults d ≡ [] → Between 1 1024 (number_at d (codes "cache") (codes "sets"))
unfolding rows
sets_in d t h = inner_in d 7 8 (codes "cache") (codes "sets") 1 1024 true t h refl refl refl

pub ways_in : (d : Data) → is_some (as_table d) ≡ true → faults d ≡ [] → Between 1 16 (number_at d (codes "cache") (codes "ways"))
unfolding rows
ways_in d t h = inner_in d 7 9 (codes "cache") (codes "ways") 1 16 false t h refl refl refl

pub line_in : (d : Data) → is_some (as_table d) ≡ true → faults d ≡ [] → Between 4 256 (number_at d (codes "cache") (codes "line"))
unfolding rows
line_in d t h = inner_in d 7 10 (codes "cache") (codes "line") 4 256 true t h refl refl refl

in_range : (d : Data) → is_some (as_table d) ≡ true → faults d ≡ [] → NoneMeet (regions_of (elements d)) → IsMachine (machine_of d)
unfolding rows
in_range d t h none = record {
  width = width_in d t h;
  queue = queue_in d t h;
  hit = inner_in d 4 5 (codes "fetch") (codes "hit") 1 1000 false t h refl refl refl;
  miss = (inner_in d 4 6 (codes "fetch") (codes "miss") 0 1000 false t h refl refl refl).1;
  alu = record {
    latency = inner_in d 11 12 (codes "alu") (codes "latency") 1 1000 false t h refl refl refl;
    occupancy = inner_in d 11 13 (codes "alu") (codes "occupancy") 1 1000 false t h refl refl refl;
    slow = omega arith;
  };
  alu_never_slow = refl;
  mul = record {
    latency = inner_in d 14 15 (codes "mul") (codes "latency") 1 1000 false t h refl refl refl;
    occupancy = inner_in d 14 16 (codes "mul") (codes "occupancy") 1 1000 false t h refl refl refl;
    slow = (inner_in d 14 17 (codes "mul") (codes "slow") 0 1000 false t h refl refl refl).1;
  };
  mem = record {
    latency = inner_in d 18 19 (codes "mem") (codes "latency") 1 1000 false t h refl refl refl;
    occupancy = inner_in d 18 20 (codes "mem") (codes "occupancy") 1 1000 false t h refl refl refl;
    slow = (inner_in d 18 21 (codes "mem") (codes "slow") 0 1000 false t h refl refl refl).1;
  };
  shape = record {
    sets = sets_in d t h;
    sets_power = inner_power d 7 8 (codes "cache") (codes "sets") 1 1024 t h refl refl refl;
    ways = ways_in d t h;
    line = line_in d t h;
    line_power = inner_power d 7 10 (codes "cache") (codes "line") 4 256 t h refl refl refl;
  };
  horizon = top_in d 2 (codes "horizon") 1 4095 t h refl;
  states = states_in d t h;
  regions = few d t h;
  region = ordered_from (elements d) (regions_right d h);
  apart = all_apart (regions_of (elements d)) none;
}

-- the same for a machine that is that one
pub machine_in_range : (d : Data) (machine : Machine) → is_some (as_table d) ≡ true → faults d ≡ [] → NoneMeet (regions_of (elements d)) → machine ≡ machine_of d → IsMachine machine
machine_in_range d machine t h none told = subst IsMachine (sym told) (in_range d t h none)

-- so the machine that bytes describe does
pub descriptions_in_range : DescriptionsAreInRange
descriptions_in_range bytes machine d = machine_in_range (table d.members) machine refl d.described.faultless d.described.apart d.described.told
