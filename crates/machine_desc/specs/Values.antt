-- The machine that the keys of a description tell. This project's own.
-- Where a key holds no number, text or truth value, 0, no text or falsehood stands; in a description there is no such key.
use Rattle.std.specs.Prelude.{ℕ, ◌≤◌, ℤ, pos, negsuc, Bool, false, Option, Some, None, List, [], ◌∷◌, codes, option_and_then, unwrap_or}
use Rattle.toml.specs.Data.{Data, Items, no_items, item, get, as_str, as_bool}
use Rattle.wx_base.specs.declared.machine.Machine.{Machine}
use Rattle.wx_base.specs.declared.machine.Region.{Region}
use Rattle.wx_base.specs.declared.machine.Unit.{Unit as Timing}
use Rattle.machine_desc.specs.Document.{holder, integer_in, elements}

-- a whole number as a natural one, 0 below 0
abbrev pub natural : ℤ → ℕ
natural (pos n) = n
natural (negsuc n) = 0

-- the number at a name
abbrev pub natural_in : List ℕ → Data → ℕ
natural_in name d = natural (integer_in name d)

-- the text at a name
abbrev pub text_in : List ℕ → Data → List ℕ
text_in name d = unwrap_or (option_and_then as_str (get name d)) []

-- the truth value at a name
abbrev pub truth_in : List ℕ → Data → Bool
truth_in name d = unwrap_or (option_and_then as_bool (get name d)) false

-- the whole number at a name in what stands where a table should be
abbrev pub integer_at : List ℕ → Option Data → ℤ
integer_at name None = pos 0
integer_at name (Some d) = integer_in name d

-- the number of a key
abbrev pub number_at : Data → List ℕ → List ℕ → ℕ
number_at doc name key = natural (integer_at key (holder doc name))

-- a unit's numbers, with what a slow instruction takes besides
abbrev pub timing_at : Data → List ℕ → ℕ → Timing
timing_at doc name slow = record {
  latency = number_at doc name (codes "latency");
  occupancy = number_at doc name (codes "occupancy");
  slow = slow;
}

-- the addresses of a region are words
pub record HasWords (d : Data) : Type 0 where
  pub first : natural_in (codes "first") d ≤ 4294967295
  pub last : natural_in (codes "last") d ≤ 4294967295

-- the addresses of each region are words
abbrev pub HaveWords : Items → Type 0
HaveWords no_items = Unit {0}
HaveWords (item d ds) = HasWords d × HaveWords ds

-- a region
abbrev pub region_of : Data → Region
region_of d = record {
  name = text_in (codes "name") d;
  first = natural_in (codes "first") d;
  last = natural_in (codes "last") d;
  slow = truth_in (codes "slow") d;
}

-- the regions in their order
abbrev pub regions_of : Items → List Region
regions_of no_items = []
regions_of (item d ds) = region_of d ∷ regions_of ds

-- the machine: the ALU is never slow
abbrev pub machine_of : Data → Machine
machine_of doc = record {
  width = number_at doc [] (codes "width");
  queue = number_at doc [] (codes "queue");
  hit = number_at doc (codes "fetch") (codes "hit");
  miss = number_at doc (codes "fetch") (codes "miss");
  alu = timing_at doc (codes "alu") 0;
  mul = timing_at doc (codes "mul") (number_at doc (codes "mul") (codes "slow"));
  mem = timing_at doc (codes "mem") (number_at doc (codes "mem") (codes "slow"));
  regions = regions_of (elements doc);
  shape = record {
    sets = number_at doc (codes "cache") (codes "sets");
    ways = number_at doc (codes "cache") (codes "ways");
    line = number_at doc (codes "cache") (codes "line");
  };
  horizon = number_at doc [] (codes "horizon");
  states = number_at doc [] (codes "states");
}
