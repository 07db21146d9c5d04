-- The keys of a machine description, their order, and what they have to hold. This project's own.
use Rattle.std.specs.Prelude.{ℕ, ℤ, pos, Bool, true, false, ◌&&◌, List, [], ◌∷◌, codes}
use Rattle.std.specs.Str.{bytes_eq}
use Rattle.machine_desc.specs.declared.keys.Key.{Key}
use Rattle.machine_desc.specs.declared.keys.Wanted.{Wanted}
use Rattle.machine_desc.specs.declared.keys.Wanted.TheVariants.{Number, Text, Truth, Table, Array}

-- a key: the table in which it stands (none at the top), its name there, and what it has to hold
pub record Row : Type 0 where
  pub table : List ℕ
  pub name : List ℕ
  pub wanted : Wanted

-- a row by its three columns
abbrev pub row : List ℕ → List ℕ → Wanted → Row
row table name wanted = record { table = table; name = name; wanted = wanted }

-- a whole number between two, both included
abbrev pub number : ℕ → ℕ → Wanted
number lowest highest = Number (pos lowest) (pos highest) false

-- a power of two between two, both included
abbrev pub power : ℕ → ℕ → Wanted
power lowest highest = Number (pos lowest) (pos highest) true

-- the keys in their order, but for those of the regions
unfoldable pub rows : List Row
rows =
    row [] (codes "width") (number 1 2)
    ∷ row [] (codes "queue") (number 1 8)
    ∷ row [] (codes "horizon") (number 1 4095)
    ∷ row [] (codes "states") (number 1 64)
    ∷ row [] (codes "fetch") Table
    ∷ row (codes "fetch") (codes "hit") (number 1 1000)
    ∷ row (codes "fetch") (codes "miss") (number 0 1000)
    ∷ row [] (codes "cache") Table
    ∷ row (codes "cache") (codes "sets") (power 1 1024)
    ∷ row (codes "cache") (codes "ways") (number 1 16)
    ∷ row (codes "cache") (codes "line") (power 4 256)
    ∷ row [] (codes "alu") Table
    ∷ row (codes "alu") (codes "latency") (number 1 1000)
    ∷ row (codes "alu") (codes "occupancy") (number 1 1000)
    ∷ row [] (codes "mul") Table
    ∷ row (codes "mul") (codes "latency") (number 1 1000)
    ∷ row (codes "mul") (codes "occupancy") (number 1 1000)
    ∷ row (codes "mul") (codes "slow") (number 0 1000)
    ∷ row [] (codes "mem") Table
    ∷ row (codes "mem") (codes "latency") (number 1 1000)
    ∷ row (codes "mem") (codes "occupancy") (number 1 1000)
    ∷ row (codes "mem") (codes "slow") (number 0 1000)
    ∷ row [] (codes "region") (Array (pos 64))
    ∷ []

-- the keys of a region that begins at an address, in their order: its last address is no lower
unfoldable pub region_rows : ℤ → List Row
region_rows first =
    row (codes "region") (codes "name") Text
    ∷ row (codes "region") (codes "first") (number 0 4294967295)
    ∷ row (codes "region") (codes "last") (Number first (pos 4294967295) false)
    ∷ row (codes "region") (codes "slow") Truth
    ∷ []

-- a key of the code as a row
abbrev pub row_of : Key → Row
row_of key = row key.table.now key.name.now key.wanted

-- the row is that of a name in a table
abbrev pub is_row : List ℕ → List ℕ → Row → Bool
is_row table name r = bytes_eq r.table table && bytes_eq r.name name
