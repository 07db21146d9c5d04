-- The keys of a document beside those of a description: which have a fault, and which no description has. This project's own.
-- A document is seen as the untyped data that the reader of TOML gives.
use Rattle.std.specs.Prelude.{ℕ, suc, ℤ, pos, not, ◌==◌, if◌then◌else◌, Option, Some, None, List, [], ◌∷◌, ◌++◌, map, filter, length, codes, option_and_then, unwrap_or}
use Rattle.std.specs.List.{list_any}
use Rattle.std.specs.Fmt.{decimal}
use Rattle.toml.specs.Data.{Data, table, Items, no_items, item, Members, no_members, member, get, as_integer, as_array}
use Rattle.machine_desc.specs.declared.fault.Fault.{Fault}
use Rattle.machine_desc.specs.declared.fault.Faulty.{Faulty}
use Rattle.machine_desc.specs.declared.keys.Wanted.{Wanted}
use Rattle.machine_desc.specs.declared.keys.Wanted.TheVariants.{Table}
use Rattle.machine_desc.specs.Keys.{Row, rows, region_rows, is_row}
use Rattle.machine_desc.specs.Faults.{fault_in, fault_of}

-- what a function gives for each element, one after another
abbrev pub gathered : {A B : Type 0} → (A → List B) → List A → List B
gathered f [] = []
gathered f (x ∷ xs) = f x ++ gathered f xs

-- the same for the elements of an array, each with its place
abbrev pub gathered_items : {B : Type 0} → (ℕ → Data → List B) → ℕ → Items → List B
gathered_items f i no_items = []
gathered_items f i (item d ds) = f i d ++ gathered_items f (suc i) ds

-- what stands where a table should be, if anything does: no name is that of the whole document
abbrev pub holder : Data → List ℕ → Option Data
holder doc name = if length name == 0 then Some doc else get name doc

-- a key of a table as it is written in refusals
abbrev pub dotted : List ℕ → List ℕ → List ℕ
dotted prefix name = if length prefix == 0 then name else prefix ++ (codes "." ++ name)

-- the elements of an array, if it is one
abbrev pub items_in : Option Items → Items
items_in None = no_items
items_in (Some ds) = ds

-- the regions, each as the document has it
abbrev pub elements : Data → Items
elements doc = items_in (option_and_then as_array (get (codes "region") doc))

-- the key of a region by its place
abbrev pub region_key : ℕ → List ℕ
region_key i = dotted (codes "region") (decimal i)

-- the whole number at a name, 0 where there is none
abbrev pub integer_in : List ℕ → Data → ℤ
integer_in name d = unwrap_or (option_and_then as_integer (get name d)) (pos 0)

-- a key with its fault, if it has one
abbrev pub listed : List ℕ → Option Fault → List Faulty
listed key None = []
listed key (Some fault) = record { key = key; fault = fault } ∷ []

-- the fault of a key of the table, in a document
abbrev pub row_faults : Data → Row → List Faulty
row_faults doc r = listed (dotted r.table r.name) (fault_in r (holder doc r.table))

-- the faults inside a region whose key is given
abbrev pub inner_faults : List ℕ → Data → List Faulty
inner_faults key d = gathered (λ r. listed (dotted key r.name) (fault_in r (Some d))) (region_rows (integer_in (codes "first") d))

-- the faults of a region
abbrev pub element_faults : ℕ → Data → List Faulty
element_faults i d = listed (region_key i) (fault_of Table (Some d)) ++ inner_faults (region_key i) d

-- the keys that have a fault, in their order, each with its fault
unfoldable pub faults : Data → List Faulty
faults doc = gathered (row_faults doc) rows ++ gathered_items element_faults 0 (elements doc)

-- the names of members, in their order
abbrev pub member_names : Members → List (List ℕ)
member_names no_members = []
member_names (member k d ms) = k ∷ member_names ms

-- the names in what stands where a table should be
abbrev pub names : Data → List (List ℕ)
names (table ms) = member_names ms
names _ = []

-- the keys of what stands where a table should be that no row names, as they are written in refusals
abbrev pub unknown_in : List ℕ → List ℕ → List Row → Data → List (List ℕ)
unknown_in prefix name known d = map (dotted prefix) (filter (λ key. not (list_any (is_row name key) known)) (names d))

-- the same where perhaps nothing stands
abbrev pub unknown_at : List ℕ → List ℕ → List Row → Option Data → List (List ℕ)
unknown_at prefix name known None = []
unknown_at prefix name known (Some d) = unknown_in prefix name known d

-- the same for the table that a row asks for, if it asks for one
abbrev pub inner_unknown : Data → List ℕ → Wanted → List (List ℕ)
inner_unknown doc name Table = unknown_at name name rows (get name doc)
inner_unknown doc name _ = []

-- the same for a region, by its place
abbrev pub element_unknown : ℕ → Data → List (List ℕ)
element_unknown i d = unknown_in (region_key i) (codes "region") (region_rows (pos 0)) d

-- the keys that no description has: of the document itself, of its tables, and of its regions
unfoldable pub unknown : Data → List (List ℕ)
unknown doc = unknown_in [] [] rows doc ++ (gathered (λ r. inner_unknown doc r.name r.wanted) rows ++ gathered_items element_unknown 0 (elements doc))
