-- What is wrong with the keys of a description. This project's own.
use Rattle.std.specs.Prelude.{ℕ, suc, ◌^◌, ℤ, pos, Bool, true, false, not, ◌&&◌, ◌||◌, if◌then◌else◌, int_le, Option, Some, None, is_some, List, [], ◌∷◌, map}
use Rattle.std.specs.List.{list_any}
use Rattle.std.specs.Ordering.{int_eq}
use Rattle.toml.specs.Data.{Data, Items, no_items, item, get, as_str, as_integer, as_bool, as_array, as_table}
use Rattle.machine_desc.specs.declared.fault.Fault.{Fault}
use Rattle.machine_desc.specs.declared.fault.Fault.TheVariants.{Missing, Kind, Range}
use Rattle.machine_desc.specs.declared.keys.Wanted.{Wanted}
use Rattle.machine_desc.specs.declared.keys.Wanted.TheVariants.{Number, Text, Truth, Table, Array}
use Rattle.machine_desc.specs.Keys.{Row}

-- the powers of two up to 1024, which is as far as a range goes that asks for one
abbrev pub powers_of_two : List ℤ
powers_of_two = map (λ k. pos (2 ^ k)) (0 ∷ 1 ∷ 2 ∷ 3 ∷ 4 ∷ 5 ∷ 6 ∷ 7 ∷ 8 ∷ 9 ∷ 10 ∷ [])

-- the number is one of them
unfoldable pub is_power_of_two : ℤ → Bool
is_power_of_two n = list_any (λ power. int_eq power n) powers_of_two

-- the number lies between two, both included, and is a power of two if one is asked for
abbrev pub is_within : ℤ → ℤ → Bool → ℤ → Bool
is_within lowest highest power n = (int_le lowest n && int_le n highest) && (not power || is_power_of_two n)

-- how many there are
abbrev pub count : Items → ℕ
count no_items = 0
count (item d ds) = suc (count ds)

-- the fault of a value that should be of a kind, and is or is not
abbrev pub kind_fault : Bool → Option Fault
kind_fault true = None
kind_fault false = Some Kind

-- the fault of a whole number, if it is one
abbrev pub number_fault : ℤ → ℤ → Bool → Option ℤ → Option Fault
number_fault lowest highest power None = Some Kind
number_fault lowest highest power (Some n) = if is_within lowest highest power n then None else Some (Range n)

-- the fault of an array with at most so many elements
abbrev pub count_fault : ℤ → Items → Option Fault
count_fault most ds = if int_le (pos (count ds)) most then None else Some (Range (pos (count ds)))

-- the same for what is perhaps no array
abbrev pub array_fault : ℤ → Option Items → Option Fault
array_fault most None = Some Kind
array_fault most (Some ds) = count_fault most ds

-- the fault of a value
abbrev pub value_fault : Wanted → Data → Option Fault
value_fault (Number lowest highest power) d = number_fault lowest highest power (as_integer d)
value_fault Text d = kind_fault (is_some (as_str d))
value_fault Truth d = kind_fault (is_some (as_bool d))
value_fault Table d = kind_fault (is_some (as_table d))
value_fault (Array most) d = array_fault most (as_array d)

-- the fault of a key that is not there: a table or an array may be absent
abbrev pub absent_fault : Wanted → Option Fault
absent_fault (Number lowest highest power) = Some Missing
absent_fault Text = Some Missing
absent_fault Truth = Some Missing
absent_fault Table = None
absent_fault (Array most) = None

-- the fault of a key by what it holds
abbrev pub fault_of : Wanted → Option Data → Option Fault
fault_of wanted None = absent_fault wanted
fault_of wanted (Some d) = value_fault wanted d

-- the fault of a key in what stands where its table should be, if anything does. What is no table is not looked into
abbrev pub fault_in : Row → Option Data → Option Fault
fault_in r None = absent_fault r.wanted
fault_in r (Some d) = if is_some (as_table d) then fault_of r.wanted (get r.name d) else None
