-- The certificate that the lines of a text tell. This project's own format.
use Rattle.std.specs.Prelude.{ℕ, List, [], ◌∷◌, map, replicate, slice_index_or, Option, Some, None, filter_map}
use Rattle.std.specs.List.{cons_option}
use Rattle.pipe_time.specs.declared.vector.Vector.{Vector}
use Rattle.cert_items.specs.declared.item.Pair.{Pair}
use Rattle.cert_items.specs.declared.item.Item.{Item}
use Rattle.cert_items.specs.declared.item.Item.TheVariants as item
use Rattle.cert_items.specs.Order.{slots_of}
use Rattle.cert_text.specs.declared.certificate.CertVector.{CertVector}
use Rattle.cert_text.specs.declared.certificate.Charge.{Charge}
use Rattle.cert_text.specs.declared.certificate.TotalPrice.{TotalPrice}
use Rattle.cert_text.specs.declared.certificate.Certificate.{Certificate}

abbrev pub charge_in : Item → Option Charge
charge_in (item.Charge line scope amount) = Some (record { line = line; scope = scope; amount = amount })
charge_in other = None

abbrev pub multiplier_in : Item → Option ℕ
multiplier_in (item.Multiplier number amount) = Some amount
multiplier_in other = None

abbrev pub total_in : Item → Option TotalPrice
total_in (item.Total address amount) = Some (record { address = address; amount = amount })
total_in other = None

-- the vector of some slots with their values
abbrev pub vector_of : List Pair → Vector
vector_of slots = record { slots = slots_of slots }

-- the vector that a line of version 2 lists
abbrev pub listed_in : Item → Option Vector
listed_in (item.Listed slots) = Some (vector_of slots)
listed_in other = None

-- the bound that a line tells, and that of all lines: no two tell one
abbrev pub bound_in : List Item → ℕ
bound_in [] = 0
bound_in (item.Bound amount ∷ items) = amount
bound_in (other ∷ items) = bound_in items

-- the vector that a line of version 1 tells
abbrev pub vector_in : Item → Option CertVector
vector_in (item.Vector potential slots) = Some (record { potential = potential; slots = vector_of slots })
vector_in other = None

-- a value before others; nothing where there is none
abbrev pub before : {A : Type 0} → Option A → List A → List A
before None values = []
before (Some value) values = value ∷ values

-- the vectors that stand at the front, version 1
abbrev pub front_vectors : List Item → List CertVector
front_vectors [] = []
front_vectors (item ∷ items) = before (vector_in item) (front_vectors items)

-- the vector at a place of those that are listed
abbrev pub placed : List Vector → Pair → CertVector
placed pool place = record { potential = place.left; slots = slice_index_or pool place.right (record { slots = replicate 35 0 }) }

-- the vectors of the node that a line tells of: those that follow it, or those that it names
abbrev pub family_in : List Vector → Item → List Item → Option (List CertVector)
family_in pool (item.Node number count) behind = Some (front_vectors behind)
family_in pool (item.Places number places) behind = Some (map (placed pool) places)
family_in pool other behind = None

-- the vectors of each node
abbrev pub families_in : List Vector → List Item → List (List CertVector)
families_in pool [] = []
families_in pool (item ∷ items) = cons_option (family_in pool item items) (families_in pool items)

-- the certificate that the lines tell
abbrev pub certificate_of : List Item → Certificate
certificate_of items = record {
  families = families_in (filter_map listed_in items) items;
  charges = filter_map charge_in items;
  multipliers = filter_map multiplier_in items;
  totals = filter_map total_in items;
  bound = bound_in items;
}
