-- The text of version 2 of a certificate, line by line. This project's own format.
use Rattle.std.specs.Prelude.{◌≡◌, ℕ, ◌+◌, List, [], ◌∷◌, ◌++◌, length, map, flat_map, Option, Some, None, ◌==◌, if◌then◌else◌}
use Rattle.cert_lines.specs.declared.kind.Version.TheVariants.{Two}
use Rattle.cert_lines.specs.declared.kind.Kind.{Kind}
use Rattle.cert_lines.specs.declared.kind.Role.{Role}
use Rattle.cert_lines.specs.declared.kind.Role.TheVariants.{Name}
use Rattle.cert_lines.specs.Table.{name_of, next, separator}
use Rattle.cert_items.specs.declared.item.Pair.{Pair}
use Rattle.cert_items.specs.declared.item.Item.{Item}
use Rattle.cert_items.specs.declared.item.Item.TheVariants as item
use Rattle.cert_items.specs.Said.{kind_of, arguments}
use Rattle.cert_text.specs.declared.certificate.CertVector.{CertVector}
use Rattle.cert_text.specs.declared.certificate.Charge.{Charge}
use Rattle.cert_text.specs.declared.certificate.TotalPrice.{TotalPrice}
use Rattle.cert_text.specs.declared.certificate.Certificate.{Certificate}
use Rattle.cert_text.specs.Pool.{IsPool, place_in}

-- ---- what the lines tell
-- the slots that are not 0, each with its number, the first of which this is
abbrev pub pairs_from : ℕ → List ℕ → List Pair
pairs_from slot [] = []
pairs_from slot (value ∷ values) = if value == 0 then pairs_from (slot + 1) values else record { left = slot; right = value } ∷ pairs_from (slot + 1) values

-- the line of one of the different vectors
abbrev pub listed_item : List ℕ → Item
listed_item slots = item.Listed (pairs_from 0 slots)

-- the potential of a vector with the place of its slots
abbrev pub place_of : List (List ℕ) → CertVector → Pair
place_of pool v = record { left = v.potential; right = place_in pool v.slots.slots }

-- the lines of the nodes, the first of which has this number
abbrev pub node_items : List (List ℕ) → ℕ → List (List CertVector) → List Item
node_items pool number [] = []
node_items pool number (family ∷ families) = item.Places number (map (place_of pool) family) ∷ node_items pool (number + 1) families

abbrev pub charge_item : Charge → Item
charge_item charge = item.Charge charge.line charge.scope charge.amount

-- the lines of the multipliers, the first of which has this number
abbrev pub multiplier_items : ℕ → List ℕ → List Item
multiplier_items number [] = []
multiplier_items number (amount ∷ amounts) = item.Multiplier number amount ∷ multiplier_items (number + 1) amounts

abbrev pub total_item : TotalPrice → Item
total_item total = item.Total total.address total.amount

-- what the lines of version 2 tell, from the charges on
abbrev pub price_items : Certificate → List Item
price_items c = map charge_item c.charges ++ (multiplier_items 0 c.multipliers ++ (map total_item c.totals ++ item.Bound c.bound ∷ item.End ∷ []))

-- what the lines of version 2 tell, with these as the different vectors
abbrev pub items_of : List (List ℕ) → Certificate → List Item
items_of pool c = item.Head Two ∷ item.Count (length pool) ∷ (map listed_item pool ++ (node_items pool 0 c.families ++ price_items c))

-- ---- how it is spelled
-- the words of a line from one of the role on, each with what stands before it
abbrev pub spelled : Kind → Option Role → List (List ℕ) → List ℕ
spelled kind None words = []
spelled kind (Some role) [] = []
spelled kind (Some role) (word ∷ words) = separator role ∷ word ++ spelled kind (next kind role) words

-- the line that tells this
abbrev pub line_text : Item → List ℕ
line_text x = name_of (kind_of x) ++ (spelled (kind_of x) (next (kind_of x) Name) (arguments x) ++ 10 ∷ [])

-- the lines that tell this, one after another
abbrev pub text_of : List Item → List ℕ
text_of items = flat_map line_text items

-- the bytes are the text of version 2 of the certificate
pub record IsWritten (bytes : List ℕ) (c : Certificate) : Type 0 where
  pub pool : List (List ℕ)
  pub different : IsPool c.families pool
  pub text : bytes ≡ text_of (items_of pool c)

-- the new text is the old one with the certificate's text behind it
pub record IsWith (new old : List ℕ) (c : Certificate) : Type 0 where
  pub more : List ℕ
  pub written : IsWritten more c
  pub behind : new ≡ old ++ more
