-- What the words of a line tell, as numbers in their shortest spelling. This project's own format.
use Rattle.std.specs.Prelude.{◌≡◌, ℕ, ◌<◌, ◌≤◌, ◌^◌, codes, List, [], ◌∷◌, drop, map, All}
use Rattle.wx_text.specs.Decimal.{decimal}
use Rattle.wx_text.specs.Hexadecimal.{hex_word}
use Rattle.flow_ctx.specs.declared.scope.Scope.{Scope}
use Rattle.flow_ctx.specs.declared.scope.Scope.TheVariants.{Run, Loop}
use Rattle.cert_lines.specs.declared.kind.Version.{Version}
use Rattle.cert_lines.specs.declared.kind.Version.TheVariants.{One, Two}
use Rattle.cert_lines.specs.declared.kind.Kind.{Kind}
use Rattle.cert_lines.specs.declared.kind.Kind.TheVariants as kind
use Rattle.cert_lines.specs.Grammar.{Line}
use Rattle.cert_items.specs.declared.item.Pair.{Pair}
use Rattle.cert_items.specs.declared.item.Item.{Item}
use Rattle.cert_items.specs.declared.item.Item.TheVariants as item

-- the kind of the line that tells this
abbrev pub kind_of : Item → Kind
kind_of (item.Head version) = kind.Head
kind_of (item.Node number count) = kind.Node
kind_of (item.Vector potential slots) = kind.Vector
kind_of (item.Count count) = kind.Count
kind_of (item.Listed slots) = kind.Listed
kind_of (item.Places number places) = kind.Places
kind_of (item.Charge line scope amount) = kind.Charge
kind_of (item.Multiplier number amount) = kind.Multiplier
kind_of (item.Total address amount) = kind.Total
kind_of (item.Bound amount) = kind.Bound
kind_of item.End = kind.End

-- the numbers of pairs, one after another
abbrev pub flat : List Pair → List ℕ
flat [] = []
flat (p ∷ pairs) = p.left ∷ p.right ∷ flat pairs

abbrev pub version_word : Version → List ℕ
version_word One = codes "1"
version_word Two = codes "2"

abbrev pub scope_word : Scope → List ℕ
scope_word Run = codes "run"
scope_word (Loop number) = decimal number

-- the words behind the name
abbrev pub arguments : Item → List (List ℕ)
arguments (item.Head version) = version_word version ∷ []
arguments (item.Node number count) = decimal number ∷ decimal count ∷ []
arguments (item.Vector potential slots) = decimal potential ∷ map decimal (flat slots)
arguments (item.Count count) = decimal count ∷ []
arguments (item.Listed slots) = map decimal (flat slots)
arguments (item.Places number places) = decimal number ∷ map decimal (flat places)
arguments (item.Charge line scope amount) = hex_word line ∷ scope_word scope ∷ decimal amount ∷ []
arguments (item.Multiplier number amount) = decimal number ∷ decimal amount ∷ []
arguments (item.Total address amount) = hex_word address ∷ decimal amount ∷ []
arguments (item.Bound amount) = decimal amount ∷ []
arguments item.End = []

-- the greatest number of cycles in a certificate
abbrev pub most : ℕ
most = 10 ^ 18

-- a slot of a vector with its value
pub record IsSlot (p : Pair) : Type 0 where
  pub slot : p.left ≤ 34
  pub value : p.right ≤ most

-- a potential with the place of its vector
pub record IsPlace (p : Pair) : Type 0 where
  pub potential : p.left ≤ most
  pub place : p.right < 2 ^ 32

abbrev pub FitsScope : Scope → Type 0
FitsScope Run = Unit {0}
FitsScope (Loop number) = number < 2 ^ 32

-- the numbers are in their ranges
abbrev pub Fits : Item → Type 0
Fits (item.Head version) = Unit {0}
Fits (item.Node number count) = (number < 2 ^ 32) × (count < 2 ^ 32)
Fits (item.Vector potential slots) = (potential ≤ most) × All IsSlot slots
Fits (item.Count count) = count < 2 ^ 32
Fits (item.Listed slots) = All IsSlot slots
Fits (item.Places number places) = (number < 2 ^ 32) × All IsPlace places
Fits (item.Charge line scope amount) = (line < 2 ^ 32) × FitsScope scope × (amount ≤ most)
Fits (item.Multiplier number amount) = (number < 2 ^ 32) × (amount ≤ most)
Fits (item.Total address amount) = (address < 2 ^ 32) × (amount ≤ most)
Fits (item.Bound amount) = amount ≤ most
Fits item.End = Unit {0}

-- a line of the kind whose words behind the name these are tells this
abbrev pub Says : Kind → List (List ℕ) → Item → Type 0
Says kind words x = (kind_of x ≡ kind) × (words ≡ arguments x)

-- the line tells this: each number stands in its shortest spelling and is in its range
pub record IsSaid (line : Line) (x : Item) : Type 0 where
  pub says : Says line.kind (drop 1 line.words) x
  pub fits : Fits x
