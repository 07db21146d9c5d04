-- The lines of a certificate's text: their names, their order, and the words of each. This project's own format.
use Rattle.std.specs.Prelude.{ℕ, codes, Bool, true, false, ◌&&◌, ◌||◌, ◌==◌, nat_le, nat_lt, nat_eq, List, length, Option, Some, None, if◌then◌else◌}
use Rattle.std.specs.List.{list_all, starts_with}
use Rattle.std.specs.Char.{is_ascii_digit}
use Rattle.std.specs.Str.{bytes_eq}
use Rattle.wx_text.specs.Cursor.{is_hex_digit}
use Rattle.cert_lines.specs.declared.kind.Version.{Version}
use Rattle.cert_lines.specs.declared.kind.Version.TheVariants.{One, Two}
use Rattle.cert_lines.specs.declared.kind.Kind.{Kind}
use Rattle.cert_lines.specs.declared.kind.Kind.TheVariants as kind
use Rattle.cert_lines.specs.declared.kind.Role.{Role}
use Rattle.cert_lines.specs.declared.kind.Role.TheVariants as role

-- the word that a line begins with
abbrev pub name_of : Kind → List ℕ
name_of kind.Head = codes "wx-cert"
name_of kind.Node = codes "node"
name_of kind.Vector = codes "vec"
name_of kind.Count = codes "vectors"
name_of kind.Listed = codes "v"
name_of kind.Places = codes "node"
name_of kind.Charge = codes "charge"
name_of kind.Multiplier = codes "multiplier"
name_of kind.Total = codes "total"
name_of kind.Bound = codes "bound"
name_of kind.End = codes "end"

-- the part of a text that a line belongs to, counted from the head on; 0 where no line was
abbrev pub part_of : Option Kind → ℕ
part_of None = 0
part_of (Some kind.Head) = 1
part_of (Some kind.Count) = 2
part_of (Some kind.Listed) = 3
part_of (Some kind.Node) = 4
part_of (Some kind.Vector) = 4
part_of (Some kind.Places) = 4
part_of (Some kind.Charge) = 5
part_of (Some kind.Multiplier) = 6
part_of (Some kind.Total) = 7
part_of (Some kind.Bound) = 8
part_of (Some kind.End) = 9

abbrev pub is_one : Version → Bool
is_one One = true
is_one Two = false

-- the part with which what the head announces begins: version 2 counts its vectors first
abbrev pub opening : Version → ℕ
opening One = 1
opening Two = 2

-- whether the part lies between two others
abbrev pub lies : ℕ → ℕ → ℕ → Bool
lies low high part = nat_le low part && nat_le part high

-- whether a line of the kind may stand behind a line of the part
abbrev pub may_stand : Version → ℕ → Kind → Bool
may_stand v part kind.Head = part == 0
may_stand v part kind.Node = is_one v && lies 1 4 part
may_stand v part kind.Vector = is_one v && (part == 4)
may_stand v part kind.Count = if is_one v then false else (part == 1)
may_stand v part kind.Listed = if is_one v then false else lies 2 3 part
may_stand v part kind.Places = if is_one v then false else lies 2 4 part
may_stand v part kind.Charge = lies (opening v) 5 part
may_stand v part kind.Multiplier = lies (opening v) 6 part
may_stand v part kind.Total = if is_one v then false else lies 2 7 part
may_stand v part kind.Bound = lies (opening v) 7 part
may_stand v part kind.End = part == 8

-- what may stand behind a word of a line
abbrev pub next : Kind → Role → Option Role
next kind.Head role.Name = Some role.Version
next kind.Node role.Name = Some role.First
next kind.Node role.First = Some role.Last
next kind.Vector role.Name = Some role.First
next kind.Vector role.First = Some role.Left
next kind.Vector role.Left = Some role.Right
next kind.Vector role.Right = Some role.Left
next kind.Count role.Name = Some role.Last
next kind.Listed role.Name = Some role.Left
next kind.Listed role.Left = Some role.Right
next kind.Listed role.Right = Some role.Left
next kind.Places role.Name = Some role.First
next kind.Places role.First = Some role.Left
next kind.Places role.Left = Some role.Right
next kind.Places role.Right = Some role.Left
next kind.Charge role.Name = Some role.Address
next kind.Charge role.Address = Some role.Scope
next kind.Charge role.Scope = Some role.Last
next kind.Multiplier role.Name = Some role.First
next kind.Multiplier role.First = Some role.Last
next kind.Total role.Name = Some role.Address
next kind.Total role.Address = Some role.Last
next kind.Bound role.Name = Some role.Last
next kind role = None

-- whether the line may end though more might stand behind the word: where pairs may follow
abbrev pub may_stop : Kind → Role → Bool
may_stop kind.Vector role.First = true
may_stop kind.Places role.First = true
may_stop kind.Listed role.Name = true
may_stop kind role.Right = true
may_stop kind role = false

abbrev pub is_none : Option Role → Bool
is_none None = true
is_none (Some r) = false

-- whether the line may end behind a word
abbrev pub may_end : Kind → Role → Bool
may_end kind role = may_stop kind role || is_none (next kind role)

-- what stands before a word
abbrev pub separator : Role → ℕ
separator role.Right = 58
separator role = 32

-- a number as it is spelled: one or more decimal digits
abbrev pub is_number : List ℕ → Bool
is_number text = nat_lt 0 (length text) && list_all is_ascii_digit text

-- whether the text is a word of the role
abbrev pub is_word : Kind → Role → List ℕ → Bool
is_word kind role.Name text = bytes_eq text (name_of kind)
is_word kind role.Version text = bytes_eq text (codes "1") || bytes_eq text (codes "2")
is_word kind role.First text = is_number text
is_word kind role.Last text = is_number text
is_word kind role.Left text = is_number text
is_word kind role.Right text = is_number text
is_word kind role.Address text = (length text == 8) && list_all is_hex_digit text
is_word kind role.Scope text = bytes_eq text (codes "run") || is_number text

-- the text is a front of the word
abbrev pub is_front : List ℕ → List ℕ → Bool
is_front text word = starts_with nat_eq word text

-- whether some word of the role begins so
abbrev pub begins_word : Kind → Role → List ℕ → Bool
begins_word kind role.Name text = is_front text (name_of kind)
begins_word kind role.Version text = is_front text (codes "1") || is_front text (codes "2")
begins_word kind role.First text = list_all is_ascii_digit text
begins_word kind role.Last text = list_all is_ascii_digit text
begins_word kind role.Left text = list_all is_ascii_digit text
begins_word kind role.Right text = list_all is_ascii_digit text
begins_word kind role.Address text = nat_le (length text) 8 && list_all is_hex_digit text
begins_word kind role.Scope text = is_front text (codes "run") || list_all is_ascii_digit text
