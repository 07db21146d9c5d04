-- The text that a run starts from, in this project's format: lines of words, each line saying one thing.
use Rattle.std.specs.Prelude.{◌≡◌, ℕ, ◌<◌, ◌^◌, Bool, if◌then◌else◌, List, [], ◌∷◌, map, codes, All}
use Rattle.wx_text.specs.Decimal.{decimal}
use Rattle.wx_text.specs.Hexadecimal.{hex_byte, hex_word}
use Rattle.wx_base.specs.declared.step.Flags.{Flags}
use Rattle.start_file.specs.declared.start_item.Kind.{Kind}
use Rattle.start_file.specs.declared.start_item.Kind.TheVariants as kind
use Rattle.start_file.specs.declared.start_item.Item.{Item}
use Rattle.start_file.specs.declared.start_item.Item.TheVariants as item

-- the kind of a line
abbrev pub kind_of : Item → Kind
kind_of item.Head = kind.Head
kind_of (item.Register number value) = kind.Register
kind_of (item.Flags flags) = kind.Flags
kind_of (item.Fill byte) = kind.Fill
kind_of (item.Byte address byte) = kind.Byte
kind_of (item.Set set lines) = kind.Set
kind_of item.End = kind.End

-- the word that a line begins with
abbrev pub name_of : Kind → List ℕ
name_of kind.Head = codes "wx-start"
name_of kind.Register = codes "reg"
name_of kind.Flags = codes "flags"
name_of kind.Fill = codes "fill"
name_of kind.Byte = codes "byte"
name_of kind.Set = codes "set"
name_of kind.End = codes "end"

-- a flag as `0` or `1`
abbrev pub flag_digit : Bool → ℕ
flag_digit flag = if flag then 49 else 48

-- the flags N, Z, C and V
abbrev pub flag_digits : Flags → List ℕ
flag_digits flags = flag_digit flags.n ∷ flag_digit flags.z ∷ flag_digit flags.c ∷ flag_digit flags.v ∷ []

-- the further words of a line
abbrev pub arguments : Item → List (List ℕ)
arguments item.Head = codes "1" ∷ []
arguments (item.Register number value) = decimal number ∷ hex_word value ∷ []
arguments (item.Flags flags) = flag_digits flags ∷ []
arguments (item.Fill byte) = hex_byte byte ∷ []
arguments (item.Byte address byte) = hex_word address ∷ hex_byte byte ∷ []
arguments (item.Set set lines) = decimal set ∷ map hex_word lines
arguments item.End = []

-- the words of a line
abbrev pub words_of : Item → List (List ℕ)
words_of item = name_of (kind_of item) ∷ arguments item

-- the numbers of a line fit their words
abbrev pub Fits : Item → Type 0
Fits item.Head = Unit {0}
Fits (item.Register number value) = (number < 2 ^ 32) × (value < 2 ^ 32)
Fits (item.Flags flags) = Unit {0}
Fits (item.Fill byte) = byte < 2 ^ 8
Fits (item.Byte address byte) = (address < 2 ^ 32) × (byte < 2 ^ 8)
Fits (item.Set set lines) = (set < 2 ^ 32) × All (λ line. line < 2 ^ 32) lines
Fits item.End = Unit {0}

-- the line is one of the kind, and these are its further words
abbrev pub Says : Kind → List (List ℕ) → Item → Type 0
Says kind words item = (kind_of item ≡ kind) × (words ≡ arguments item)
