-- Texts made of the lines of a certificate, from their front on. This project's own format.
use Rattle.std.specs.Prelude.{◌≡◌, ◌≢◌, ℕ, ◌<◌, ◌≤◌, codes, true, List, [], ◌∷◌, ◌++◌, length, take, Option, Some, None, if◌then◌else◌}
use Rattle.std.specs.Str.{bytes_eq}
use Rattle.cert_lines.specs.declared.kind.Version.{Version}
use Rattle.cert_lines.specs.declared.kind.Version.TheVariants.{One, Two}
use Rattle.cert_lines.specs.declared.kind.Kind.{Kind}
use Rattle.cert_lines.specs.declared.kind.Kind.TheVariants as kind
use Rattle.cert_lines.specs.declared.kind.Role.{Role}
use Rattle.cert_lines.specs.declared.kind.Role.TheVariants.{Name}
use Rattle.cert_lines.specs.Table.{name_of, part_of, may_stand, next, may_end, separator, is_word}

-- a line: its kind and its words, the name first
pub record Line : Type 0 where
  pub kind : Kind
  pub words : List (List ℕ)

-- the front of a line: its words so far, the role of the last one, and the text that they are
pub data IsBegun (kind : Kind) : List (List ℕ) → Role → List ℕ → Type 0 where
  named : IsBegun kind (name_of kind ∷ []) Name (name_of kind)
  worded : {words : List (List ℕ)} {role : Role} {text : List ℕ} (following : Role) (word : List ℕ) → IsBegun kind words role text
      → next kind role ≡ Some following → is_word kind following word ≡ true → IsBegun kind (words ++ word ∷ []) following (text ++ separator following ∷ word)

-- the version that the words of a head tell
abbrev pub version_of : List (List ℕ) → Version
version_of (name ∷ word ∷ []) = if bytes_eq word (codes "2") then Two else One
version_of words = One

-- the version behind a line: the head tells it
abbrev pub version_behind : Version → Kind → List (List ℕ) → Version
version_behind v kind.Head words = version_of words
version_behind v kind words = v

-- the first lines of a text: its version, the lines, the kind of the last one, and the text that they are
pub data AreLines : Version → List Line → Option Kind → List ℕ → Type 0 where
  empty : AreLines One [] None []
  lined : {v : Version} {lines : List Line} {last : Option Kind} {text : List ℕ} {words : List (List ℕ)} {role : Role} {line : List ℕ} (kind : Kind)
      → AreLines v lines last text → may_stand v (part_of last) kind ≡ true → IsBegun kind words role line → may_end kind role ≡ true
      → AreLines (version_behind v kind words) (lines ++ record { kind = kind; words = words } ∷ []) (Some kind) (text ++ (line ++ 10 ∷ []))

-- the bytes are the lines of a whole certificate of the version
abbrev pub IsText : List ℕ → Version → List Line → Type 0
IsText bytes version lines = AreLines version lines (Some kind.End) bytes

-- the bytes begin such a text
pub record Begins (bytes : List ℕ) : Type 0 where
  pub more : List ℕ
  pub version : Version
  pub lines : List Line
  pub text : IsText (bytes ++ more) version lines

-- the bytes begin no such text, and this many of them do and no more
pub record StopsAt (bytes : List ℕ) (at : ℕ) : Type 0 where
  pub none : Begins bytes → ⊥
  pub within : at ≤ length bytes
  pub begins : Begins (take at bytes)
  pub longest : (n : ℕ) → at < n → Begins (take n bytes) → ⊥

-- something is left out at the end of such a text
pub record IsCut (bytes : List ℕ) : Type 0 where
  pub more : List ℕ
  pub some : more ≢ []
  pub version : Version
  pub lines : List Line
  pub text : IsText (bytes ++ more) version lines
