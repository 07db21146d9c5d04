-- A text of lines read byte by byte: what is known after some bytes, and which byte may come then. This project's own.
use Rattle.std.specs.Prelude.{ℕ, Bool, true, false, ◌&&◌, ◌==◌, List, [], ◌∷◌, ◌++◌, Option, Some, None, if◌then◌else◌}
use Rattle.cert_lines.specs.declared.kind.Version.{Version}
use Rattle.cert_lines.specs.declared.kind.Version.TheVariants.{One}
use Rattle.cert_lines.specs.declared.kind.Kind.{Kind}
use Rattle.cert_lines.specs.declared.kind.Kind.TheVariants as kind
use Rattle.cert_lines.specs.declared.kind.Role.{Role}
use Rattle.cert_lines.specs.declared.kind.Role.TheVariants.{Name}
use Rattle.cert_lines.specs.Table.{is_one, part_of, may_stand, next, may_end, separator, is_word, begins_word}
use Rattle.cert_lines.specs.Grammar.{Line, version_behind}

-- the lines so far, and the line in which the next byte stands: its kind, its words so far, and the role and the bytes of the word that is read
pub data State : Type 0 where
  Between : Version → List Line → Option Kind → State
  Within : Version → List Line → Kind → List (List ℕ) → Role → List ℕ → State

abbrev pub start : State
start = Between One [] None

-- the kind of the line that begins with the byte behind a line of the part
abbrev pub lettered : Version → ℕ → ℕ → Option Kind
lettered v part c =
    if c == 119 then Some kind.Head
    else if c == 110 then (if is_one v then Some kind.Node else Some kind.Places)
    else if c == 118 then (if is_one v then Some kind.Vector else if part == 1 then Some kind.Count else Some kind.Listed)
    else if c == 99 then Some kind.Charge
    else if c == 109 then Some kind.Multiplier
    else if c == 116 then Some kind.Total
    else if c == 98 then Some kind.Bound
    else if c == 101 then Some kind.End
    else None

-- the kind, where a line of it may stand there
abbrev pub allowed : Version → ℕ → Option Kind → Option Kind
allowed v part None = None
allowed v part (Some kind) = if may_stand v part kind then Some kind else None

-- a line begins
abbrev pub opened : Version → List Line → ℕ → Option Kind → Option State
opened v lines c None = None
opened v lines c (Some kind) = Some (Within v lines kind [] Name (c ∷ []))

-- the next word of a line begins, where it may and the byte separates it
abbrev pub continued : Version → List Line → Kind → List (List ℕ) → ℕ → Option Role → Option State
continued v lines kind words c None = None
continued v lines kind words c (Some role) = if c == separator role then Some (Within v lines kind words role []) else None

-- a byte behind a whole word
abbrev pub behind_word : Version → List Line → Kind → List (List ℕ) → Role → ℕ → Option State
behind_word v lines kind words role c =
    if (c == 10) && may_end kind role then Some (Between (version_behind v kind words) (lines ++ record { kind = kind; words = words } ∷ []) (Some kind))
    else continued v lines kind words c (next kind role)

-- one byte: the state behind it; none where no text goes on so
unfoldable pub step : State → ℕ → Option State
step (Between v lines last) c = opened v lines c (allowed v (part_of last) (lettered v (part_of last) c))
step (Within v lines kind words role text) c =
    if begins_word kind role (text ++ c ∷ []) then Some (Within v lines kind words role (text ++ c ∷ []))
    else if is_word kind role text then behind_word v lines kind (words ++ text ∷ []) role c
    else None

-- all bytes, one after another
abbrev pub run : Option State → List ℕ → Option State
run None bytes = None
run (Some s) [] = Some s
run (Some s) (c ∷ bytes) = run (step s c) bytes

-- whether the text is whole
abbrev pub is_whole : State → Bool
is_whole (Between v lines (Some kind.End)) = true
is_whole s = false
