-- What a reader of a text of lines stands for, and what reading answers.
use Rattle.std.specs.Prelude.{◌≡◌, ◌⊎◌, ℕ, ◌≤◌, Bool, true, List, map, slice_range, Option, Some, None, Result, Ok, Err, if◌then◌else◌}
use Rattle.cert_lines.specs.declared.kind.Version.{Version}
use Rattle.cert_lines.specs.declared.row.Row.{Row}
use Rattle.cert_lines.specs.declared.row.Lines.{Lines}
use Rattle.cert_lines.specs.declared.reader.Place.{Place}
use Rattle.cert_lines.specs.declared.reader.Place.TheVariants as place
use Rattle.cert_lines.specs.declared.reader.Reader.{Reader}
use Rattle.cert_lines.specs.declared.lines_error.LinesError.{LinesError}
use Rattle.cert_lines.specs.declared.lines_error.LinesError.TheVariants.{Syntax, NoEnd, NoMemory}
use Rattle.cert_lines.specs.Table.{begins_word}
use Rattle.cert_lines.specs.Grammar.{Line, StopsAt, IsCut}
use Rattle.cert_lines.specs.Machine.{State}
use Rattle.cert_lines.specs.Machine.State.{Between, Within}

-- the line that a row holds
abbrev pub line_of : Row → Line
line_of row = record { kind = row.kind; words = map (λ w. w.now) row.words }

-- the lines that rows hold
abbrev pub lines_of : List Row → List Line
lines_of rows = map line_of rows

-- the state at a place, with the lines and the words so far, where so many bytes were read
abbrev pub state_at : Version → List Line → List (List ℕ) → List ℕ → ℕ → Place → State
state_at v lines words bytes at (place.Between last) = Between v lines last
state_at v lines words bytes at (place.Within kind role start) = Within v lines kind words role (slice_range bytes start at)

-- the state that a reader stands for, where so many bytes were read
abbrev pub view : Reader → ℕ → State
view r at = state_at r.version (lines_of r.rows.items) (map (λ w. w.now) r.words.items) r.bytes.now at r.place

-- the bytes from the begin of the word on begin a word of the role
abbrev pub IsReadyAt : List ℕ → ℕ → Place → Type 0
IsReadyAt bytes at (place.Between last) = Unit {0}
IsReadyAt bytes at (place.Within kind role start) = (start ≤ at) × (begins_word kind role (slice_range bytes start at) ≡ true)

abbrev pub IsReady : Reader → ℕ → Type 0
IsReady r at = IsReadyAt r.bytes.now at r.place

-- the answer of a step: where a text can go on so, the reader stands for the next state
abbrev pub Goes : Bool → State → Option State → Type 0
Goes alive new next = next ≡ (if alive then Some new else None)

-- where reading is refused
abbrev pub IsRefusal : List ℕ → LinesError → Type 0
IsRefusal bytes (Syntax at) = StopsAt bytes at
IsRefusal bytes NoEnd = IsCut bytes
IsRefusal bytes NoMemory = Unit {0}

-- reading answers with the refusal, unless memory runs out
abbrev pub IsRefusedFor : Result Lines LinesError → LinesError → Type 0
IsRefusedFor (Ok lines) e = ⊥
IsRefusedFor (Err r) e = (r ≡ e) ⊎ (r ≡ NoMemory)
