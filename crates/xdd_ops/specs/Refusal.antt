-- Why bytes are no text of a diagram, in this project's format.
use Rattle.std.specs.Prelude.{◌≡◌, ◌≢◌, ℕ, ◌+◌, ◌-◌, ◌<◌, ◌≤◌, ◌^◌, ◌⊎◌, List, [], ◌++◌, length, drop, slice_get, Some, Result, Ok, Err}
use Rattle.xdd_table.specs.declared.node.Dd.{Dd}
use Rattle.xdd_table.specs.declared.node.Node.{Node}
use Rattle.xdd_table.specs.declared.node.Node.TheVariants.{Branch}
use Rattle.xdd_table.specs.Order.{Finishes}
use Rattle.xdd_ops.specs.declared.diagram_error.DiagramError.{DiagramError}
use Rattle.xdd_ops.specs.declared.diagram_error.DiagramError.TheVariants.{Syntax, NotReduced, Order, NoMemory}
use Rattle.wx_text.specs.Cursor.{Reading, rest}
use Rattle.xdd_ops.specs.Read.{line_text, count_line, lines_text, IsLineAt, AreLines, HasLines}

-- the line `i` has one branch twice, or repeats an earlier line
pub data IsUnreduced (lines : List Node) : ℕ → Type 0 where
  alike : {i e : ℕ} {d : Dd} → slice_get lines i ≡ Some (Branch e d d) → IsUnreduced lines i
  repeated : {i j : ℕ} → j < i → slice_get lines j ≡ slice_get lines i → IsUnreduced lines i

-- the first such line, counted from 1 where `dd N` is the first
pub record IsFirstUnreduced (lines : List Node) (line : ℕ) : Type 0 where
  pub index : ℕ
  pub counted : line ≡ index + 2
  pub within : index < length lines
  pub unreduced : IsUnreduced lines index
  pub first : (k : ℕ) → k < index → IsUnreduced lines k → ⊥

-- the text has lines, and this is the first that is not needed
pub record IsNotReducedAt (bytes : List ℕ) (line : ℕ) : Type 0 where
  pub lines : List Node
  pub has : HasLines bytes lines
  pub where_it_is : IsFirstUnreduced lines line

-- no line has one branch twice or repeats an earlier one
pub record AreReduced (lines : List Node) : Type 0 where
  pub each : (i : ℕ) → i < length lines → IsUnreduced lines i → ⊥

-- the text has reduced lines, and this is the first that the walk from the last one does not finish in its turn; lines are told by their numbers
pub record IsOrderAt (bytes : List ℕ) (line : ℕ) : Type 0 where
  pub lines : List Node
  pub has : HasLines bytes lines
  pub reduced : AreReduced lines
  pub order : List ℕ
  pub walk : Finishes lines (length lines - 1) [] order
  pub index : ℕ
  pub counted : line ≡ index + 2
  pub within : index < length lines
  pub differs : slice_get order index ≢ Some index
  pub first : (k : ℕ) → k < index → slice_get order k ≡ Some k

-- the text has reduced lines, and the walk from the last one finishes each in its turn
pub record IsDiagramText (bytes : List ℕ) : Type 0 where
  pub lines : List Node
  pub has : HasLines bytes lines
  pub reduced : AreReduced lines
  pub order : List ℕ
  pub walk : Finishes lines (length lines - 1) [] order
  pub in_turn : (k : ℕ) → k < length lines → slice_get order k ≡ Some k

-- what putting lines into a table refuses
abbrev pub IsPlaceRefusal : List Node → DiagramError → Type 0
IsPlaceRefusal lines (Syntax at) = ⊥
IsPlaceRefusal lines (NotReduced line) = IsFirstUnreduced lines line
IsPlaceRefusal lines (Order line) = ⊥
IsPlaceRefusal lines NoMemory = Unit {0}

-- the text announces lines, and up to a place it has some of them and nothing else
pub record IsFront (bytes : List ℕ) (count at : ℕ) (lines : List Node) : Type 0 where
  pub some : 0 < count
  pub fits : count < 2 ^ 64
  pub proper : AreLines lines
  pub text : bytes ≡ (count_line count ++ lines_text lines) ++ drop at bytes
  pub ends : at ≡ length (count_line count ++ lines_text lines)

-- the bytes begin with a line that may stand behind these
pub record BeginsWithLine (lines : List Node) (bytes : List ℕ) : Type 0 where
  pub line : Node
  pub tail : List ℕ
  pub proper : IsLineAt lines (length lines) line
  pub text : bytes ≡ line_text line ++ tail

-- the text does not begin with a line that announces lines
pub record HasNoCount (bytes : List ℕ) : Type 0 where
  pub none : (n : ℕ) (tail : List ℕ) → 0 < n → n < 2 ^ 64 → bytes ≡ count_line n ++ tail → ⊥

-- the next of the announced lines should stand at the place, and none does
pub record LacksLine (bytes : List ℕ) (at : ℕ) : Type 0 where
  pub count : ℕ
  pub lines : List Node
  pub front : IsFront bytes count at lines
  pub fewer : length lines < count
  pub none : BeginsWithLine lines (drop at bytes) → ⊥

-- the announced lines end at the place, and the text goes on
pub record GoesOn (bytes : List ℕ) (at : ℕ) : Type 0 where
  pub lines : List Node
  pub front : IsFront bytes (length lines) at lines
  pub more : at < length bytes

-- the place of the first fault: the front of a text that announces no lines, the place of a line that is none, or the first byte behind the last line
abbrev pub IsSyntaxPlace : List ℕ → ℕ → Type 0
IsSyntaxPlace bytes at = ((at ≡ 0) × HasNoCount bytes) ⊎ (LacksLine bytes at ⊎ GoesOn bytes at)

-- some lines stand from the cursor on to a place, fewer than were announced, and no further line does
pub record IsShort (from : Reading) (count at : ℕ) : Type 0 where
  pub lines : List Node
  pub fewer : length lines < count
  pub proper : AreLines lines
  pub text : rest from ≡ lines_text lines ++ drop at from.bytes
  pub within : at ≤ length from.bytes
  pub none : BeginsWithLine lines (drop at from.bytes) → ⊥

-- what reading the announced lines refuses
abbrev pub IsCountedRefusal : Reading → ℕ → DiagramError → Type 0
IsCountedRefusal from count (Syntax at) = IsShort from count at
IsCountedRefusal from count (NotReduced line) = ⊥
IsCountedRefusal from count (Order line) = ⊥
IsCountedRefusal from count NoMemory = Unit {0}

-- what reading lines refuses
abbrev pub IsLineRefusal : List ℕ → DiagramError → Type 0
IsLineRefusal bytes (Syntax at) = IsSyntaxPlace bytes at
IsLineRefusal bytes (NotReduced line) = ⊥
IsLineRefusal bytes (Order line) = ⊥
IsLineRefusal bytes NoMemory = Unit {0}

-- where the refusals of a text come
abbrev pub IsRefusal : List ℕ → DiagramError → Type 0
IsRefusal bytes (Syntax at) = IsSyntaxPlace bytes at
IsRefusal bytes (NotReduced line) = IsNotReducedAt bytes line
IsRefusal bytes (Order line) = IsOrderAt bytes line
IsRefusal bytes NoMemory = Unit {0}

-- reading answers with the place, unless memory runs out
abbrev pub IsReadAs : Result Dd DiagramError → ℕ → Type 0
IsReadAs (Ok d) p = d.place ≡ p
IsReadAs (Err e) p = e ≡ NoMemory

-- reading answers with the refusal, unless memory runs out
abbrev pub IsRefusedFor : Result Dd DiagramError → DiagramError → Type 0
IsRefusedFor (Ok d) e = ⊥
IsRefusedFor (Err r) e = (r ≡ e) ⊎ (r ≡ NoMemory)
