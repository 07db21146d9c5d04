-- Laws of the texts of diagrams, in this project's format.
use Rattle.std.specs.Prelude.{◌≡◌, ℕ, List}
use Rattle.xdd_table.specs.declared.node.Node.{Node}
use Rattle.xdd_table.specs.Diagram.{Combination, time, IsTable, Keeps}
use Rattle.xdd_ops.specs.Text.{IsTextOf}
use Rattle.xdd_ops.specs.Refusal.{IsDiagramText}

-- the texts of one place of a table are one
abbrev pub PlaceHasOneText : Type 0
PlaceHasOneText = (nodes : List Node) (p : ℕ) (text other : List ℕ) → IsTextOf nodes p text → IsTextOf nodes p other → text ≡ other

-- the places of a table that have one text are one
abbrev pub TextHasOnePlace : Type 0
TextHasOnePlace = (nodes : List Node) (p q : ℕ) (text : List ℕ) → IsTextOf nodes p text → IsTextOf nodes q text → p ≡ q

-- the text of a place of a table is a text of the grammar
abbrev pub TextIsOfGrammar : Type 0
TextIsOfGrammar = (nodes : List Node) (p : ℕ) (text : List ℕ) → IsTextOf nodes p text → IsDiagramText text

-- the text of a place stays its text while the table grows
abbrev pub TextIsKept : Type 0
TextIsKept = (old new : List Node) (p : ℕ) (text : List ℕ) → Keeps old new → IsTable new → IsTextOf old p text → IsTextOf new p text

-- places that have one text, in whatever tables, have the same time at every combination
abbrev pub TextTellsTimes : Type 0
TextTellsTimes = (a b : List Node) (p q : ℕ) (text : List ℕ) → IsTextOf a p text → IsTextOf b q text → (f : Combination) → time a f p ≡ time b f q
