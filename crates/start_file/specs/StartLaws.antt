-- A start text as its lines one after another, which is the same as what it is by its parts.
use Rattle.std.specs.Prelude.{◌≡◌, ◌↔◌, ◌==◌, false, List, [], ◌∷◌, ◌++◌, ℕ, map, All}
use Rattle.std.specs.List.{concat, join_with_byte}
use Rattle.wx_base.specs.declared.image.Image.{Image}
use Rattle.wx_base.specs.declared.machine.Shape.{Shape}
use Rattle.start_file.specs.declared.start_item.Item.{Item}
use Rattle.start_file.specs.Start.{words_of}
use Rattle.start_file.specs.StartText.{IsStart, IsStartText, Begins}

-- the words with single spaces between them, and a line feed behind the last
abbrev pub line_text : Item → List ℕ
line_text item = join_with_byte 32 (words_of item) ++ 10 ∷ []

-- a start text is its lines one after another
abbrev pub StartTextIsItsLines : Type 0
StartTextIsItsLines = (image : Image) (shape : Shape) (text : List ℕ) (items : List Item) → IsStartText image shape text items → text ≡ concat (map line_text items)

-- the lines of each start one after another are a start text
abbrev pub LinesAreAStartText : Type 0
LinesAreAStartText = (image : Image) (shape : Shape) (items : List Item) → IsStart image shape items → IsStartText image shape (concat (map line_text items)) items

-- the lines, each with its line feed
abbrev pub ended : List (List ℕ) → List ℕ
ended lines = concat (map (λ line. line ++ 10 ∷ []) lines)

-- some start text begins with these bytes
pub record IsFrontOfStartText (image : Image) (shape : Shape) (front : List ℕ) : Type 0 where
  pub tail : List ℕ
  pub items : List Item
  pub is : IsStartText image shape (front ++ tail) items

-- no byte of the lines is a line feed
abbrev pub AreWithoutFeed : List (List ℕ) → Type 0
AreWithoutFeed lines = All (λ line. All (λ b. (b == 10) ≡ false) line) lines

-- that some start text begins with lines is said of its bytes as well as of its lines
abbrev pub LinesBeginAsBytesDo : Type 0
LinesBeginAsBytesDo = (image : Image) (shape : Shape) (lines : List (List ℕ)) → AreWithoutFeed lines → Begins image shape lines ↔ IsFrontOfStartText image shape (ended lines)
