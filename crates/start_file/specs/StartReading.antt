-- Lines of a start text that were read from its front.
use Rattle.std.specs.Prelude.{◌≡◌, ◌<◌, List, [], length, map, take, All, ℕ, ◌+◌, Some, slice_get}
use Rattle.wx_base.specs.declared.image.Image.{Image}
use Rattle.wx_base.specs.declared.machine.Shape.{Shape}
use Rattle.start_file.specs.declared.start_item.Item.{Item}
use Rattle.start_file.specs.declared.start_item.Item.TheVariants as item
use Rattle.start_file.specs.declared.start_error.StartError.{StartError}
use Rattle.start_file.specs.declared.start_error.StartError.TheVariants.{Line, NotACache, NoMemory}
use Rattle.start_file.specs.Start.{words_of}
use Rattle.start_file.specs.StartText.{words_in, place, AreAscending, IsProper, Begins, IsFirstBadLine}

-- the line stands behind the others of the list, and is the head if there are none
pub record Follows (items : List Item) (next : Item) : Type 0 where
  pub above : All (λ x. place x < place next) items
  pub head : items ≡ [] → next ≡ item.Head

-- the lines say this and nothing else, and are in their order
pub record AreRead (image : Image) (shape : Shape) (lines : List (List ℕ)) (items : List Item) : Type 0 where
  pub spelled : map words_in lines ≡ map words_of items
  pub one : (others : List Item) → All (IsProper image shape) others → map words_in lines ≡ map words_of others → others ≡ items
  pub proper : All (IsProper image shape) items
  pub ascend : AreAscending items
  pub begins : 0 < length items → slice_get items 0 ≡ Some item.Head

-- the first of the lines with which no start text goes on
pub record IsForeign (image : Image) (shape : Shape) (lines : List (List ℕ)) (line : ℕ) : Type 0 where
  pub stand : ℕ
  pub counted : line ≡ stand + 1
  pub within : stand < length lines
  pub begins : Begins image shape (take stand lines)
  pub none : Begins image shape (take (stand + 1) lines) → ⊥

-- where reading lines is refused
abbrev pub IsLinesRefusal : Image → Shape → List (List ℕ) → StartError → Type 0
IsLinesRefusal image shape lines (Line line) = IsForeign image shape lines line
IsLinesRefusal image shape lines (NotACache set) = ⊥
IsLinesRefusal image shape lines NoMemory = Unit {0}

-- where reading a text is refused
abbrev pub IsTextRefusal : Image → Shape → List ℕ → StartError → Type 0
IsTextRefusal image shape text (Line line) = IsFirstBadLine image shape text line
IsTextRefusal image shape text (NotACache set) = ⊥
IsTextRefusal image shape text NoMemory = Unit {0}
