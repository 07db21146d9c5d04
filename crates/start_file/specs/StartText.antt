-- Which texts a run can start from, in this project's format, and the first line of a text that is none.
use Rattle.std.specs.Prelude.{◌≡◌, ℕ, ◌+◌, ◌-◌, ◌*◌, ◌<◌, ◌≤◌, ◌^◌, ◌==◌, List, [], ◌∷◌, ◌++◌, length, map, take, All, AllPairs, Some, slice_get}
use Rattle.std.specs.List.{slice_split}
use Rattle.wx_base.specs.declared.image.Image.{Image}
use Rattle.wx_base.specs.declared.machine.Shape.{Shape}
use Rattle.wx_base.specs.Image.{Covers}
use Rattle.start_file.specs.declared.start_item.Kind.{Kind}
use Rattle.start_file.specs.declared.start_item.Kind.TheVariants as kind
use Rattle.start_file.specs.declared.start_item.Item.{Item}
use Rattle.start_file.specs.declared.start_item.Item.TheVariants as item
use Rattle.start_file.specs.Start.{kind_of, words_of, Fits}

-- the lines of a text, and last what stands behind its last line feed
abbrev pub lines_in : List ℕ → List (List ℕ)
lines_in text = slice_split (λ b. b == 10) text

-- the words of a line, which single spaces separate
abbrev pub words_in : List ℕ → List (List ℕ)
words_in line = slice_split (λ b. b == 32) line

-- the order of the kinds of lines
abbrev pub rank : Kind → ℕ
rank kind.Head = 0
rank kind.Register = 1
rank kind.Flags = 2
rank kind.Fill = 3
rank kind.Byte = 4
rank kind.Set = 5
rank kind.End = 6

-- the number by which a line stands among those of its kind
abbrev pub number_of : Item → ℕ
number_of item.Head = 0
number_of (item.Register number value) = number
number_of (item.Flags flags) = 0
number_of (item.Fill byte) = 0
number_of (item.Byte address byte) = address
number_of (item.Set set lines) = set
number_of item.End = 0

-- where a line stands among others: by its kind, and then by its number
unfoldable pub place : Item → ℕ
place item = rank (kind_of item) * 2 ^ 32 + number_of item

-- each line stands before those behind it, so none of them comes twice
pub record AreAscending (items : List Item) : Type 0 where
  pub pairs : AllPairs (λ a b. place a < place b) items

-- the line may stand in a start text for the image and a cache of the shape: pc has no line, no byte of the image is written, and
-- the cache has the set
abbrev pub MayStand : Image → Shape → Item → Type 0
MayStand image shape item.Head = Unit {0}
MayStand image shape (item.Register number value) = number < 15
MayStand image shape (item.Flags flags) = Unit {0}
MayStand image shape (item.Fill byte) = Unit {0}
MayStand image shape (item.Byte address byte) = Covers image address → ⊥
MayStand image shape (item.Set set lines) = set < shape.sets
MayStand image shape item.End = Unit {0}

-- a line of some start text
pub record IsProper (image : Image) (shape : Shape) (item : Item) : Type 0 where
  pub fits : Fits item
  pub may : MayStand image shape item

-- what the lines of a start text say: from the head to the end, in their order
pub record IsStart (image : Image) (shape : Shape) (items : List Item) : Type 0 where
  pub begins : slice_get items 0 ≡ Some item.Head
  pub ends : slice_get items (length items - 1) ≡ Some item.End
  pub ascend : AreAscending items
  pub proper : All (IsProper image shape) items

-- the lines of a start text, and what they say
pub record AreStartLines (image : Image) (shape : Shape) (lines : List (List ℕ)) (items : List Item) : Type 0 where
  pub start : IsStart image shape items
  pub spelled : map words_in lines ≡ map words_of items

-- a start text, and what its lines say: each line ends with a line feed, and nothing stands behind the last
pub record IsStartText (image : Image) (shape : Shape) (text : List ℕ) (items : List Item) : Type 0 where
  pub lines : List (List ℕ)
  pub split : lines_in text ≡ lines ++ [] ∷ []
  pub are : AreStartLines image shape lines items

-- some start text begins with these lines
pub record Begins (image : Image) (shape : Shape) (lines : List (List ℕ)) : Type 0 where
  pub further : List (List ℕ)
  pub items : List Item
  pub are : AreStartLines image shape (lines ++ further) items

-- The line is the first of the text that is not as it must be, or that is missing: some start text begins with all lines before it,
-- none begins with it too, and the text itself is none.
pub record IsFirstBadLine (image : Image) (shape : Shape) (text : List ℕ) (line : ℕ) : Type 0 where
  pub lines : List (List ℕ)
  pub rest : List ℕ
  pub split : lines_in text ≡ lines ++ rest ∷ []
  pub stand : ℕ
  pub counted : line ≡ stand + 1
  pub within : stand ≤ length lines
  pub begins : Begins image shape (take stand lines)
  pub no_further : stand < length lines → Begins image shape (take (stand + 1) lines) → ⊥
  pub no_text : (items : List Item) → IsStartText image shape text items → ⊥
