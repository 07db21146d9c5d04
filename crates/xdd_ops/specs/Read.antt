-- The grammar of diagram texts, in this project's format: `dd N` and N lines, each `leaf T` or `branch E H M`.
-- Lines are told as nodes whose places are the numbers of lines, from 0.
use Rattle.std.specs.Prelude.{◌≡◌, ◌≢◌, ℕ, ◌<◌, ◌^◌, List, ◌++◌, length, map, codes, slice_get, slice_index, Some}
use Rattle.std.specs.List.{concat}
use Rattle.std.specs.Fmt.{decimal}
use Rattle.xdd_table.specs.declared.node.Node.{Node}
use Rattle.xdd_table.specs.declared.node.Node.TheVariants.{Leaf, Branch}
use Rattle.xdd_table.specs.Diagram.{BeginsAfter}
use Rattle.xdd_ops.specs.Text.{leaf_line, branch_line}

-- the line of a node, whose branches are told by the numbers of their lines
abbrev pub line_text : Node → List ℕ
line_text (Leaf t) = leaf_line t
line_text (Branch e hit miss) = branch_line e hit.place miss.place

-- some lines, and the line that announces them
abbrev pub lines_text : List Node → List ℕ
lines_text lines = concat (map line_text lines)

abbrev pub count_line : ℕ → List ℕ
count_line n = codes "dd " ++ decimal n ++ codes "\n"

-- a branch whose lines stand before the line `i` and begin after its event
pub record IsBranchLine (lines : List Node) (i e hit miss : ℕ) : Type 0 where
  pub small : e < 2 ^ 32
  pub hit_earlier : hit < i
  pub miss_earlier : miss < i
  pub hit_after : BeginsAfter lines e hit
  pub miss_after : BeginsAfter lines e miss

-- a node that may be the line `i`
abbrev pub IsLineAt : List Node → ℕ → Node → Type 0
IsLineAt lines i (Leaf t) = t < 2 ^ 64
IsLineAt lines i (Branch e hit miss) = IsBranchLine lines i e hit.place miss.place

-- each line is a leaf, or a branch of earlier lines
pub record AreLines (lines : List Node) : Type 0 where
  pub each : (i : ℕ) (x : Node) → slice_get lines i ≡ Some x → IsLineAt lines i x

-- the text announces these lines and has them, at least one, and nothing behind them
pub record HasLines (bytes : List ℕ) (lines : List Node) : Type 0 where
  pub some : 0 < length lines
  pub fits : length lines < 2 ^ 64
  pub proper : AreLines lines
  pub whole : bytes ≡ count_line (length lines) ++ lines_text lines

-- the node of a line in a table, where the lines stand at these places
abbrev pub placed : List ℕ → Node → Node
placed places (Leaf t) = Leaf t
placed places (Branch e hit miss) = Branch e (record { place = slice_index places hit.place }) (record { place = slice_index places miss.place })

-- the first lines stand in the table at these places, each at one of its own
pub record ArePlaced (nodes lines : List Node) (places : List ℕ) : Type 0 where
  pub within : (i p : ℕ) → slice_get places i ≡ Some p → p < length nodes
  pub each : (i p : ℕ) (x : Node) → slice_get places i ≡ Some p → slice_get lines i ≡ Some x → slice_get nodes p ≡ Some (placed places x)
  pub apart : (i j p : ℕ) → slice_get places i ≡ Some p → slice_get places j ≡ Some p → i ≡ j

-- a branch that may be put behind the nodes of a table, where the lines stand at these places
pub record CanBranch (nodes : List Node) (places : List ℕ) (e hit miss : ℕ) : Type 0 where
  pub hit_within : hit < length places
  pub miss_within : miss < length places
  pub hit_in : slice_index places hit < length nodes
  pub miss_in : slice_index places miss < length nodes
  pub hit_after : BeginsAfter nodes e (slice_index places hit)
  pub miss_after : BeginsAfter nodes e (slice_index places miss)

abbrev pub CanPlace : List Node → List ℕ → Node → Type 0
CanPlace nodes places (Leaf t) = Unit {0}
CanPlace nodes places (Branch e hit miss) = CanBranch nodes places e hit.place miss.place

-- the place of a line in a table: a branch whose two lines have one place is there itself
abbrev pub IsPlaceOf : List Node → List ℕ → Node → ℕ → Type 0
IsPlaceOf nodes places (Leaf t) p = slice_get nodes p ≡ Some (Leaf t)
IsPlaceOf nodes places (Branch e hit miss) p =
    (slice_index places hit.place ≡ slice_index places miss.place → p ≡ slice_index places hit.place)
    × (slice_index places hit.place ≢ slice_index places miss.place → slice_get nodes p ≡ Some (placed places (Branch e hit miss)))
