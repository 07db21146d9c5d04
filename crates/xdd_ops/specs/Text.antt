-- The text of a diagram, in this project's format: `dd N` and N lines, each `leaf T` or `branch E H M`, the nodes as a walk finishes them.
use Rattle.std.specs.Prelude.{◌≡◌, ℕ, ◌<◌, ◌^◌, List, [], ◌++◌, length, map, codes, nat_eq, slice_get, Option, Some, None, unwrap_or}
use Rattle.std.specs.List.{concat, position}
use Rattle.std.specs.Fmt.{decimal}
use Rattle.xdd_table.specs.declared.node.Node.{Node}
use Rattle.xdd_table.specs.declared.node.Node.TheVariants.{Leaf, Branch}
use Rattle.xdd_table.specs.Diagram.{IsTable}
use Rattle.xdd_table.specs.Order.{Finishes}

-- the number of a place's line: its position among the finished places
abbrev pub line_number : List ℕ → ℕ → ℕ
line_number places p = unwrap_or (position (nat_eq p) places) 0

-- the line of a leaf, and of a branch whose two lines have these numbers
abbrev pub leaf_line : ℕ → List ℕ
leaf_line t = codes "leaf " ++ decimal t ++ codes "\n"

abbrev pub branch_line : ℕ → ℕ → ℕ → List ℕ
branch_line e hit miss = codes "branch " ++ decimal e ++ codes " " ++ decimal hit ++ codes " " ++ decimal miss ++ codes "\n"

-- the line of a node
abbrev pub node_line : List ℕ → Node → List ℕ
node_line places (Leaf t) = leaf_line t
node_line places (Branch e hit miss) = branch_line e (line_number places hit.place) (line_number places miss.place)

-- the line of the node at a place, nothing for a place past the table
abbrev pub line_at : List ℕ → Option Node → List ℕ
line_at places None = []
line_at places (Some n) = node_line places n

-- the lines of some places
abbrev pub lines_of : List Node → List ℕ → List ℕ → List ℕ
lines_of nodes places some = concat (map (λ p. line_at places (slice_get nodes p)) some)

-- the text of the diagram whose walk finishes these places
abbrev pub diagram_text : List Node → List ℕ → List ℕ
diagram_text nodes places = codes "dd " ++ decimal (length places) ++ codes "\n" ++ lines_of nodes places places

-- the numbers of a node fit the words that hold them
abbrev pub FitsNode : Node → Type 0
FitsNode (Leaf t) = t < 2 ^ 64
FitsNode (Branch e hit miss) = e < 2 ^ 32

-- the text is that of the diagram at a place of a table, and its numbers fit their words
pub record IsTextOf (nodes : List Node) (p : ℕ) (text : List ℕ) : Type 0 where
  pub table : IsTable nodes
  pub places : List ℕ
  pub walk : Finishes nodes p [] places
  pub is : text ≡ diagram_text nodes places
  pub count : length places < 2 ^ 64
  pub fit : (i q : ℕ) (n : Node) → slice_get places i ≡ Some q → slice_get nodes q ≡ Some n → FitsNode n
