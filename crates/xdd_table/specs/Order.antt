-- The places below a diagram, each once, and the order in which a walk finishes them.
use Rattle.std.specs.Prelude.{◌≡◌, ℕ, Bool, true, false, List, [], ◌∷◌, ◌++◌, length, slice_get, Some, nat_eq}
use Rattle.std.specs.List.{list_any}
use Rattle.xdd_table.specs.declared.node.Dd.{Dd}
use Rattle.xdd_table.specs.declared.node.Node.{Node}
use Rattle.xdd_table.specs.declared.node.Node.TheVariants.{Leaf, Branch}
use Rattle.xdd_table.specs.Diagram.{Combination, time, IsBelow}

-- whether a place stands in a list of places
abbrev pub has : List ℕ → ℕ → Bool
has places p = list_any (nat_eq p) places

-- a walk from a place, which goes to the hit branch first and to no place twice, takes the list of finished places from the first to the second
pub data Finishes (nodes : List Node) : ℕ → List ℕ → List ℕ → Type 0 where
  met : {p : ℕ} {done : List ℕ} → has done p ≡ true → Finishes nodes p done done
  leaf : {p t : ℕ} {done : List ℕ} → has done p ≡ false → slice_get nodes p ≡ Some (Leaf t) → Finishes nodes p done (done ++ p ∷ [])
  branch : {p e : ℕ} {hit miss : Dd} {done between after : List ℕ} → has done p ≡ false → slice_get nodes p ≡ Some (Branch e hit miss)
      → Finishes nodes hit.place done between → Finishes nodes miss.place between after → Finishes nodes p done (after ++ p ∷ [])

-- the list has exactly the places that are below a place or are it, each once
pub record ListsBelow (nodes : List Node) (p : ℕ) (places : List ℕ) : Type 0 where
  pub sound : (q : ℕ) → has places q ≡ true → IsBelow nodes p q
  pub whole : (q : ℕ) → IsBelow nodes p q → has places q ≡ true
  pub once : (i j q : ℕ) → slice_get places i ≡ Some q → slice_get places j ≡ Some q → i ≡ j

-- the size of a diagram: how many places are below its root, its own among them
pub record IsSize (nodes : List Node) (p size : ℕ) : Type 0 where
  pub places : List ℕ
  pub listed : ListsBelow nodes p places
  pub count : length places ≡ size

-- at the combination the time is that of a leaf in the list
pub record LeadsTo (nodes : List Node) (f : Combination) (p : ℕ) (places : List ℕ) : Type 0 where
  pub place : ℕ
  pub listed : has places place ≡ true
  pub leaf_is : slice_get nodes place ≡ Some (Leaf (time nodes f p))
