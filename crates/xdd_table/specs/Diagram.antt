-- Ordered reduced decision diagrams with several leaf values, over a table of nodes. A place is a position of the table.
-- Source: the literature of ordered binary decision diagrams; leaves with times are execution decision diagrams.
use Rattle.std.specs.Prelude.{◌≡◌, ◌≢◌, ℕ, ◌<◌, ◌≤◌, Bool, List, [], ◌∷◌, ◌++◌, length, fold, slice_get, slice_index, Some, IfSome, if◌then◌else◌, ◌==◌}
use Rattle.std.specs.List.{slice_index_or}
use Rattle.xdd_table.specs.declared.node.Dd.{Dd}
use Rattle.xdd_table.specs.declared.node.Node.{Node}
use Rattle.xdd_table.specs.declared.node.Node.TheVariants.{Leaf, Branch}

-- a combination says of each event whether it misses
abbrev pub Combination : Type 0
Combination = ℕ → Bool

-- the combination with one event given
abbrev pub with_event : Combination → ℕ → Bool → Combination
with_event f e miss = λ x. if x == e then miss else f x

-- a list of truth values stands for each combination that agrees with it on the events below its length
abbrev pub AgreesWith : List Bool → Combination → Type 0
AgreesWith combo f = (e : ℕ) (d : Bool) → e < length combo → f e ≡ slice_index_or combo e d

-- the time of a node, given the times of the places before it: a leaf's own, or that of the branch that the combination takes
abbrev pub node_time : Combination → List ℕ → Node → ℕ
node_time f earlier (Leaf t) = t
node_time f earlier (Branch e hit miss) = slice_index earlier (if f e then miss.place else hit.place)

-- the times of all places, in their order
unfoldable pub times : Combination → List Node → List ℕ
times f nodes = fold (λ earlier n. earlier ++ node_time f earlier n ∷ []) [] nodes

-- the time of the diagram at a place, at a combination
unfoldable pub time : List Node → Combination → ℕ → ℕ
time nodes f p = slice_index (times f nodes) p

-- a node whose event, if it has one, comes after the given event
abbrev pub ReadsAfter : ℕ → Node → Type 0
ReadsAfter e (Leaf t) = Unit {0}
ReadsAfter e (Branch e' hit miss) = e < e'

-- the diagram at a place begins after the event: it is a leaf, or the event at its root is a later one
abbrev pub BeginsAfter : List Node → ℕ → ℕ → Type 0
BeginsAfter nodes e p = IfSome (slice_get nodes p) (ReadsAfter e)

-- what holds of a branch at a place: its two diagrams stand before it, begin after its event, and differ
pub record IsBranchAt (nodes : List Node) (p e hit miss : ℕ) : Type 0 where
  pub hit_before : hit < p
  pub miss_before : miss < p
  pub hit_after : BeginsAfter nodes e hit
  pub miss_after : BeginsAfter nodes e miss
  pub differ : hit ≢ miss

-- what holds of a node at a place
abbrev pub IsNodeAt : List Node → ℕ → Node → Type 0
IsNodeAt nodes p (Leaf t) = Unit {0}
IsNodeAt nodes p (Branch e hit miss) = IsBranchAt nodes p e hit.place miss.place

-- the nodes of a table: ordered, reduced, and no node stands twice
pub record IsTable (nodes : List Node) : Type 0 where
  pub each : (p : ℕ) (n : Node) → slice_get nodes p ≡ Some n → IsNodeAt nodes p n
  pub once : (p q : ℕ) (n : Node) → slice_get nodes p ≡ Some n → slice_get nodes q ≡ Some n → p ≡ q

-- the node stands at no place
pub record Lacks (nodes : List Node) (n : Node) : Type 0 where
  pub none : (p : ℕ) → slice_get nodes p ≡ Some n → ⊥

-- the place holds the node, which was added last exactly where the old table lacks it
pub record Holds (old new : List Node) (n : Node) (p : ℕ) : Type 0 where
  pub at : slice_get new p ≡ Some n
  pub found : p < length old → new ≡ old
  pub added : length old ≤ p → new ≡ old ++ n ∷ []

-- the time of a node of the table, by its own fields
abbrev pub time_of_node : List Node → Combination → Node → ℕ
time_of_node nodes f (Leaf t) = t
time_of_node nodes f (Branch e hit miss) = if f e then time nodes f miss.place else time nodes f hit.place

-- the second place is reached from the first by branches, none or more
pub data IsBelow (nodes : List Node) : ℕ → ℕ → Type 0 where
  itself : {p : ℕ} → IsBelow nodes p p
  by_hit : {p q e : ℕ} {hit miss : Dd} → slice_get nodes p ≡ Some (Branch e hit miss) → IsBelow nodes hit.place q → IsBelow nodes p q
  by_miss : {p q e : ℕ} {hit miss : Dd} → slice_get nodes p ≡ Some (Branch e hit miss) → IsBelow nodes miss.place q → IsBelow nodes p q

-- each event below a place is less than the bound
abbrev pub EventsLess : List Node → ℕ → ℕ → Type 0
EventsLess nodes p bound = (q e : ℕ) (hit miss : Dd) → IsBelow nodes p q → slice_get nodes q ≡ Some (Branch e hit miss) → e < bound

-- places of the old table keep their nodes in the new one, and with them their times, and what is said of the events at and below them
pub record Keeps (old new : List Node) : Type 0 where
  pub grows : length old ≤ length new
  pub nodes : (p : ℕ) → p < length old → slice_get new p ≡ slice_get old p
  pub times : (f : Combination) (p : ℕ) → p < length old → time new f p ≡ time old f p
  pub begins : (e p : ℕ) → p < length old → BeginsAfter old e p → BeginsAfter new e p
  pub events : (p bound : ℕ) → p < length old → EventsLess old p bound → EventsLess new p bound
