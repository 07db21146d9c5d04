-- Graphs, told by what each vertex leads to: paths, back edges, loops, and cycles without back edges. The vertices are
-- numbers, such as addresses. Which edges are back edges is the textbook's notion by dominance, said with paths alone.
use Rattle.std.specs.Prelude.{◌≡◌, ℕ, List, [], ◌∷◌, Contains, ◌⊎◌}

-- A path: each vertex leads to the one behind it, and none of them is one of those avoided. A vertex alone is a path.
pub data Path (leads : ℕ → List ℕ) (avoided : List ℕ) : ℕ → ℕ → Type 0 where
  here : (a : ℕ) → (Contains avoided a → ⊥) → Path leads avoided a a
  further : {a b c : ℕ} → (Contains avoided a → ⊥) → Contains (leads a) b → Path leads avoided b c → Path leads avoided a c

-- an edge is a back edge if its source is reached from the entry, and each path to there has its target, the head, on it
pub record IsBackEdge (leads : ℕ → List ℕ) (entry source head : ℕ) : Type 0 where
  pub reached : Path leads [] entry source
  pub edge : Contains (leads source) head
  pub through : Path leads (head ∷ []) entry source → ⊥

-- a vertex to which a back edge leads is a head
pub record IsHead (leads : ℕ → List ℕ) (entry head : ℕ) : Type 0 where
  pub source : ℕ
  pub back : IsBackEdge leads entry source head

-- a vertex, other than the head and reached from the entry, that reaches the source of one of the head's back edges without
-- the head
pub record IsInner (leads : ℕ → List ℕ) (entry head a : ℕ) : Type 0 where
  pub reached : Path leads [] entry a
  pub source : ℕ
  pub back : IsBackEdge leads entry source head
  pub path : Path leads (head ∷ []) a source

-- a vertex is a member of the loop of a head if it is that head or such a vertex
abbrev pub IsMember : (ℕ → List ℕ) → ℕ → ℕ → ℕ → Type 0
IsMember leads entry head a = (a ≡ head) ⊎ IsInner leads entry head a

-- an edge from a vertex that is reached from the entry is a forward edge if it is no back edge
pub record IsForward (leads : ℕ → List ℕ) (entry a b : ℕ) : Type 0 where
  pub reached : Path leads [] entry a
  pub edge : Contains (leads a) b
  pub forward : IsBackEdge leads entry a b → ⊥

-- one or more forward edges, one behind the other
pub data ForwardPath (leads : ℕ → List ℕ) (entry : ℕ) : ℕ → ℕ → Type 0 where
  one : {a b : ℕ} → IsForward leads entry a b → ForwardPath leads entry a b
  more : {a b c : ℕ} → IsForward leads entry a b → ForwardPath leads entry b c → ForwardPath leads entry a c

-- A vertex lies on a cycle of forward edges. A graph with such a vertex is irreducible: that cycle is entered at two places.
abbrev pub IsOnForwardCycle : (ℕ → List ℕ) → ℕ → ℕ → Type 0
IsOnForwardCycle leads entry a = ForwardPath leads entry a a
