-- Vertices stay vertices.
use Rattle.std.proofs.Common.{arith, ◌≤◌, ◌≡◌, ◌∙◌, ℕ, ◌<◌, List, [], ◌∷◌, ◌++◌, length, get_or, sym, subst, inl, inr}
use Rattle.std.proofs.lemmas.List.{get_or_default}
use Rattle.std.proofs.lemmas.List.Elements.{Contains-push_cases, Contains-get_or}
use Rattle.graph_loops.specs.Graph.{edges, AreVertices, IsGraph}
use Rattle.graph_loops.proofs.Places.{none_there, there_too, within_there}

pub no_vertices : (n : ℕ) (list : List ℕ) → list ≡ [] → AreVertices n list
no_vertices n list e = record { within = λ v h. absurd (none_there v (there_too list [] v e h)) }

pub vertices_more : (n : ℕ) (list after : List ℕ) (v : ℕ) → after ≡ list ++ v ∷ [] → AreVertices n list → v < n → AreVertices n after
vertices_more n list after v grown a h = record {
  within = λ u k. elim (Contains-push_cases list v u (there_too after (list ++ v ∷ []) u grown k)) [
    | inl l ↦ a.within u l
    | inr e ↦ subst (λ (x : ℕ). x < n) e h
  ];
}

pub vertices_below : (n m : ℕ) (list : List ℕ) → n ≡ m → AreVertices n list → AreVertices m list
vertices_below n m list e a = subst (λ (k : ℕ). AreVertices k list) e a

pub vertex_there : (n : ℕ) (list : List ℕ) (i : ℕ) → AreVertices n list → i < length list → get_or list i 0 < n
vertex_there n list i a h = a.within (get_or list i 0) (Contains-get_or list i 0 h)

-- the vertex at a place of a queue that was read
pub vertex_at_place : (n : ℕ) (queue slice : List ℕ) (i v : ℕ) → AreVertices n queue → slice ≡ queue → i < length slice → v ≡ get_or slice i 0 → v < n
vertex_at_place n queue slice i v a e h is =
    subst (λ (x : ℕ). x < n) (sym is) (vertex_there n slice i (subst (λ (q : List ℕ). AreVertices n q) (sym e) a) h)

pub vertices_all : (n : ℕ) (list : List ℕ) → ((k : ℕ) → k < length list → get_or list k 0 < n) → AreVertices n list
vertices_all n list h = record { within = λ v a. subst (λ (x : ℕ). x < n) (get_or_default list a.0 0 v a.1 ∙ a.2) (h a.0 a.1) }

-- a graph, if each list has vertices alone
pub graph_all : (lists : List (List ℕ)) (n m : ℕ) → n ≡ length lists → n ≤ m → ((v : ℕ) → v < m → AreVertices n (edges lists v)) → IsGraph lists
graph_all lists n m e all h = record { within = λ u v k. let l : u < m = omega (arith, within_there lists u v k) in subst (λ (x : ℕ). v < x) e ((h u l).within v k) }
