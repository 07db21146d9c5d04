-- Lists of vertices make a graph.
use Rattle.std.proofs.Common.{◌≡◌, ℕ, ◌<◌, List, [], ◌∷◌, ◌++◌, length, subst, ◌∙◌, inl, inr, arith}
use Rattle.std.proofs.lemmas.Bool.{cases_lt}
use Rattle.std.proofs.lemmas.List.{get_or_past, length-map}
use Rattle.std.proofs.lemmas.List.Elements.{All-map, Contains-push_cases}
use Rattle.std.specs.Global.{Vec}
use Rattle.std.specs.List.{All, Contains}
use Rattle.graph_loops.specs.Graph.{AreVertices, IsGraph, lists_of}

pub no_vertices : (count : ℕ) → AreVertices count []
no_vertices count = record { within = λ v h. absurd (omega (arith, h.1)) }

pub one_more : (count : ℕ) (list : List ℕ) (v : ℕ) → AreVertices count list → v < count → AreVertices count (list ++ v ∷ [])
one_more count list v so_far below = record {
  within = λ u h. elim (Contains-push_cases list v u h) [ inl before ↦ so_far.within u before | inr e ↦ subst (λ (x : ℕ). x < count) e below ];
}

-- as many lists as there are vertices
pub graph_of : (count : ℕ) (lists : List (Vec ℕ)) → All (λ list. AreVertices count list.items) lists → length lists ≡ count → IsGraph (lists_of lists)
graph_of count lists each so_many = record {
  within = λ u v h.
      let all : All (λ list. AreVertices count list) (lists_of lists) = All-map (λ (list : List ℕ). AreVertices count list) (λ (list : Vec ℕ). list.items) lists each in
      let long : length (lists_of lists) ≡ count = length-map lists (λ (list : Vec ℕ). list.items) ∙ so_many in
      elim (cases_lt u (length (lists_of lists))) [
        | inl low ↦ let below : v < count = (all u [] low).within v h in omega arith
        | inr high ↦ absurd (let none = subst (λ (list : List ℕ). Contains list v) (get_or_past (lists_of lists) u [] high) h in omega (arith, none.1))
      ];
}
