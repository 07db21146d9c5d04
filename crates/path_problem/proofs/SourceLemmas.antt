-- The arcs of each vertex, as they are linked, and as they are listed.
use Rattle.std.proofs.Common.{◌≡◌, ℕ, zero, suc, ◌+◌, ◌<◌, ◌≤◌, List, [], ◌∷◌, ◌++◌, set, replicate, length, get_or, refl, sym, ap, subst, ◌∙◌, inl, inr, get_or-set_same, get_or-set_other, arith}
use Rattle.std.specs.Prelude.{Option, Some, None, MatchOption}
use Rattle.std.specs.List.{All, Contains}
use Rattle.std.proofs.Math.ListN.{length-set}
use Rattle.std.proofs.lemmas.Bool.{cases_lt}
use Rattle.std.proofs.lemmas.List.{length-replicate, get_or-replicate, get_or_default, get_or_past}
use Rattle.std.proofs.lemmas.List.Elements.{All-push, All-from_get_or, Contains-append_left, Contains-push}
use Rattle.path_graph.specs.declared.graph.Graph.{Graph}
use Rattle.path_graph.specs.Graph.{arc_at}
use Rattle.path_graph.specs.Sources.{AreSources, NoneFrom, IsLastFrom, LastFrom, AreArcsBelow, AreArcsFrom, HasArcsOf, AreAdded, AreSame}
use Rattle.path_graph.proofs.Cases.{by_same}

-- ---- the arcs of a vertex are listed from the last one back

pub record ComingFrom (g : Graph) (v : ℕ) (old new : List ℕ) (next : Option ℕ) : Type 0 where
  pub keeps : (a : ℕ) → Contains old a → Contains new a
  pub within : All (λ a. a < length g.arcs) old → All (λ a. a < length g.arcs) new
  pub end : ℕ
  pub few : end ≤ length g.arcs
  pub behind : (a : ℕ) → end ≤ a → a < length g.arcs → (arc_at g a).from ≡ v → Contains new a
  pub left : LastFrom g v end next

-- how far there is to go at most
pub togo : Option ℕ → ℕ
togo None = 0
togo (Some n) = suc n

pub none_came : (g : Graph) (v : ℕ) (last previous slice : List (Option ℕ)) (old : List ℕ) → slice ≡ last → AreArcsFrom g last previous → v < length g.finish → ComingFrom g v old old (get_or slice v None)
none_came g v last previous slice old is s h = record {
  keeps = λ a k. k;
  within = λ k. k;
  end = length g.arcs;
  few = omega arith;
  behind = λ a k m q. absurd (omega arith);
  left = subst (λ (xs : List (Option ℕ)). LastFrom g v (length g.arcs) (get_or xs v None)) (sym is) (s.vertices v h);
}

came : (g : Graph) (v : ℕ) (last previous : List (Option ℕ)) (old new : List ℕ) (next : Option ℕ) (n : ℕ) → AreArcsFrom g last previous → next ≡ Some n → ComingFrom g v old new next → ComingFrom g v old (new ++ n ∷ []) (get_or previous n None)
came g v last previous old new next n s e c =
    let is : IsLastFrom g v c.end n = subst (LastFrom g v c.end) e c.left in
    let below = is.below in
    let few = c.few in
    record {
      keeps = λ a k. Contains-append_left new (n ∷ []) a (c.keeps a k);
      within = λ k. All-push (λ a. a < length g.arcs) new n (c.within k) (omega arith);
      end = n;
      few = omega arith;
      behind = λ a k m q. elim (cases_lt n a) [
        | inl above ↦ elim (cases_lt a c.end) [
          | inl low ↦ absurd (is.last a above low q)
          | inr high ↦ Contains-append_left new (n ∷ []) a (c.behind a high m q)
        ]
        | inr same ↦
            let z : n ≡ a = omega arith in
            subst (Contains (new ++ n ∷ [])) z (Contains-push new n)
      ];
      left = subst (λ (w : ℕ). LastFrom g w n (get_or previous n None)) is.from (s.arcs n (omega arith));
    }

pub one_came : (g : Graph) (v : ℕ) (last previous slice : List (Option ℕ)) (old new after : List ℕ) (next : Option ℕ) (n : ℕ) → slice ≡ previous → after ≡ new ++ n ∷ [] → AreArcsFrom g last previous → next ≡ Some n → ComingFrom g v old new next → ComingFrom g v old after (get_or slice n None)
one_came g v last previous slice old new after next n same more s e c =
    let F : List ℕ → Type 0 = λ xs. ComingFrom g v old xs (get_or slice n None) in
    let H : List (Option ℕ) → Type 0 = λ xs. ComingFrom g v old (new ++ n ∷ []) (get_or xs n None) in
    subst F (sym more) (subst H (sym same) (came g v last previous old new next n s e c))

pub nearer : (g : Graph) (v : ℕ) (last previous slice : List (Option ℕ)) (old new : List ℕ) (next : Option ℕ) (n : ℕ) → slice ≡ previous → AreArcsFrom g last previous → next ≡ Some n → ComingFrom g v old new next → togo (get_or slice n None) < togo next
unfolding togo
nearer g v last previous slice old new next n same s e c =
    let is : IsLastFrom g v c.end n = subst (LastFrom g v c.end) e c.left in
    let below = is.below in
    let few = c.few in
    let before : LastFrom g (arc_at g n).from n (get_or previous n None) = s.arcs n (omega arith) in
    let less = falls (get_or previous n None) (arc_at g n).from before in
    let here : togo next ≡ suc n = ap togo e in
    let there = ap (λ (xs : List (Option ℕ)). togo (get_or xs n None)) same in
    omega arith
  where
    falls : (o : Option ℕ) (u : ℕ) → LastFrom g u n o → togo o < suc n
    falls None u f =
        let z : togo None ≡ 0 = refl in
        omega arith
    falls (Some m) u f =
        let is : IsLastFrom g u n m = f in
        let k = is.below in
        let z : togo (Some m) ≡ suc m = refl in
        omega arith

pub all_came : (g : Graph) (v : ℕ) (old new : List ℕ) (next : Option ℕ) → next ≡ None → ComingFrom g v old new next → AreAdded g v old new
all_came g v old new next e c =
    let is : NoneFrom g v c.end = subst (LastFrom g v c.end) e c.left in
    record {
      keeps = c.keeps;
      each = λ a h q. elim (cases_lt a c.end) [ inl low ↦ absurd (is.none a low q) | inr high ↦ c.behind a high h q ];
      within = c.within;
    }

pub arc_below : (g : Graph) (v : ℕ) (old new : List ℕ) (next : Option ℕ) (n : ℕ) → next ≡ Some n → ComingFrom g v old new next → n < length g.arcs
arc_below g v old new next n e c =
    let is : IsLastFrom g v c.end n = subst (LastFrom g v c.end) e c.left in
    let below = is.below in
    let few = c.few in
    omega arith

-- ---- the arcs of some vertices

pub record ArcsSoFar (g : Graph) (vertices : List ℕ) (count : ℕ) (arcs : List ℕ) : Type 0 where
  pub within : All (λ a. a < length g.arcs) arcs
  pub each : (k a : ℕ) → k < count → a < length g.arcs → (arc_at g a).from ≡ get_or vertices k 0 → Contains arcs a

pub vertex_came : (g : Graph) (vertices : List ℕ) (count : ℕ) (old new : List ℕ) → ArcsSoFar g vertices count old → AreAdded g (get_or vertices count 0) old new → ArcsSoFar g vertices (count + 1) new
vertex_came g vertices count old new s added = record {
  within = added.within s.within;
  each = λ k a h b q. elim (cases_lt k count) [
    | inl m ↦ added.keeps a (s.each k a m b q)
    | inr m ↦ let e : k ≡ count = omega arith in added.each a b (q ∙ ap (λ j. get_or vertices j 0) e)
  ];
}

pub has_arcs : (g : Graph) (vertices : List ℕ) (count : ℕ) (arcs : List ℕ) → ArcsSoFar g vertices count arcs → length vertices ≤ count → HasArcsOf g vertices arcs
has_arcs g vertices count arcs s h = record {
  each = λ a b c.
      let inside = c.1 in
      s.each c.0 a (omega arith) b (sym (get_or_default vertices c.0 0 (arc_at g a).from c.1 ∙ c.2));
}

-- ---- the same vertices

pub same_below : (n : ℕ) (xs ys : List ℕ) → AreSame xs ys → All (λ v. v < n) xs → All (λ v. v < n) ys
same_below n xs ys same below = All-from_get_or (λ v. v < n) ys 0 (λ k h.
    let c = same.back (get_or ys k 0) (k, h, get_or_default ys k (get_or ys k 0) 0 h) in
    subst (λ (v : ℕ). v < n) (get_or_default xs c.0 0 (get_or ys k 0) c.1 ∙ c.2) (below c.0 0 c.1))
