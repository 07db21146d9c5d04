-- Elements of lists, and lists that stand in a list.
use Rattle.std.proofs.Common.{◌≡◌, ℕ, true, false, eqb, ◌+◌, ◌<◌, List, [], ◌∷◌, ◌++◌, length, get_or, map, replicate, refl, sym, ap, subst, ◌∙◌, inl, inr, arith}
use Rattle.std.proofs.lemmas.Bool.{cases_lt, false≢true}
use Rattle.std.proofs.lemmas.Bool.Decides.{Decides-eqb}
use Rattle.std.proofs.lemmas.List.{get_or-map, get_or_past, length-map, map_push, replicate_more}
use Rattle.std.specs.List.{Contains}
use Rattle.std.specs.Global.{Vec}
use Rattle.graph_loops.specs.Graph.{lists_of}

-- the empty list has no element
pub none_there : (v : ℕ) → Contains [] v → ⊥
none_there v h = absurd (omega (arith, h.1))

-- the one element of a list
pub the_one : (u v : ℕ) → Contains (u ∷ []) v → u ≡ v
the_one u v h = let e : h.0 ≡ 0 = omega (arith, h.1) in subst (λ (k : ℕ). get_or (u ∷ []) k v ≡ v) e h.2

pub is_the_one : (v : ℕ) → Contains (v ∷ []) v
is_the_one v = (0, omega arith, refl)

-- an element stands in a list that is the same
pub there_too : (xs ys : List ℕ) (v : ℕ) → xs ≡ ys → Contains xs v → Contains ys v
there_too xs ys v e h = subst (λ (zs : List ℕ). Contains zs v) e h

-- the same element
pub same_there : (xs : List ℕ) (u v : ℕ) → u ≡ v → Contains xs u → Contains xs v
same_there xs u v e h = subst (λ (w : ℕ). Contains xs w) e h

-- the list that stands at a place
pub list_there : {X : Type 0} (f : X → List ℕ) (lists : List X) (i : ℕ) (x : X) → i < length lists → x ≡ get_or lists i x → get_or (map f lists) i [] ≡ f x
list_there f lists i x h e = get_or-map f lists i x [] h ∙ ap f (sym e)

-- past the end stands no list, so a place with an element is within
pub within_there : (lists : List (List ℕ)) (u v : ℕ) → Contains (get_or lists u []) v → u < length lists
within_there lists u v h = elim (cases_lt u (length lists)) [
  | inl l ↦ l
  | inr p ↦ absurd (none_there v (there_too (get_or lists u []) [] v (get_or_past lists u [] p) h))
]

pub lists_length : (lists : List (Vec ℕ)) → length (lists_of lists) ≡ length lists
lists_length lists = length-map lists (λ (list : Vec ℕ). list.items)

-- one more list without elements
pub empty_more : {X : Type 0} (f : X → List ℕ) (lists after : List X) (x : X) (n : ℕ) → after ≡ lists ++ x ∷ [] → f x ≡ [] → map f lists ≡ replicate n [] → map f after ≡ replicate (n + 1) []
empty_more f lists after x n grown none before =
    ap (map f) grown ∙ map_push f lists x ∙ (λ i. before i ++ none i ∷ []) ∙ replicate_more n []

-- one more list
pub lists_more : (lists after : List (Vec ℕ)) (list : Vec ℕ) → after ≡ lists ++ list ∷ [] → lists_of after ≡ lists_of lists ++ list.items ∷ []
lists_more lists after list grown = ap lists_of grown ∙ map_push (λ (x : Vec ℕ). x.items) lists list

-- whether a list is empty
pub some_there : (n : ℕ) → false ≡ eqb n 0 → 0 < n
some_there n e = elim (cases_lt 0 n) [
  | inl l ↦ l
  | inr p ↦ absurd (false≢true (e ∙ (Decides-eqb n 0).1 (omega arith)))
]

pub nothing_there : (n : ℕ) → true ≡ eqb n 0 → n ≡ 0
nothing_there n e = (Decides-eqb n 0).0 (sym e)
