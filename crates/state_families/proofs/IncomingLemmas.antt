-- How the edges into each node are gathered.
use Rattle.std.proofs.Common.{◌≡◌, ◌≢◌, ◌↔◌, ℕ, zero, suc, ◌+◌, ◌<◌, List, [], ◌∷◌, ◌++◌, length, get_or, set, map, replicate, slice_get, Some, refl, sym, ap, subst, ◌∙◌, inl, inr, arith}
use Rattle.std.specs.Global.{Vec}
use Rattle.std.specs.List.{Contains}
use Rattle.std.proofs.lemmas.Bool.{cases_eq, cases_lt}
use Rattle.std.proofs.lemmas.List.{get_or-map, get_or-replicate, get_or-set_same, length-map, length-replicate, length-set, map-set, map_push, replicate_more}
use Rattle.std.proofs.lemmas.List.Elements.{Contains-append_left, Contains-push, Contains-push_cases}
use Rattle.std.proofs.lemmas.Option.{get_or_from_slice_get, same_Some, slice_get-get_or, slice_get_within}
use Rattle.flow_ctx.specs.declared.unfolded.Edge.{Edge}
use Rattle.state_families.specs.Incoming.{AreIncoming, IsEdgeInto, lists_of}

-- ---- lists in a list
pub empty_more : {X : Type 0} (f : X → List ℕ) (lists after : List X) (x : X) (n : ℕ) → after ≡ lists ++ x ∷ [] → f x ≡ [] → map f lists ≡ replicate n [] → map f after ≡ replicate (n + 1) []
empty_more f lists after x n grown none before =
    ap (map f) grown ∙ map_push f lists x ∙ (λ i. before i ++ none i ∷ []) ∙ replicate_more n []

list_there : {X : Type 0} (f : X → List ℕ) (lists : List X) (i : ℕ) (x : X) → i < length lists → x ≡ get_or lists i x → get_or (map f lists) i [] ≡ f x
list_there f lists i x h is = get_or-map f lists i x [] h ∙ ap f (sym is)

pub list_changed : {X : Type 0} (f : X → List ℕ) (lists : List X) (i : ℕ) (x y : X) (u : ℕ) → i < length lists → x ≡ get_or lists i x → f y ≡ f x ++ u ∷ []
    → map f (set lists i y) ≡ set (map f lists) i (get_or (map f lists) i [] ++ u ∷ [])
list_changed f lists i x y u h is e = map-set f lists i y ∙ ap (set (map f lists) i) (e ∙ ap (λ (xs : List ℕ). xs ++ u ∷ []) (sym (list_there f lists i x h is)))

set_other : {X : Type 0} (xs : List X) (to n : ℕ) (y : X) → n ≢ to → slice_get (set xs to y) n ≡ slice_get xs n
set_other [] to n y l = refl
set_other (x ∷ xs) zero zero y l = absurd (l refl)
set_other (x ∷ xs) zero (suc n) y l = refl
set_other (x ∷ xs) (suc to) zero y l = refl
set_other (x ∷ xs) (suc to) (suc n) y l = set_other xs to n y (λ e. l (ap suc e))

-- ---- edges
module _ (edges : List Edge) (count : ℕ) where
  pub incoming_none : (lists : List (List ℕ)) → lists ≡ replicate count [] → AreIncoming edges count 0 lists
  incoming_none lists none = record {
    long = ap (λ (ls : List (List ℕ)). length ls) none ∙ length-replicate count [];
    exact = λ node list at number. (λ c. absurd (nobody node list at number c), λ e. absurd (omega (arith, e.below)));
  }
    where
      empty : (node : ℕ) (list : List ℕ) → slice_get lists node ≡ Some list → list ≡ []
      empty node list at =
          let l : node < length lists = slice_get_within lists node list at in
          let long : length lists ≡ count = ap (λ (ls : List (List ℕ)). length ls) none ∙ length-replicate count [] in
          let m : node < count = omega (arith, l, long) in
          sym (get_or_from_slice_get lists node list [] at) ∙ ap (λ (ls : List (List ℕ)). get_or ls node []) none ∙ get_or-replicate count node [] [] m

      nobody : (node : ℕ) (list : List ℕ) → slice_get lists node ≡ Some list → (number : ℕ) → Contains list number → ⊥
      nobody node list at number c = let d = subst (λ (xs : List ℕ). Contains xs number) (empty node list at) c in omega (arith, d.1)

  module _ (lists after : List (List ℕ)) (number : ℕ) (edge : Edge) (at : slice_get edges number ≡ Some edge) (within : edge.to < length lists)
      (is : after ≡ set lists edge.to (get_or lists edge.to [] ++ number ∷ [])) (so_far : AreIncoming edges count number lists) where
    later : (node n : ℕ) → IsEdgeInto edges number node n → IsEdgeInto edges (number + 1) node n
    later node n e = record { edge = e.edge; below = omega (arith, e.below); stands = e.stands; comes = e.comes }

    pub incoming_more : AreIncoming edges count (number + 1) after
    incoming_more = record {
      long = ap (λ (ls : List (List ℕ)). length ls) is ∙ length-set lists edge.to (get_or lists edge.to [] ++ number ∷ []) ∙ so_far.long;
      exact = λ node list there n. elim (cases_eq node edge.to) [
        | inl here ↦ (told_here node list there n here, back_here node list there n here)
        | inr apart ↦
            let before : slice_get lists node ≡ Some list =
            sym (set_other lists edge.to node (get_or lists edge.to [] ++ number ∷ []) apart) ∙ ap (λ (ls : List (List ℕ)). slice_get ls node) (sym is) ∙ there in (
              λ c. later node n ((so_far.exact node list before n).0 c),
              λ e. (so_far.exact node list before n).1 (earlier node n apart e),
            )
      ];
    }
      where
        list_is : (node : ℕ) (list : List ℕ) → slice_get after node ≡ Some list → node ≡ edge.to → list ≡ get_or lists edge.to [] ++ number ∷ []
        list_is node list there here =
            sym (get_or_from_slice_get after node list [] there) ∙ ap (λ (k : ℕ). get_or after k []) here ∙ ap (λ (ls : List (List ℕ)). get_or ls edge.to []) is
            ∙ get_or-set_same lists edge.to (get_or lists edge.to [] ++ number ∷ []) [] within

        before_at : slice_get lists edge.to ≡ Some (get_or lists edge.to [])
        before_at = slice_get-get_or lists edge.to [] within

        told_here : (node : ℕ) (list : List ℕ) → slice_get after node ≡ Some list → (n : ℕ) → node ≡ edge.to → Contains list n → IsEdgeInto edges (number + 1) node n
        told_here node list there n here c =
            elim (Contains-push_cases (get_or lists edge.to []) number n (subst (λ (xs : List ℕ). Contains xs n) (list_is node list there here) c)) [
              | inl d ↦
                  let e = later edge.to n ((so_far.exact edge.to (get_or lists edge.to []) before_at n).0 d) in
                  subst (λ (k : ℕ). IsEdgeInto edges (number + 1) k n) (sym here) e
              | inr same ↦ subst (λ (k : ℕ). IsEdgeInto edges (number + 1) node k) same (record { edge = edge; below = omega arith; stands = at; comes = sym here })
            ]

        back_here : (node : ℕ) (list : List ℕ) → slice_get after node ≡ Some list → (n : ℕ) → node ≡ edge.to → IsEdgeInto edges (number + 1) node n → Contains list n
        back_here node list there n here e = subst (λ (xs : List ℕ). Contains xs n) (sym (list_is node list there here)) (elim (cases_lt n number) [
          | inl l ↦
              let f : IsEdgeInto edges number edge.to n = record { edge = e.edge; below = l; stands = e.stands; comes = e.comes ∙ here } in
              Contains-append_left (get_or lists edge.to []) (number ∷ []) n ((so_far.exact edge.to (get_or lists edge.to []) before_at n).1 f)
          | inr g ↦
              let same : number ≡ n = omega (arith, e.below, g) in
              subst (λ (k : ℕ). Contains (get_or lists edge.to [] ++ number ∷ []) k) same (Contains-push (get_or lists edge.to []) number)
        ])

        earlier : (node n : ℕ) → (node ≡ edge.to → ⊥) → IsEdgeInto edges (number + 1) node n → IsEdgeInto edges number node n
        earlier node n apart e = elim (cases_lt n number) [
          | inl l ↦ record { edge = e.edge; below = l; stands = e.stands; comes = e.comes }
          | inr g ↦
              let same : n ≡ number = omega (arith, e.below, g) in
              let one : e.edge ≡ edge = same_Some e.edge edge (sym e.stands ∙ ap (λ (k : ℕ). slice_get edges k) same ∙ at) in
              absurd (apart (sym e.comes ∙ ap (λ (x : Edge). x.to) one))
        ]

pub list_at : {X : Type 0} (f : X → List ℕ) (lists : List X) (i : ℕ) (x : X) → i < length lists → x ≡ get_or lists i x → slice_get (map f lists) i ≡ Some (f x)
list_at f lists i x h is =
    let l : i < length (map f lists) = omega (arith, h, length-map lists f) in
    slice_get-get_or (map f lists) i [] l ∙ ap Some (list_there f lists i x h is)

module _ (edges : List Edge) (count bound : ℕ) (lists : List (Vec ℕ)) (a : AreIncoming edges count bound (lists_of lists)) where
  pub incoming_long : length lists ≡ count
  incoming_long = sym (length-map lists (λ list. list.items)) ∙ a.long

  -- the numbers in the list of a node
  pub numbers_exact : (node : ℕ) (item : Vec ℕ) (numbers : List ℕ) → node < count → item ≡ get_or lists node item → numbers ≡ item.items
      → (number : ℕ) → Contains numbers number ↔ IsEdgeInto edges bound node number
  numbers_exact node item numbers l is same =
      subst (λ (xs : List ℕ). (number : ℕ) → Contains xs number ↔ IsEdgeInto edges bound node number) (sym same)
      (a.exact node item.items (list_at (λ (list : Vec ℕ). list.items) lists node item (omega (arith, l, incoming_long)) is))

-- lists that were empty before the edges were noted
pub incoming_of : (edges all : List Edge) (lists start new : List (Vec ℕ)) (count nodes : ℕ) → all ≡ edges → start ≡ lists → lists_of lists ≡ replicate count [] → count ≡ nodes
    → AreIncoming all (length start) (length all) (lists_of new) → AreIncoming edges nodes (length edges) (lists_of new)
incoming_of edges all lists start new count nodes same start_is empty count_is a =
    let long : length start ≡ nodes =
    ap (λ (xs : List (Vec ℕ)). length xs) start_is ∙ sym (length-map lists (λ (list : Vec ℕ). list.items)) ∙ ap (λ (xs : List (List ℕ)). length xs) empty ∙ length-replicate count [] ∙ count_is in
    subst (λ (n : ℕ). AreIncoming edges n (length edges) (lists_of new)) long (subst (λ (es : List Edge). AreIncoming es (length start) (length es) (lists_of new)) same a)
