-- A list has one order in which a number of its elements rises. So what a file states has one order, and a file states one set of facts.
use Rattle.std.proofs.Common.{◌≡◌, ℕ, zero, suc, ◌<◌, ◌⊎◌, List, [], ◌∷◌, length, get_or, map, refl, sym, ap, ◌∙◌, subst, inl, inr, arith}
use Rattle.std.proofs.lemmas.List.Elements.{All-contains_itself}
use Rattle.std.proofs.lemmas.List.Sorted.{All-permutation, IsPermutation-sym, IsPermutation-trans}
use Rattle.std.specs.List.{All, AllPairs, Contains}
use Rattle.std.specs.List.Sorted.{IsPermutation}
use Rattle.wx_base.specs.declared.facts.Facts.{Facts}
use Rattle.wx_base.specs.declared.symbol.Symbol.{Symbol}
use Rattle.ffx_facts.specs.declared.kind.Kind.TheVariants.{MultiBranch, MultiCall}
use Rattle.ffx_facts.specs.declared.says.Says.{Says}
use Rattle.ffx_facts.specs.Machine.{Element}
use Rattle.ffx_facts.specs.Values.{says}
use Rattle.ffx_facts.specs.Faults.{AreFine}
use Rattle.ffx_facts.specs.Order.{AreFacts, loop_facts, target_facts}
use Rattle.ffx_facts.specs.Laws.{FactsAreOne}
use Rattle.ffx_facts.proofs.Exact.{oks_same, one_reading}

at_place : {X : Type 0} (y : X) (ys : List X) (x : X) (k : ℕ) → k < length (y ∷ ys) → get_or (y ∷ ys) k x ≡ x → (y ≡ x) ⊎ Contains ys x
at_place y ys x zero within e = inl e
at_place y ys x (suc k) within e = inr (k, omega arith, e)

-- an element is the first or a later one
first_or_later : {X : Type 0} (y : X) (ys : List X) (x : X) → Contains (y ∷ ys) x → (y ≡ x) ⊎ Contains ys x
first_or_later y ys x c = at_place y ys x c.0 c.1 c.2

no_element : {X : Type 0} (x : X) → Contains [] x → ⊥
no_element x c = let h : c.0 < 0 = c.1 in absurd (omega arith)

module _ {X : Type 0} (key : X → ℕ) where
  -- the number of each element is below those of later ones
  abbrev Rises : List X → Type 0
  Rises xs = AllPairs (λ x y. key x < key y) xs

  -- each element of one list is one of the other
  record Covers (xs ys : List X) : Type 0 where
    has : All (Contains ys) xs

  covers : (xs ys : List X) → IsPermutation xs ys → Covers xs ys
  covers xs ys p = record { has = All-permutation (Contains ys) ys xs (IsPermutation-sym xs ys p) (All-contains_itself ys) }

  later_above : (y : X) (ys : List X) (x : X) → Rises (y ∷ ys) → Contains ys x → key y < key x
  later_above y ys x up c = subst (λ z. key y < key z) c.2 (up 0 (suc c.0) x (omega arith) (omega (arith, c.1)))

  first_same : (x y : X) (xs ys : List X) → Rises (x ∷ xs) → Rises (y ∷ ys) → Contains (y ∷ ys) x → Contains (x ∷ xs) y → x ≡ y
  first_same x y xs ys up up' c d = by (first_or_later y ys x c) (first_or_later x xs y d)
    where
      by : (y ≡ x) ⊎ Contains ys x → (x ≡ y) ⊎ Contains xs y → x ≡ y
      by (inl e) b = sym e
      by (inr a) (inl e) = e
      by (inr a) (inr b) = absurd (omega (arith, later_above y ys x up' a, later_above x xs y up b))

  rest_covers : (x y : X) (xs ys : List X) → x ≡ y → Rises (x ∷ xs) → Covers (x ∷ xs) (y ∷ ys) → Covers xs ys
  rest_covers x y xs ys e up c = record {
    has = λ k d within.
        let z = get_or xs k d in
        let above : key x < key z = up 0 (suc k) d (omega arith) (omega arith) in
        elim (first_or_later y ys z (c.has (suc k) d (omega arith))) [ inl first ↦ absurd (omega (arith, above, ap key e, ap key first)) | inr later ↦ later ];
  }

  rest_rises : (x : X) (xs : List X) → Rises (x ∷ xs) → Rises xs
  rest_rises x xs up i j d less within = up (suc i) (suc j) d (omega arith) (omega arith)

  one_list : (xs ys : List X) → Rises xs → Rises ys → Covers xs ys → Covers ys xs → xs ≡ ys
  one_list [] [] up up' c c' = refl
  one_list [] (y ∷ ys) up up' c c' = absurd (no_element y (c'.has 0 y (omega arith)))
  one_list (x ∷ xs) [] up up' c c' = absurd (no_element x (c.has 0 x (omega arith)))
  one_list (x ∷ xs) (y ∷ ys) up up' c c' =
      let e : x ≡ y = first_same x y xs ys up up' (c.has 0 x (omega arith)) (c'.has 0 y (omega arith)) in
      let rest : xs ≡ ys = one_list xs ys (rest_rises x xs up) (rest_rises y ys up') (rest_covers x y xs ys e up c) (rest_covers y x ys xs (sym e) up' c') in
      λ i. e i ∷ rest i

  -- a list has one order in which the number rises
  one_order : (xs ys zs : List X) → IsPermutation xs ys → IsPermutation xs zs → Rises ys → Rises zs → ys ≡ zs
  one_order xs ys zs p q up up' =
      let there = IsPermutation-trans ys xs zs (IsPermutation-sym xs ys p) q in
      one_list ys zs up up' (covers ys zs there) (covers zs ys (IsPermutation-sym ys zs there))

-- what elements say is one list
said_one : (symbols : List Symbol) (es fs : List Element) (all others : List Says) → es ≡ fs → AreFine symbols es all → AreFine symbols fs others → all ≡ others
said_one symbols es fs all others e a b = oks_same all others (sym a.say ∙ ap (map (says symbols)) e ∙ b.say)

-- what was said is one set of facts
stated_one : (all : List Says) (f g : Facts) → AreFacts all f → AreFacts all g → f ≡ g
stated_one all f g a b =
    let loops = one_order (λ x. x.address) (loop_facts all) f.loops g.loops a.loops b.loops a.ascend.loops b.ascend.loops in
    let branches = one_order (λ x. x.address) (target_facts MultiBranch all) f.branches g.branches a.branches b.branches a.ascend.branches.addresses b.ascend.branches.addresses in
    let calls = one_order (λ x. x.address) (target_facts MultiCall all) f.calls g.calls a.calls b.calls a.ascend.calls.addresses b.ascend.calls.addresses in
    λ i. record { loops = loops i; branches = branches i; calls = calls i }

pub facts_one : FactsAreOne
facts_one bytes symbols f g a b =
    let elements = one_reading bytes a.fine.elements b.fine.elements a.fine.file b.fine.file in
    let said = said_one symbols a.fine.elements b.fine.elements a.all b.all elements a.fine.fine b.fine.fine in
    stated_one a.all f g a.stated (subst (λ all. AreFacts all g) (sym said) b.stated)
