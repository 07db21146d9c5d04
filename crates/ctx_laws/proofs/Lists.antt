-- Places in lists, chains that go on from others, and elements that are told by a key.
use Rattle.std.proofs.Common.{◌≡◌, ℕ, zero, suc, ◌<◌, ◌==◌, Bool, true, false, cond, List, [], ◌∷◌, ◌++◌, length, map, get_or, slice_get, refl, sym, ap, subst, ◌∙◌, inl, inr, arith, length-append}
use Rattle.std.specs.Prelude.{◌⊎◌, All, AllPairs, Any, Contains, Option, Some, None, find, option_map}
use Rattle.std.proofs.lemmas.Bool.{cases_order, eqb-true, eqb-false}
use Rattle.std.proofs.lemmas.Option.{none-some, same_Some, slice_get_within, slice_get-get_or, get_or_from_slice_get, slice_get-map}

module _ {X : Type 0} where
  -- an element with its place
  pub record IsAt (xs : List X) (x : X) : Type 0 where
    pub place : ℕ
    pub stands : slice_get xs place ≡ Some x

  pub listed : (xs : List X) (k : ℕ) (x : X) → slice_get xs k ≡ Some x → Contains xs x
  listed xs k x e = (k, slice_get_within xs k x e, get_or_from_slice_get xs k x x e)

  pub place_of : (xs : List X) (x : X) → Contains xs x → IsAt xs x
  place_of xs x c = record { place = c.0; stands = slice_get-get_or xs c.0 x c.1 ∙ ap Some c.2 }

  pub all_at : (P : X → Type 0) (xs : List X) (k : ℕ) (x : X) → All P xs → slice_get xs k ≡ Some x → P x
  all_at P xs k x all e = subst P (get_or_from_slice_get xs k x x e) (all k x (slice_get_within xs k x e))

  pub all_in : (P : X → Type 0) (xs : List X) (x : X) → All P xs → Contains xs x → P x
  all_in P xs x all c = subst P c.2 (all c.0 x c.1)

  pub one_element : (xs : List X) (k : ℕ) (x y : X) → slice_get xs k ≡ Some x → slice_get xs k ≡ Some y → x ≡ y
  one_element xs k x y e f = same_Some x y (sym e ∙ f)

  -- an element that stands somewhere
  pub record HasSome (P : X → Type 0) (xs : List X) : Type 0 where
    pub place : ℕ
    pub element : X
    pub stands : slice_get xs place ≡ Some element
    pub holds : P element

  pub some_of : (P : X → Type 0) (xs : List X) → Any P xs → HasSome P xs
  some_of P xs a = record { place = a.0; element = a.1; stands = slice_get-get_or xs a.0 a.1 a.2 ∙ ap Some a.3; holds = a.4 }

  paired : (R : X → X → Type 0) (xs : List X) (i j : ℕ) (x y : X) → AllPairs R xs → i < j → slice_get xs i ≡ Some x → slice_get xs j ≡ Some y → R x y
  paired R xs i j x y pairs less e f =
      subst (λ (b : X). R x b) (get_or_from_slice_get xs j y x f)
      (subst (λ (a : X). R a (get_or xs j x)) (get_or_from_slice_get xs i x x e) (pairs i j x less (slice_get_within xs j y f)))

  -- no element stands before itself, so each has one place
  pub one_place : (R : X → X → Type 0) (xs : List X) (i j : ℕ) (x : X) → AllPairs R xs → (R x x → ⊥) → slice_get xs i ≡ Some x → slice_get xs j ≡ Some x → i ≡ j
  one_place R xs i j x pairs never e f = elim (cases_order i j) [
    | inl same ↦ same
    | inr (inl less) ↦ absurd (never (paired R xs i j x x pairs less e f))
    | inr (inr more) ↦ absurd (never (paired R xs j i x x pairs more f e))
  ]

  module _ (key : X → ℕ) where
    pub one_key : (xs : List X) (i j : ℕ) (x y : X) → AllPairs (λ x y. key x < key y) xs → slice_get xs i ≡ Some x → slice_get xs j ≡ Some y → key x ≡ key y → i ≡ j
    one_key xs i j x y pairs e f same = elim (cases_order i j) [
      | inl k ↦ k
      | inr (inl less) ↦ absurd (let h : key x < key y = paired (λ x y. key x < key y) xs i j x y pairs less e f in omega arith)
      | inr (inr more) ↦ absurd (let h : key y < key x = paired (λ x y. key x < key y) xs j i y x pairs more f e in omega arith)
    ]

    found_or : (b : Bool) (x y : X) (rest : Option X) → cond b (Some x) rest ≡ Some y → ((b ≡ true) × (x ≡ y)) ⊎ (rest ≡ Some y)
    found_or true x y rest e = inl (refl, same_Some x y e)
    found_or false x y rest e = inr e

    -- what is found by a key has it, and stands there
    pub found_has : (xs : List X) (k : ℕ) (x : X) → find (λ y. key y == k) xs ≡ Some x → IsAt xs x × (key x ≡ k)
    found_has [] k x e = absurd (none-some x e)
    found_has (y ∷ ys) k x e = elim (found_or (key y == k) y x (find (λ y. key y == k) ys) e) [
      | inl h ↦ (record { place = 0; stands = ap Some h.1 }, ap key (sym h.1) ∙ eqb-true (key y) k h.0)
      | inr h ↦ let rest = found_has ys k x h in (record { place = suc rest.0.place; stands = rest.0.stands }, rest.1)
    ]

    none_or : (b : Bool) (x : X) (rest : Option X) → cond b (Some x) rest ≡ None → (b ≡ false) × (rest ≡ None)
    none_or true x rest e = absurd (none-some x (sym e))
    none_or false x rest e = (refl, e)

    -- where nothing is found by a key, no element has it
    pub none_has : (xs : List X) (k place : ℕ) (x : X) → find (λ y. key y == k) xs ≡ None → slice_get xs place ≡ Some x → key x ≡ k → ⊥
    none_has [] k place x e at same = none-some x at
    none_has (y ∷ ys) k zero x e at same =
        let both = none_or (key y == k) y (find (λ y. key y == k) ys) e in
        eqb-false (key y) k both.0 (ap key (same_Some y x at) ∙ same)
    none_has (y ∷ ys) k (suc place) x e at same =
        let both = none_or (key y == k) y (find (λ y. key y == k) ys) e in
        none_has ys k place x both.1 at same

    -- the first of a key is the only one
    pub finds : (xs : List X) (place : ℕ) (x : X) → AllPairs (λ x y. key x < key y) xs → slice_get xs place ≡ Some x → find (λ y. key y == key x) xs ≡ Some x
    finds xs place x pairs at = found (find (λ y. key y == key x) xs) refl
      where
        found : (o : Option X) → find (λ y. key y == key x) xs ≡ o → o ≡ Some x
        found None e = absurd (none_has xs (key x) place x e at refl)
        found (Some y) e =
            let has = found_has xs (key x) y e in
            let same = one_key xs has.0.place place y x pairs has.0.stands at has.1 in
            sym has.0.stands ∙ ap (slice_get xs) same ∙ at

  -- ---- lists that go on from others

  pub not_longer : (xs : List X) (y : X) (ys : List X) → xs ≡ xs ++ y ∷ ys → ⊥
  not_longer xs y ys e = absurd (omega (arith, ap length e, length-append xs (y ∷ ys)))

  pub not_empty : (xs : List X) (y : X) (ys : List X) → [] ≡ xs ++ y ∷ ys → ⊥
  not_empty xs y ys e = absurd (omega (arith, ap length e, length-append xs (y ∷ ys)))

  -- a list that goes on from a first one ends with an element: it is the first behind that, or stands behind a shorter such list
  pub data EndsWith (xs : List X) (y : X) (zs : List X) (z : X) : Type 0 where
    first : xs ≡ zs → y ≡ z → EndsWith xs y zs z
    later : (ys : List X) → zs ≡ xs ++ y ∷ ys → EndsWith xs y zs z

  pub heads : (x y : X) (xs ys : List X) → x ∷ xs ≡ y ∷ ys → x ≡ y
  heads x y xs ys e = same_Some x y (ap (λ l. slice_get l 0) e)

  tail : List X → List X
  tail [] = []
  tail (x ∷ xs) = xs

  pub tails : (x y : X) (xs ys : List X) → x ∷ xs ≡ y ∷ ys → xs ≡ ys
  unfolding tail
  tails x y xs ys e = ap tail e

  pub ends_with : (xs : List X) (y : X) (ys zs : List X) (z : X) → xs ++ y ∷ ys ≡ zs ++ z ∷ [] → EndsWith xs y zs z
  ends_with [] y ys [] z e = first refl (heads y z ys [] e)
  ends_with [] y ys (w ∷ zs) z e = later zs (ap (λ v. v ∷ zs) (sym (heads y w ys (zs ++ z ∷ []) e)))
  ends_with (x ∷ xs) y ys [] z e = absurd (not_empty xs y ys (sym (tails x z (xs ++ y ∷ ys) [] e)))
  ends_with (x ∷ xs) y ys (w ∷ zs) z e =
      let h = heads x w (xs ++ y ∷ ys) (zs ++ z ∷ []) e in
      elim (ends_with xs y ys zs z (tails x w (xs ++ y ∷ ys) (zs ++ z ∷ []) e)) [
        | first same one ↦ first (λ i. h i ∷ same i) one
        | later rest same ↦ later rest (λ i. sym h i ∷ same i)
      ]

  -- what stands last
  pub same_front : (xs ys : List X) (x y : X) → xs ++ x ∷ [] ≡ ys ++ y ∷ [] → (xs ≡ ys) × (x ≡ y)
  same_front xs ys x y e = elim (ends_with xs x [] ys y e) [
    | first same one ↦ (same, one)
    | later rest same ↦ absurd (omega (arith, ap length e, ap length same, length-append xs (x ∷ []), length-append ys (y ∷ []), length-append xs (x ∷ rest)))
  ]

-- an element of a list that was made of another
module _ {X Y : Type 0} (f : X → Y) where
  pub record IsMade (xs : List X) (k : ℕ) (y : Y) : Type 0 where
    pub from : X
    pub stands : slice_get xs k ≡ Some from
    pub is : f from ≡ y

  made_of : (xs : List X) (k : ℕ) (y : Y) (o : Option X) → slice_get xs k ≡ o → option_map f o ≡ Some y → IsMade xs k y
  made_of xs k y None e g = absurd (none-some y g)
  made_of xs k y (Some x) e g = record { from = x; stands = e; is = same_Some (f x) y g }

  pub made : (xs : List X) (k : ℕ) (y : Y) → slice_get (map f xs) k ≡ Some y → IsMade xs k y
  made xs k y e = made_of xs k y (slice_get xs k) refl (sym (slice_get-map f xs k) ∙ e)

  pub mapped : (xs : List X) (k : ℕ) (x : X) → slice_get xs k ≡ Some x → slice_get (map f xs) k ≡ Some (f x)
  mapped xs k x e = slice_get-map f xs k ∙ ap (option_map f) e
