-- Ascending addresses and their places: the order, the address of a place, and lists of places as lists of addresses.
use Rattle.std.proofs.Common.{◌≡◌, ℕ, ◌<◌, ◌≤◌, List, [], length, get_or, ◌∷◌, map, sym, ap, ◌∙◌, subst, inl, inr, arith}
use Rattle.std.proofs.lemmas.List.{get_or-map, get_or_default, length-map}
use Rattle.std.proofs.lemmas.List.Elements.{Contains-get_or}
use Rattle.std.proofs.lemmas.Bool.{cases_lt}
use Rattle.std.specs.List.{All, AllPairs, Any, Contains}
use Rattle.std.specs.Prelude.{slice_index}
use Rattle.wx_base.specs.Facts.{AreAscending}
use Rattle.flow_graph.specs.Numbers.{HasNumber}

-- an element of the image of a list comes from an element of the list
pub record Comes (f : ℕ → ℕ) (list : List ℕ) (y : ℕ) : Type 0 where
  pub from : ℕ
  pub listed : Contains list from
  pub is : y ≡ f from

-- a list ascends and has exactly the numbers of which something holds
pub record AreJust (P : ℕ → Type 0) (list : List ℕ) : Type 0 where
  pub ascending : AreAscending list
  pub sound : (v : ℕ) → Contains list v → P v
  pub whole : (v : ℕ) → P v → Contains list v

-- the least number of which something holds
pub record IsLeast (P : ℕ → Type 0) (v : ℕ) : Type 0 where
  pub holds : P v
  pub least : (w : ℕ) → P w → v ≤ w

-- what a list has, its image has
pub mapped_has : (f : ℕ → ℕ) (list : List ℕ) (x : ℕ) → Contains list x → Contains (map f list) (f x)
mapped_has f list x c =
    let within : c.0 < length (map f list) = omega (arith, length-map list f, c.1) in
    (c.0, within, get_or-map f list c.0 x (f x) c.1 ∙ ap f c.2)

-- what the image of a list has comes from an element
pub mapped_from : (f : ℕ → ℕ) (list : List ℕ) (y : ℕ) → Contains (map f list) y → Comes f list y
mapped_from f list y c =
    let within : c.0 < length list = omega (arith, length-map list f, c.1) in
    let x = get_or list c.0 0 in
    record {
      from = x;
      listed = (c.0, within, get_or_default list c.0 x 0 within);
      is = sym c.2 ∙ get_or-map f list c.0 0 y within;
    }

-- what holds of the images of each two elements holds of each two of the image
pub pairs_mapped : {X Y : Type 0} (R : Y → Y → Type 0) (f : X → Y) (xs : List X) → AllPairs (λ x y. R (f x) (f y)) xs → AllPairs R (map f xs)
pairs_mapped R f [] h i j d less within = absurd (omega arith)
pairs_mapped R f (x ∷ rest) h i j d less within =
    let end : j < length (x ∷ rest) = omega (arith, length-map (x ∷ rest) f, within) in
    let at_i = get_or-map f (x ∷ rest) i x d (omega arith) in
    let at_j = get_or-map f (x ∷ rest) j x d end in
    subst (λ y. R y (get_or (map f (x ∷ rest)) j d)) (sym at_i) (subst (λ y. R (f (get_or (x ∷ rest) i x)) y) (sym at_j) (h i j x less end))

-- and the other way round
pub pairs_from_mapped : {X Y : Type 0} (R : Y → Y → Type 0) (f : X → Y) (xs : List X) → AllPairs R (map f xs) → AllPairs (λ x y. R (f x) (f y)) xs
pairs_from_mapped R f xs h i j d less within =
    let at_i = get_or-map f xs i d (f d) (omega arith) in
    let at_j = get_or-map f xs j d (f d) within in
    subst (λ y. R y (f (get_or xs j d))) at_i (subst (λ y. R (get_or (map f xs) i (f d)) y) at_j
    (h i j (f d) less (omega (arith, length-map xs f))))

-- what is among the keys is the key of some element
pub any_with_key : {X : Type 0} (key : X → ℕ) (xs : List X) (k : ℕ) → Contains (map key xs) k → Any (λ x. key x ≡ k) xs
any_with_key key [] k c = let none : c.0 < 0 = c.1 in absurd (omega arith)
any_with_key key (x ∷ rest) k c =
    let within : c.0 < length (x ∷ rest) = omega (arith, length-map (x ∷ rest) key, c.1) in
    let y = get_or (x ∷ rest) c.0 x in
    (c.0, y, within, get_or_default (x ∷ rest) c.0 y x within, sym (get_or-map key (x ∷ rest) c.0 x k within) ∙ c.2)

-- an address that is listed has a number
pub listed_number : (addresses : List ℕ) (b : ℕ) → Contains addresses b → HasNumber addresses (λ i. Unit {0}) b
listed_number addresses b c = record { number = c.0; within = c.1; is = sym c.2 ∙ get_or_default addresses c.0 b 0 c.1; holds = tt }

module _ (addresses : List ℕ) (ascending : AreAscending addresses) where
  -- places are in the order of the addresses
  pub place_below : (i j : ℕ) → i < j → j < length addresses → slice_index addresses i < slice_index addresses j
  place_below i j less within = ascending i j 0 less within

  pub place_back : (i j : ℕ) → i < length addresses → slice_index addresses i < slice_index addresses j → i < j
  place_back i j within less = elim (cases_lt i j) [
    | inl below ↦ below
    | inr above ↦ elim (cases_lt j i) [
      | inl below ↦ absurd (omega (arith, ascending j i 0 below within))
      | inr same ↦ let e : i ≡ j = omega arith in absurd (omega (arith, ap (slice_index addresses) e))
    ]
  ]

  pub place_at_most : (i j : ℕ) → i ≤ j → j < length addresses → slice_index addresses i ≤ slice_index addresses j
  place_at_most i j less within = elim (cases_lt i j) [
    | inl below ↦ omega (arith, ascending i j 0 below within)
    | inr above ↦ let e : i ≡ j = omega arith in omega (arith, ap (slice_index addresses) e)
  ]

  -- no address stands at two places
  pub one_place : (i j : ℕ) → i < length addresses → j < length addresses → slice_index addresses i ≡ slice_index addresses j → i ≡ j
  one_place i j hi hj e = elim (cases_lt i j) [
    | inl below ↦ absurd (omega (arith, ascending i j 0 below hj))
    | inr above ↦ elim (cases_lt j i) [
      | inl below ↦ absurd (omega (arith, ascending j i 0 below hi))
      | inr same ↦ omega arith
    ]
  ]

  -- what holds of the number of an address, whichever it is, holds of each
  pub own : (P : ℕ → Type 0) (i : ℕ) → i < length addresses → HasNumber addresses P (slice_index addresses i) → P i
  own P i within has = subst P (one_place has.number i has.within within (sym has.is)) has.holds

  -- elements in the order of numbers are in the order of the addresses at these
  pub keys_ascend : {X : Type 0} (key : X → ℕ) (xs : List X) → All (λ x. key x < length addresses) xs → AllPairs (λ x y. key x < key y) xs
      → AllPairs (λ x y. slice_index addresses (key x) < slice_index addresses (key y)) xs
  keys_ascend key xs below h i j d less within = ascending (key (get_or xs i d)) (key (get_or xs j d)) 0 (h i j d less within) (below j d within)

  pub numbers_ascend : (list : List ℕ) → All (λ v. v < length addresses) list → AreAscending list → AreAscending (map (slice_index addresses) list)
  numbers_ascend list below h = pairs_mapped (λ x y. x < y) (slice_index addresses) list (keys_ascend (λ v. v) list below h)

  module _ {P Q : ℕ → Type 0} (below : (v : ℕ) → P v → v < length addresses) (to : (v : ℕ) → P v → Q (slice_index addresses v)) (from : (b : ℕ) → Q b → HasNumber addresses P b) where
    -- the addresses of exactly the numbers of which one thing holds are exactly those of which the other holds
    pub just_mapped : (list : List ℕ) → AreJust P list → AreJust Q (map (slice_index addresses) list)
    just_mapped list just = record {
      ascending = numbers_ascend list (λ k d within. below (get_or list k d) (just.sound (get_or list k d) (Contains-get_or list k d within))) just.ascending;
      sound = λ b c.
          let x = mapped_from (slice_index addresses) list b c in
          subst Q (sym x.is) (to x.from (just.sound x.from x.listed));
      whole = λ b holds.
          let x = from b holds in
          subst (λ y. Contains (map (slice_index addresses) list) y) (sym x.is)
          (mapped_has (slice_index addresses) list x.number (just.whole x.number x.holds));
    }

    -- the address of the least such number is the least such address
    pub least_mapped : (v : ℕ) → IsLeast P v → IsLeast Q (slice_index addresses v)
    least_mapped v least = record {
      holds = to v least.holds;
      least = λ b holds.
          let x = from b holds in
          omega (arith, x.is, place_at_most v x.number (least.least x.number x.holds) x.within);
    }
