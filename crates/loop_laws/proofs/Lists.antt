-- Elements of lists by their places, chains that go on from others, and how long lists are.
use Rattle.std.proofs.Common.{◌≡◌, ℕ, suc, ◌<◌, ◌≤◌, List, [], ◌∷◌, ◌++◌, length, map, get_or, slice_get, refl, sym, ap, subst, ◌∙◌, inl, inr, arith, length-append}
use Rattle.std.specs.Prelude.{◌⊎◌, All, AllPairs, Any, Contains, Option, Some, None, option_map}
use Rattle.std.proofs.lemmas.Bool.{cases_eq, cases_order}
use Rattle.std.proofs.lemmas.List.Elements.{Contains-append_cases, Contains-append_left, Contains-append_right}
use Rattle.std.proofs.lemmas.Option.{none-some, same_Some, slice_get_within, slice_get-get_or, get_or_from_slice_get, slice_get-map}

module _ {X : Type 0} where
  -- an element with its place
  pub record IsAt (xs : List X) (x : X) : Type 0 where
    pub place : ℕ
    pub stands : slice_get xs place ≡ Some x

  pub listed : (xs : List X) (k : ℕ) (x : X) → slice_get xs k ≡ Some x → Contains xs x
  listed xs k x e = (k, slice_get_within xs k x e, get_or_from_slice_get xs k x x e)

  pub place_of : (xs : List X) (x : X) → Contains xs x → IsAt xs x
  place_of xs x c = record { place = c.0; stands = slice_get-get_or xs c.0 x c.1 ∙ ap Some c.2 }

  pub all_at : (P : X → Type 0) (xs : List X) (k : ℕ) (x : X) → All P xs → slice_get xs k ≡ Some x → P x
  all_at P xs k x all e = subst P (get_or_from_slice_get xs k x x e) (all k x (slice_get_within xs k x e))

  pub all_in : (P : X → Type 0) (xs : List X) (x : X) → All P xs → Contains xs x → P x
  all_in P xs x all c = subst P c.2 (all c.0 x c.1)

  pub one_element : (xs : List X) (k : ℕ) (x y : X) → slice_get xs k ≡ Some x → slice_get xs k ≡ Some y → x ≡ y
  one_element xs k x y e f = same_Some x y (sym e ∙ f)

  -- an element that stands somewhere
  pub record HasSome (P : X → Type 0) (xs : List X) : Type 0 where
    pub place : ℕ
    pub element : X
    pub stands : slice_get xs place ≡ Some element
    pub holds : P element

  pub some_of : (P : X → Type 0) (xs : List X) → Any P xs → HasSome P xs
  some_of P xs a = record { place = a.0; element = a.1; stands = slice_get-get_or xs a.0 a.1 a.2 ∙ ap Some a.3; holds = a.4 }

  pub all_of : (P : X → Type 0) (xs : List X) → ((x : X) → Contains xs x → P x) → All P xs
  all_of P xs each i x less =
      let y : X = get_or xs i x in each y (i, less, get_or_from_slice_get xs i y y (slice_get-get_or xs i x less))

  pub paired : (R : X → X → Type 0) (xs : List X) (i j : ℕ) (x y : X) → AllPairs R xs → i < j → slice_get xs i ≡ Some x → slice_get xs j ≡ Some y → R x y
  paired R xs i j x y pairs less e f =
      subst (λ (b : X). R x b) (get_or_from_slice_get xs j y x f)
      (subst (λ (a : X). R a (get_or xs j x)) (get_or_from_slice_get xs i x x e) (pairs i j x less (slice_get_within xs j y f)))

  pub one_key : (key : X → ℕ) (xs : List X) (i j : ℕ) (x y : X) → AllPairs (λ x y. key x < key y) xs → slice_get xs i ≡ Some x → slice_get xs j ≡ Some y → key x ≡ key y → i ≡ j
  one_key key xs i j x y pairs e f same = elim (cases_order i j) [
    | inl k ↦ k
    | inr (inl less) ↦ absurd (let h : key x < key y = paired (λ x y. key x < key y) xs i j x y pairs less e f in omega arith)
    | inr (inr more) ↦ absurd (let h : key y < key x = paired (λ x y. key x < key y) xs j i y x pairs more f e in omega arith)
  ]

  -- ---- lists that go on from others

  pub not_longer : (xs : List X) (y : X) (ys : List X) → xs ≡ xs ++ y ∷ ys → ⊥
  not_longer xs y ys e = absurd (omega (arith, ap length e, length-append xs (y ∷ ys)))

  not_empty : (xs : List X) (y : X) (ys : List X) → [] ≡ xs ++ y ∷ ys → ⊥
  not_empty xs y ys e = absurd (omega (arith, ap length e, length-append xs (y ∷ ys)))

  heads : (x y : X) (xs ys : List X) → x ∷ xs ≡ y ∷ ys → x ≡ y
  heads x y xs ys e = same_Some x y (ap (λ l. slice_get l 0) e)

  tail : List X → List X
  tail [] = []
  tail (x ∷ xs) = xs

  tails : (x y : X) (xs ys : List X) → x ∷ xs ≡ y ∷ ys → xs ≡ ys
  unfolding tail
  tails x y xs ys e = ap tail e

  -- Of two fronts of a list neither is the whole: they are the same, and so is what stands behind them; or one goes on from the other,
  -- with the element that stands behind that.
  pub data AreFronts (xs : List X) (x : X) (ys : List X) (y : X) : Type 0 where
    same : xs ≡ ys → x ≡ y → AreFronts xs x ys y
    longer : (rest : List X) → xs ≡ ys ++ y ∷ rest → AreFronts xs x ys y
    shorter : (rest : List X) → ys ≡ xs ++ x ∷ rest → AreFronts xs x ys y

  pub are_fronts : (xs : List X) (x : X) (more : List X) (ys : List X) (y : X) (others : List X) → xs ++ x ∷ more ≡ ys ++ y ∷ others → AreFronts xs x ys y
  are_fronts [] x more [] y others e = same refl (heads x y more others e)
  are_fronts [] x more (w ∷ ys) y others e = shorter ys (ap (λ v. v ∷ ys) (sym (heads x w more (ys ++ y ∷ others) e)))
  are_fronts (w ∷ xs) x more [] y others e = longer xs (ap (λ v. v ∷ xs) (heads w y (xs ++ x ∷ more) others e))
  are_fronts (v ∷ xs) x more (w ∷ ys) y others e =
      let h = heads v w (xs ++ x ∷ more) (ys ++ y ∷ others) e in
      elim (are_fronts xs x more ys y others (tails v w (xs ++ x ∷ more) (ys ++ y ∷ others) e)) [
        | same one other ↦ same (λ i. h i ∷ one i) other
        | longer rest one ↦ longer rest (λ i. h i ∷ one i)
        | shorter rest one ↦ shorter rest (λ i. sym h i ∷ one i)
      ]

-- an element of a list that was made of another
module _ {X Y : Type 0} (f : X → Y) where
  pub record IsMade (xs : List X) (k : ℕ) (y : Y) : Type 0 where
    pub from : X
    pub stands : slice_get xs k ≡ Some from
    pub is : f from ≡ y

  made_of : (xs : List X) (k : ℕ) (y : Y) (o : Option X) → slice_get xs k ≡ o → option_map f o ≡ Some y → IsMade xs k y
  made_of xs k y None e g = absurd (none-some y g)
  made_of xs k y (Some x) e g = record { from = x; stands = e; is = same_Some (f x) y g }

  pub made : (xs : List X) (k : ℕ) (y : Y) → slice_get (map f xs) k ≡ Some y → IsMade xs k y
  made xs k y e = made_of xs k y (slice_get xs k) refl (sym (slice_get-map f xs k) ∙ e)

  pub mapped : (xs : List X) (k : ℕ) (x : X) → slice_get xs k ≡ Some x → slice_get (map f xs) k ≡ Some (f x)
  mapped xs k x e = slice_get-map f xs k ∙ ap (option_map f) e

-- ---- numbers in lists

pub none_there : (v : ℕ) → Contains [] v → ⊥
none_there v h = absurd (omega (arith, h.1))

pub the_one : (u v : ℕ) → Contains (u ∷ []) v → u ≡ v
the_one u v h = let e : h.0 ≡ 0 = omega (arith, h.1) in subst (λ (k : ℕ). get_or (u ∷ []) k v ≡ v) e h.2

pub is_the_one : (v : ℕ) → Contains (v ∷ []) v
is_the_one v = (0, omega arith, refl)

pub in_front : (x : ℕ) (xs : List ℕ) → Contains (x ∷ xs) x
in_front x xs = Contains-append_left (x ∷ []) xs x (is_the_one x)

pub in_rest : (x : ℕ) (xs : List ℕ) (y : ℕ) → Contains xs y → Contains (x ∷ xs) y
in_rest x xs y h = Contains-append_right (x ∷ []) xs y h

pub front_or_rest : (x : ℕ) (xs : List ℕ) (y : ℕ) → Contains (x ∷ xs) y → (y ≡ x) ⊎ Contains xs y
front_or_rest x xs y h = elim (Contains-append_cases (x ∷ []) xs y h) [ inl l ↦ inl (sym (the_one x y l)) | inr l ↦ inr l ]

pub there_or_not : (xs : List ℕ) (y : ℕ) → Contains xs y ⊎ (Contains xs y → ⊥)
there_or_not [] y = inr (none_there y)
there_or_not (x ∷ xs) y = elim (cases_eq y x) [
  | inl e ↦ inl (subst (λ (z : ℕ). Contains (x ∷ xs) z) (sym e) (in_front x xs))
  | inr apart ↦ elim (there_or_not xs y) [
    | inl h ↦ inl (in_rest x xs y h)
    | inr none ↦ inr (λ h. elim (front_or_rest x xs y h) [ inl e ↦ apart e | inr l ↦ none l ])
  ]
]

-- the list with one of its elements taken out: the others are still there
record TakenOut (xs : List ℕ) (x : ℕ) : Type 0 where
  rest : List ℕ
  shorter_by : length xs ≡ suc (length rest)
  others : (y : ℕ) → Contains xs y → (y ≡ x) ⊎ Contains rest y

take_out : (xs : List ℕ) (x : ℕ) → Contains xs x → TakenOut xs x
take_out [] x h = absurd (none_there x h)
take_out (z ∷ xs) x h = elim (front_or_rest z xs x h) [
  | inl e ↦ record {
    rest = xs;
    shorter_by = omega arith;
    others = λ y k. elim (front_or_rest z xs y k) [ inl f ↦ inl (f ∙ sym e) | inr l ↦ inr l ];
  }
  | inr l ↦
      let out = take_out xs x l in
      record {
        rest = z ∷ out.rest;
        shorter_by = let s : length xs ≡ suc (length out.rest) = out.shorter_by in omega arith;
        others = λ y k. elim (front_or_rest z xs y k) [
          | inl f ↦ inr (subst (λ (w : ℕ). Contains (z ∷ out.rest) w) (sym f) (in_front z out.rest))
          | inr m ↦ elim (out.others y m) [ inl f ↦ inl f | inr n ↦ inr (in_rest z out.rest y n) ]
        ];
      }
]

-- no number stands twice in a list
data AreDistinct : List ℕ → Type 0 where
  empty : AreDistinct []
  more : (x : ℕ) (xs : List ℕ) → (Contains xs x → ⊥) → AreDistinct xs → AreDistinct (x ∷ xs)

-- numbers of which each stands once are no more than those of a list that has them all
fits : (xs ys : List ℕ) → AreDistinct xs → ((x : ℕ) → Contains xs x → Contains ys x) → length xs ≤ length ys
fits xs ys empty each = omega arith
fits _ ys (more x xs none once) each =
    let out = take_out ys x (each x (in_front x xs)) in
    let fewer : length xs ≤ length out.rest = fits xs out.rest once (λ y h. elim (out.others y (each y (in_rest x xs y h))) [
      | inl e ↦ absurd (none (subst (λ (z : ℕ). Contains xs z) e h))
      | inr l ↦ l
    ]) in
    let s : length ys ≡ suc (length out.rest) = out.shorter_by in
    omega arith

pairs_tail : (x : ℕ) (xs : List ℕ) → AllPairs (λ a b. a < b) (x ∷ xs) → AllPairs (λ a b. a < b) xs
pairs_tail x xs pairs i j d less within = pairs (suc i) (suc j) d (omega (arith, less)) (omega (arith, within))

not_again : (x : ℕ) (xs : List ℕ) → AllPairs (λ a b. a < b) (x ∷ xs) → Contains xs x → ⊥
not_again x xs pairs c = let h : x < get_or xs c.0 x = pairs 0 (suc c.0) x (omega arith) (omega (arith, c.1)) in absurd (omega (arith, h, c.2))

distinct : (xs : List ℕ) → AllPairs (λ a b. a < b) xs → AreDistinct xs
distinct [] pairs = empty
distinct (x ∷ xs) pairs = more x xs (not_again x xs pairs) (distinct xs (pairs_tail x xs pairs))

-- an ascending list that has all of another, and is no longer, has nothing more
pub no_more : (xs ys : List ℕ) → AllPairs (λ a b. a < b) xs → ((x : ℕ) → Contains xs x → Contains ys x) → length ys ≤ length xs → (y : ℕ) → Contains ys y → Contains xs y
no_more xs ys pairs each few y c = elim (there_or_not xs y) [
  | inl h ↦ h
  | inr none ↦
      let longer : length (y ∷ xs) ≤ length ys = fits (y ∷ xs) ys (more y xs none (distinct xs pairs)) (λ x h. elim (front_or_rest y xs x h) [
        | inl e ↦ subst (λ (z : ℕ). Contains ys z) (sym e) c
        | inr l ↦ each x l
      ]) in
      absurd (omega (arith, longer, few))
]
