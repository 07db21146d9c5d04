-- An element is put into a list that ascends, or it is there.
use Rattle.std.proofs.Common.{◌≡◌, ◌⊎◌, inl, inr, ⊎_elim, ℕ, zero, suc, ◌<◌, List, [], ◌∷◌, length, get_or, refl, sym, ap, subst, arith}
use Rattle.std.specs.List.{All, AllPairs, Contains}
use Rattle.std.proofs.lemmas.List.Elements.{All-cons, All-nil, Contains-get_or}
use Rattle.std.proofs.lemmas.List.Kept.{AllPairs-cons}

at_first : {X : Type 0} (y : X) (ys : List X) (x : X) (k : ℕ) → k < length (y ∷ ys) → get_or (y ∷ ys) k x ≡ x → (y ≡ x) ⊎ Contains ys x
at_first y ys x zero h e = inl e
at_first y ys x (suc k) h e = inr (k, omega arith, e)

-- an element of a list is its first or a later one
pub first_or_later : {X : Type 0} (y : X) (ys : List X) (x : X) → Contains (y ∷ ys) x → (y ≡ x) ⊎ Contains ys x
first_or_later y ys x c = at_first y ys x c.0 c.1 c.2

later : {X : Type 0} (y : X) (ys : List X) (x : X) → Contains ys x → Contains (y ∷ ys) x
later y ys x c = (suc c.0, omega (arith, c.1), c.2)

-- what holds of whatever is in a list holds of each of its elements
pub all_of : {X : Type 0} (Q : X → Type 0) (xs : List X) → ((x : X) → Contains xs x → Q x) → All Q xs
all_of Q xs each k d within = each (get_or xs k d) (Contains-get_or xs k d within)

module _ {X : Type 0} (before : X → X → Type 0) (through : (x y z : X) → before x y → before y z → before x z) where
  first_before : (y : X) (ys : List X) (x : X) → AllPairs before (y ∷ ys) → Contains ys x → before y x
  first_before y ys x up c = subst (λ (z : X). before y z) c.2 (up 0 (suc c.0) x (omega arith) (omega (arith, c.1)))

  tail_up : (y : X) (ys : List X) → AllPairs before (y ∷ ys) → AllPairs before ys
  tail_up y ys up i j d less h = up (suc i) (suc j) d (omega arith) (omega arith)

  -- a list that ascends, with one element more
  pub record Inserted (x : X) (xs : List X) : Type 0 where
    pub list : List X
    pub ascending : AllPairs before list
    pub longer : length list ≡ suc (length xs)
    pub among : (y : X) → Contains list y → (y ≡ x) ⊎ Contains xs y

  at_front : (x y : X) (ys : List X) → before x y → AllPairs before (y ∷ ys) → Inserted x (y ∷ ys)
  at_front x y ys less up = record {
    list = x ∷ y ∷ ys;
    ascending = AllPairs-cons before x (y ∷ ys) (All-cons (before x) y ys less (all_of (before x) ys (λ z c. through x y z less (first_before y ys z up c)))) up;
    longer = refl;
    among = λ z c. ⊎_elim (λ e. inl (sym e)) (λ k. inr k) (first_or_later x (y ∷ ys) z c);
  }

  behind : (x y : X) (ys : List X) → before y x → AllPairs before (y ∷ ys) → Inserted x ys → Inserted x (y ∷ ys)
  behind x y ys less up rest = record {
    list = y ∷ rest.list;
    ascending = AllPairs-cons before y rest.list
        (all_of (before y) rest.list (λ z c. ⊎_elim (λ e. subst (λ (k : X). before y k) (sym e) less) (λ k. first_before y ys z up k) (rest.among z c))) rest.ascending;
    longer = ap suc rest.longer;
    among = λ z c. ⊎_elim (λ e. inr (0, omega arith, e)) (λ k. ⊎_elim (λ e. inl e) (λ l. inr (later y ys z l)) (rest.among z k)) (first_or_later y rest.list z c);
  }

  -- it is put there, or it is there
  pub inserted : (x : X) (xs : List X) → AllPairs before xs → ((y : X) → Contains xs y → before x y ⊎ ((x ≡ y) ⊎ before y x)) → Contains xs x ⊎ Inserted x xs
  inserted x [] up told = inr (record {
    list = x ∷ [];
    ascending = AllPairs-cons before x [] (All-nil (before x)) up;
    longer = refl;
    among = λ z c. ⊎_elim (λ e. inl (sym e)) (λ k. inr k) (first_or_later x [] z c);
  })
  inserted x (y ∷ ys) up told = by (told y (0, omega arith, refl)) (inserted x ys (tail_up y ys up) (λ z c. told z (later y ys z c)))
    where
      by : before x y ⊎ ((x ≡ y) ⊎ before y x) → Contains ys x ⊎ Inserted x ys → Contains (y ∷ ys) x ⊎ Inserted x (y ∷ ys)
      by (inl less) rest = inr (at_front x y ys less up)
      by (inr (inl same)) rest = inl (0, omega arith, sym same)
      by (inr (inr more)) (inl there) = inl (later y ys x there)
      by (inr (inr more)) (inr rest) = inr (behind x y ys more up rest)
