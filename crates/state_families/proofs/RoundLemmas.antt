-- A round goes node by node.
use Rattle.std.proofs.Common.{◌≡◌, ◌⊎◌, ◌↔◌, ℕ, zero, suc, ◌+◌, ◌<◌, ◌≤◌, List, [], ◌∷◌, ◌++◌, length, get_or, set, slice_get, Some, refl, sym, ap, subst, ◌∙◌, inl, inr, arith}
use Rattle.std.specs.List.{Contains, sum_by}
use Rattle.std.proofs.lemmas.List.{get_or-set_same, length-set, length_push}
use Rattle.std.proofs.lemmas.List.Sums.{sum_by-set}
use Rattle.std.proofs.lemmas.Option.{get_or_from_slice_get, same_Some, slice_get-get_or, slice_get_within}
use Rattle.state_families.specs.declared.node_set.NodeSet.{NodeSet}
use Rattle.state_families.specs.Families.{Arrives, IsListedAt}
use Rattle.state_families.specs.Fresh.{AreGrown, AreGrownTo, IsGrown, left}
use Rattle.state_families.specs.Growth.{IsGrowth}
use Rattle.state_families.proofs.SettlingLemmas.{next_more}

-- an element of a list in which one was replaced, or to which one was added
pub set_cases : {X : Type 0} (xs : List X) (to n : ℕ) (y z : X) → to < length xs → slice_get (set xs to y) n ≡ Some z → ((n ≡ to) × (y ≡ z)) ⊎ (slice_get xs n ≡ Some z)
set_cases [] to n y z h e = absurd (omega (arith, h))
set_cases (x ∷ xs) zero zero y z h e = inl (refl, same_Some y z e)
set_cases (x ∷ xs) zero (suc n) y z h e = inr e
set_cases (x ∷ xs) (suc to) zero y z h e = inr e
set_cases (x ∷ xs) (suc to) (suc n) y z h e = elim (set_cases xs to n y z (omega (arith, h)) e) [
  | inl p ↦ inl (ap suc p.0, p.1)
  | inr q ↦ inr q
]

pub set_elsewhere : {X : Type 0} (xs : List X) (to n : ℕ) (y : X) → to < n → slice_get (set xs to y) n ≡ slice_get xs n
set_elsewhere [] to n y l = refl
set_elsewhere (x ∷ xs) zero zero y l = absurd (omega (arith, l))
set_elsewhere (x ∷ xs) zero (suc n) y l = refl
set_elsewhere (x ∷ xs) (suc to) zero y l = refl
set_elsewhere (x ∷ xs) (suc to) (suc n) y l = set_elsewhere xs to n y (omega (arith, l))

pub push_cases : {X : Type 0} (xs : List X) (n : ℕ) (y z : X) → slice_get (xs ++ y ∷ []) n ≡ Some z → ((n ≡ length xs) × (y ≡ z)) ⊎ ((n < length xs) × (slice_get xs n ≡ Some z))
push_cases [] zero y z e = inl (refl, same_Some y z e)
push_cases [] (suc n) y z e = absurd (cc)
push_cases (x ∷ xs) zero y z e = inr (omega arith, e)
push_cases (x ∷ xs) (suc n) y z e = elim (push_cases xs n y z e) [
  | inl p ↦ inl (ap suc p.0, p.1)
  | inr q ↦ inr (omega (arith, q.0), q.1)
]

pub some_there : (list : List (List ℕ)) → (list ≡ [] → ⊥) → 0 < length list
some_there [] some = absurd (some refl)
some_there (x ∷ list) some = omega arith

-- what arrives may be told in another way
pub grown_alike : (states bound : ℕ) (Arrive Other : List ℕ → Type 0) (before after : NodeSet) (list : List (List ℕ)) → ((v : List ℕ) → Arrive v → Other v) → ((v : List ℕ) → Other v → Arrive v)
    → IsGrown states bound Arrive before after list → IsGrown states bound Other before after list
grown_alike states bound Arrive Other before after list to back g = record {
  next = next_more states (λ v. Contains before.vectors v ⊎ Arrive v) (λ v. Contains before.vectors v ⊎ Other v) before after (λ v c. inl c)
      (λ v e. elim e [ inl c ↦ inl c | inr a ↦ inr (to v a) ]) (λ v e. inl (elim e [ inl c ↦ inl c | inr o ↦ inr (back v o) ])) g.next;
  sound = g.sound;
  listed = g.listed;
  all = g.all;
}

pub growth_alike : (states bound : ℕ) (Arrive Other : List ℕ → Type 0) (before after : NodeSet) (list : List (List ℕ)) → ((v : List ℕ) → Arrive v ↔ Other v)
    → IsGrowth states bound Arrive before after list → IsGrowth states bound Other before after list
growth_alike states bound Arrive Other before after list alike g = record {
  grown = grown_alike states bound Arrive Other before after list (λ v a. (alike v).0 a) (λ v o. (alike v).1 o) g.grown;
  same = g.same;
  fewer = g.fewer;
}

module _ (Exits : ℕ → ℕ → List ℕ → List ℕ → Type 0) (states bound : ℕ) (sets : List NodeSet) (fresh : List (List (List ℕ))) where
  pub grown_none : (new : List (List (List ℕ))) → new ≡ [] → AreGrownTo Exits states bound 0 sets fresh sets new
  grown_none new none = record {
    long = refl;
    new_long = ap (λ (ls : List (List (List ℕ))). length ls) none;
    each = λ node before after list at over here. absurd (nobody node list here);
    rest = λ node l. refl;
    no_more = omega arith;
    fewer = λ node list here some. absurd (nobody node list here);
  }
    where
      nobody : (node : ℕ) (list : List (List ℕ)) → slice_get new node ≡ Some list → ⊥
      nobody node list here = let l = slice_get_within new node list here in omega (arith, l, ap (λ (ls : List (List (List ℕ))). length ls) none)

  module _ (node : ℕ) (now after : List NodeSet) (new more : List (List (List ℕ))) (before set_after : NodeSet) (list : List (List ℕ)) (Arrive : List ℕ → Type 0)
      (so_far : AreGrownTo Exits states bound node sets fresh now new) (at : slice_get now node ≡ Some before) (after_is : after ≡ set now node set_after) (more_is : more ≡ new ++ list ∷ [])
      (to : (v : List ℕ) → Arrive v → Arrives Exits (IsListedAt fresh) node v) (back : (v : List ℕ) → Arrives Exits (IsListedAt fresh) node v → Arrive v)
      (growth : IsGrowth states bound Arrive before set_after list) where
    within : node < length now
    within = slice_get_within now node before at

    total : sum_by (left states bound) after + left states bound before ≡ sum_by (left states bound) now + left states bound set_after
    total =
        let e = sum_by-set (left states bound) now node set_after before within in
        let there : get_or now node before ≡ before = get_or_from_slice_get now node before before at in
        let a : sum_by (left states bound) after ≡ sum_by (left states bound) (set now node set_after) = ap (λ (xs : List NodeSet). sum_by (left states bound) xs) after_is in
        let b : left states bound (get_or now node before) ≡ left states bound before = ap (left states bound) there in
        omega (arith, e, a, b)

    left_less : (l : List (List ℕ)) → list ≡ l → (left states bound set_after ≤ left states bound before)
    left_less [] is = let e : left states bound set_after ≡ left states bound before = ap (left states bound) (growth.same is) in omega (arith, e)
    left_less (x ∷ xs) is = let e = growth.fewer (omega (arith, ap (λ (ls : List (List ℕ)). length ls) is)) in omega (arith, e)

    at_first : slice_get sets node ≡ Some before
    at_first = sym (so_far.rest node (omega arith)) ∙ at

    pub grown_more : AreGrownTo Exits states bound (node + 1) sets fresh after more
    grown_more = record {
      long = ap (λ (xs : List NodeSet). length xs) after_is ∙ length-set now node set_after ∙ so_far.long;
      new_long = ap (λ (ls : List (List (List ℕ))). length ls) more_is ∙ length_push new list ∙ ap (λ (n : ℕ). n + 1) so_far.new_long;
      each = each;
      rest = λ n l. ap (λ (xs : List NodeSet). slice_get xs n) after_is ∙ set_elsewhere now node n set_after (omega (arith, l)) ∙ so_far.rest n (omega (arith, l));
      no_more = omega (arith, total, left_less list refl, so_far.no_more);
      fewer = fewer;
    }
      where
        each : (n : ℕ) (x y : NodeSet) (l : List (List ℕ)) → slice_get sets n ≡ Some x → slice_get after n ≡ Some y → slice_get more n ≡ Some l
            → IsGrown states bound (Arrives Exits (IsListedAt fresh) n) x y l
        each n x y l first then there = elim (push_cases new n list l (subst (λ (ls : List (List (List ℕ))). slice_get ls n ≡ Some l) more_is there)) [
          | inr q ↦
              let earlier : n < node = omega (arith, q.0, so_far.new_long) in
              so_far.each n x y l first (old_there n y earlier then) q.1
          | inl p ↦
              let here : n ≡ node = p.0 ∙ so_far.new_long in
              let first_is : before ≡ x = same_Some before x (sym at_first ∙ ap (λ (k : ℕ). slice_get sets k) (sym here) ∙ first) in
              let then_is : set_after ≡ y = same_Some set_after y (sym (new_here n here) ∙ then) in
              let g = grown_alike states bound Arrive (Arrives Exits (IsListedAt fresh) node) before set_after list to back growth.grown in
              subst (λ (k : ℕ). IsGrown states bound (Arrives Exits (IsListedAt fresh) k) x y l) (sym here)
              (subst (λ (z : NodeSet). IsGrown states bound (Arrives Exits (IsListedAt fresh) node) z y l) first_is
              (subst (λ (z : NodeSet). IsGrown states bound (Arrives Exits (IsListedAt fresh) node) before z l) then_is
              (subst (λ (z : List (List ℕ)). IsGrown states bound (Arrives Exits (IsListedAt fresh) node) before set_after z) p.1 g)))
        ]
          where
            new_here : (n : ℕ) → n ≡ node → slice_get after n ≡ Some set_after
            new_here n here =
                let l : node < length (set now node set_after) = omega (arith, within, length-set now node set_after) in
                ap (λ (k : ℕ). slice_get after k) here ∙ ap (λ (xs : List NodeSet). slice_get xs node) after_is
                ∙ slice_get-get_or (set now node set_after) node before l ∙ ap Some (get_or-set_same now node set_after before within)

            old_there : (n : ℕ) (y : NodeSet) → n < node → slice_get after n ≡ Some y → slice_get now n ≡ Some y
            old_there n y earlier then = elim (set_cases now node n set_after y within (subst (λ (xs : List NodeSet). slice_get xs n ≡ Some y) after_is then)) [
              | inl p ↦ absurd (omega (arith, earlier, p.0))
              | inr q ↦ q
            ]

        fewer : (n : ℕ) (l : List (List ℕ)) → slice_get more n ≡ Some l → 0 < length l → sum_by (left states bound) after < sum_by (left states bound) sets
        fewer n l there some = elim (push_cases new n list l (subst (λ (ls : List (List (List ℕ))). slice_get ls n ≡ Some l) more_is there)) [
          | inr q ↦ let e = so_far.fewer n l q.1 some in omega (arith, e, total, left_less list refl)
          | inl p ↦
              let e = growth.fewer (subst (λ (xs : List (List ℕ)). 0 < length xs) (sym p.1) some) in
              omega (arith, e, total, so_far.no_more)
        ]

  pub grown_all : (now : List NodeSet) (new : List (List (List ℕ))) (count : ℕ) → count ≡ length sets → AreGrownTo Exits states bound count sets fresh now new
      → AreGrown Exits states bound sets fresh now new
  grown_all now new count all g = record { long = g.long; new_long = g.new_long ∙ all; each = g.each }
