-- How a node's vectors grow in a round, and that they may change less often from then on.
use Rattle.std.proofs.Common.{◌≡◌, ◌==◌, ◌⊎◌, ◌↔◌, ℕ, zero, suc, ◌+◌, ◌-◌, ◌*◌, ◌<◌, ◌≤◌, Bool, true, false, not, cond, if◌then◌else◌, List, [], ◌∷◌, ◌++◌, length, take, max, get_or, Option, Some, None, refl, sym, ap, subst, ◌∙◌, inl, inr, arith, true≢false}
use Rattle.std.specs.BTreeSet.{BTreeSet, Updates, contains, insert_key}
use Rattle.std.specs.List.{AllByRecursion, Contains, sum_by}
use Rattle.std.specs.List.Sorted.{IsStrictlySortedBy}
use Rattle.std.specs.Ordering.{is_eq, nat_cmp, ordering_reverse}
use Rattle.std.specs.declared.cmp.Ordering.{Ordering}
use Rattle.std.specs.declared.cmp.Ordering.TheVariants.{Less, Equal, Greater}
use Rattle.std.specs.Cmp.Lexicographic.{slice_cmp}
use Rattle.std.proofs.lemmas.Bool.{cases_lt}
use Rattle.std.proofs.lemmas.Bool.Decides.{nat_tests}
use Rattle.std.proofs.lemmas.Cmp.{nat_list_cmp_total, tied_itself}
use Rattle.std.proofs.lemmas.List.{get_or_past, length_push, take_more}
use Rattle.std.proofs.lemmas.List.Elements.{All-from_get_or, Contains-append_left, Contains-get_or, Contains-push, Contains-push_cases}
use Rattle.std.proofs.lemmas.List.Sums.{sum_by-cons, sum_by-le}
use Rattle.std.proofs.lemmas.Map.Lookups.{exact_bytes}
use Rattle.std.proofs.lemmas.Map.Views.{btree_set_contains_iff}
use Rattle.wx_base.specs.Recurrence.{slot}
use Rattle.wx_base.specs.Vector.{AreWithin, Covers, slot_count}
use Rattle.state_families.specs.declared.node_set.NodeSet.{NodeSet}
use Rattle.state_families.specs.Families.{IsGreatest}
use Rattle.state_families.specs.Families.NextSet.{grows, joins, stays}
use Rattle.state_families.specs.Fresh.{IsBounded, IsCoveredBy, IsSet, below}
use Rattle.state_families.specs.Growth.{AreHigher, IsAdded, IsGrowth, IsMerged, Joins}
use Rattle.state_families.proofs.SettlingLemmas.{covers_self, covers_twice, next_same, only_one, own_covered, the_one}

-- ---- the greatest slots
pub higher_of : (a b slots : List ℕ) → length a ≡ slot_count → length b ≡ slot_count → length slots ≡ slot_count
    → ((k : ℕ) → k < slot_count → slot slots k ≡ max (slot a k) (slot b k)) → AreHigher a b slots
higher_of a b slots p q r each = record { long = r; each = by }
  where
    by : (k : ℕ) → slot slots k ≡ max (slot a k) (slot b k)
    by k = elim (cases_lt k slot_count) [
      | inl l ↦ each k l
      | inr g ↦
          let x : slot a k ≡ 0 = get_or_past a k 0 (omega (arith, p, g)) in
          let y : slot b k ≡ 0 = get_or_past b k 0 (omega (arith, q, g)) in
          let z : slot slots k ≡ 0 = get_or_past slots k 0 (omega (arith, r, g)) in
          omega (arith, x, y, z)
    ]

module _ (first : List ℕ) (others : List (List ℕ)) where
  -- the first vector, and the others before a place
  abbrev pub Among : ℕ → List ℕ → Type 0
  Among i slots = (slots ≡ first) ⊎ Contains (take i others) slots

  pub greatest_first : length first ≡ slot_count → (i : ℕ) → i ≡ 0 → IsGreatest (Among i) first
  greatest_first long i none = record {
    long = long;
    covers = λ v e. elim e [
      | inl same ↦ subst (λ (w : List ℕ). Covers first w) (sym same) (covers_self first)
      | inr c ↦ absurd (nobody v (subst (λ (n : ℕ). Contains (take n others) v) none c))
    ];
    reached = λ k l. (first, inl refl, refl);
  }
    where
      nobody : (v : List ℕ) → Contains (take 0 others) v → ⊥
      nobody v c = omega (arith, c.1)

  pub greatest_more : (i : ℕ) (other slots higher : List ℕ) → take (i + 1) others ≡ take i others ++ other ∷ [] → AreHigher slots other higher
      → IsGreatest (Among i) slots → IsGreatest (Among (i + 1)) higher
  greatest_more i other slots higher grown h g = record { long = h.long; covers = covers; reached = reached }
    where
      more : (v : List ℕ) → Among i v → Among (i + 1) v
      more v e = elim e [
        | inl same ↦ inl same
        | inr c ↦ inr (subst (λ (xs : List (List ℕ)). Contains xs v) (sym grown) (Contains-append_left (take i others) (other ∷ []) v c))
      ]

      here : Contains (take (i + 1) others) other
      here = subst (λ (xs : List (List ℕ)). Contains xs other) (sym grown) (Contains-push (take i others) other)

      over : Covers higher slots
      over = record { each = λ k. omega (arith, h.each k) }

      over_other : Covers higher other
      over_other = record { each = λ k. omega (arith, h.each k) }

      covers : (v : List ℕ) → Among (i + 1) v → Covers higher v
      covers v e = elim e [
        | inl same ↦ covers_twice higher slots v over (g.covers v (inl same))
        | inr c ↦ elim (Contains-push_cases (take i others) other v (subst (λ (xs : List (List ℕ)). Contains xs v) grown c)) [
          | inl d ↦ covers_twice higher slots v over (g.covers v (inr d))
          | inr same ↦ subst (λ (w : List ℕ). Covers higher w) same over_other
        ]
      ]

      reached : (k : ℕ) → k < slot_count → (w : List ℕ) × Among (i + 1) w × (slot higher k ≡ slot w k)
      reached k l = elim (cases_lt (slot slots k) (slot other k)) [
        | inl less ↦ (other, inr here, omega (arith, h.each k, less))
        | inr most ↦
            let w = g.reached k l in
            (w.0, more w.0 w.1, omega (arith, h.each k, most, w.2))
      ]

-- the greatest slots of bounded vectors are bounded
pub greatest_bounded : (bound : ℕ) (In : List ℕ → Type 0) (slots : List ℕ) → ((v : List ℕ) → In v → IsBounded bound v) → IsGreatest In slots → IsBounded bound slots
greatest_bounded bound In slots all g = record { long = g.long; within = record { each = by } }
  where
    by : (k : ℕ) → slot slots k ≤ bound
    by k = elim (cases_lt k slot_count) [
      | inl l ↦ let w = g.reached k l in let b = (all w.0 w.1).within.each k in omega (arith, w.2, b)
      | inr p ↦ let z : slot slots k ≡ 0 = get_or_past slots k 0 (omega (arith, g.long, p)) in omega (arith, z)
    ]

pub greatest_alike : (In Other : List ℕ → Type 0) (slots : List ℕ) → ((v : List ℕ) → In v → Other v) → ((v : List ℕ) → Other v → In v)
    → IsGreatest In slots → IsGreatest Other slots
greatest_alike In Other slots to back g = record {
  long = g.long;
  covers = λ v o. g.covers v (back v o);
  reached = λ k l. let w = g.reached k l in (w.0, to w.0 w.1, w.2);
}

-- ---- how far slots lie below the bound
below_cons : (bound x : ℕ) (xs : List ℕ) → below bound (x ∷ xs) ≡ (bound - x) + below bound xs
below_cons bound x xs = sum_by-cons (λ time. bound - time) x xs

covers_head : (x y : ℕ) (xs ys : List ℕ) → Covers (x ∷ xs) (y ∷ ys) → y ≤ x
covers_head x y xs ys c = c.each 0

covers_tail : (x y : ℕ) (xs ys : List ℕ) → Covers (x ∷ xs) (y ∷ ys) → Covers xs ys
covers_tail x y xs ys c = record { each = λ k. c.each (suc k) }

below_le : (bound : ℕ) (a b : List ℕ) → length a ≡ length b → Covers a b → below bound a ≤ below bound b
below_le bound [] [] e c = omega arith
below_le bound [] (y ∷ ys) e c = absurd (omega (arith, e))
below_le bound (x ∷ xs) [] e c = absurd (omega (arith, e))
below_le bound (x ∷ xs) (y ∷ ys) e c =
    let rest : below bound xs ≤ below bound ys = below_le bound xs ys (omega (arith, e)) (covers_tail x y xs ys c) in
    omega (arith, below_cons bound x xs, below_cons bound y ys, covers_head x y xs ys c, rest)

pub below_less : (bound : ℕ) (a b : List ℕ) → length a ≡ length b → AreWithin bound a → Covers a b → (a ≡ b → ⊥) → below bound a < below bound b
below_less bound [] [] e w c differ = absurd (differ refl)
below_less bound [] (y ∷ ys) e w c differ = absurd (omega (arith, e))
below_less bound (x ∷ xs) [] e w c differ = absurd (omega (arith, e))
below_less bound (x ∷ xs) (y ∷ ys) e w c differ = elim (cases_lt y x) [
  | inl less ↦
      let rest : below bound xs ≤ below bound ys = below_le bound xs ys (omega (arith, e)) (covers_tail x y xs ys c) in
      let most : x ≤ bound = w.each 0 in
      omega (arith, below_cons bound x xs, below_cons bound y ys, less, most, rest)
  | inr most ↦
      let same : x ≡ y = omega (arith, covers_head x y xs ys c, most) in
      let rest : below bound xs < below bound ys =
      below_less bound xs ys (omega (arith, e)) (record { each = λ k. w.each (suc k) }) (covers_tail x y xs ys c)
      (λ alike. differ (ap (λ (n : ℕ). n ∷ xs) same ∙ ap (λ (l : List ℕ). y ∷ l) alike)) in
      omega (arith, below_cons bound x xs, below_cons bound y ys, same, rest)
]

below_most : (bound : ℕ) (slots : List ℕ) → length slots ≡ slot_count → below bound slots ≤ slot_count * bound
below_most bound slots long =
    subst (λ (n : ℕ). below bound slots ≤ n * bound) long
    (sum_by-le (λ time. bound - time) bound slots (All-from_get_or (λ time. bound - time ≤ bound) slots 0 (λ i l. omega arith)))

below_one : (bound : ℕ) (slots : List ℕ) → sum_by (λ v. below bound v) (slots ∷ []) ≡ below bound slots
below_one bound slots = let e = sum_by-cons (λ v. below bound v) slots [] in omega (arith, e)

-- ---- what becomes of a node
module _ (states bound : ℕ) where
  -- one that is joined and under whose vector all lies that arrives
  pub stays_under : (vectors kept arrivals : List (List ℕ)) (one : List ℕ) → vectors ≡ one ∷ []
      → IsSet states bound (record { vectors = vectors; kept = Some kept })
      → ((v : List ℕ) → Contains arrivals v → Covers one v)
      → IsGrowth states bound (Contains arrivals) (record { vectors = vectors; kept = Some kept }) (record { vectors = vectors; kept = Some kept }) []
  stays_under vectors kept arrivals one is s under = record {
    grown = record {
      next = next_same states bound (λ v. Contains vectors v ⊎ Contains arrivals v) (record { vectors = vectors; kept = Some kept }) s (λ v c. inl c) less;
      sound = s;
      listed = λ v c. absurd (omega (arith, c.1));
      all = λ v c. inl c;
    };
    same = λ none. refl;
    fewer = λ some. absurd (omega (arith, some));
  }
    where
      less : (v : List ℕ) → Contains vectors v ⊎ Contains arrivals v → IsCoveredBy vectors (Some kept) v
      less v e = elim e [
        | inl c ↦ own_covered states vectors (Some kept) v s.fit c
        | inr c ↦ (one, is, under v c)
      ]

  -- one that is joined and whose vector is raised
  pub raises : (kept arrivals : List (List ℕ)) (one raised : List ℕ) → IsBounded bound one → ((v : List ℕ) → Contains arrivals v → IsBounded bound v)
      → IsGreatest (λ v. (v ≡ one) ⊎ Contains arrivals v) raised → (raised ≡ one → ⊥)
      → IsGrowth states bound (Contains arrivals) (record { vectors = one ∷ []; kept = Some kept }) (record { vectors = raised ∷ []; kept = Some kept }) (raised ∷ [])
  raises kept arrivals one raised b all g differ = record {
    grown = record {
      next = stays (one ∷ []) kept raised (greatest_alike (λ v. (v ≡ one) ⊎ Contains arrivals v) (λ v. Contains (one ∷ []) v ⊎ Contains arrivals v) raised to back g);
      sound = record { fit = (raised, refl); bounded = λ v c. subst (IsBounded bound) (only_one raised v c) whole };
      listed = λ v c. c;
      all = λ v c. inr c;
    };
    same = λ none. absurd (cc);
    fewer = λ some. omega (arith, below_one bound raised, below_one bound one, less);
  }
    where
      to : (v : List ℕ) → (v ≡ one) ⊎ Contains arrivals v → Contains (one ∷ []) v ⊎ Contains arrivals v
      to v e = elim e [
        | inl same ↦ inl (subst (λ (w : List ℕ). Contains (one ∷ []) w) (sym same) (the_one one))
        | inr c ↦ inr c
      ]

      back : (v : List ℕ) → Contains (one ∷ []) v ⊎ Contains arrivals v → (v ≡ one) ⊎ Contains arrivals v
      back v e = elim e [ inl c ↦ inl (sym (only_one one v c)) | inr c ↦ inr c ]

      whole : IsBounded bound raised
      whole = greatest_bounded bound (λ v. (v ≡ one) ⊎ Contains arrivals v) raised bounded g
        where
          bounded : (v : List ℕ) → (v ≡ one) ⊎ Contains arrivals v → IsBounded bound v
          bounded v e = elim e [ inl same ↦ subst (IsBounded bound) (sym same) b | inr c ↦ all v c ]

      less : below bound raised < below bound one
      less = below_less bound raised one (g.long ∙ sym b.long) whole.within (g.covers one (inl refl)) differ

  module _ (vectors arrivals union fresh : List (List ℕ)) (m : IsMerged vectors arrivals union fresh) (s : IsSet states bound (record { vectors = vectors; kept = None })) where
    -- one to which nothing new comes
    pub stays_open : fresh ≡ [] → IsGrowth states bound (Contains arrivals) (record { vectors = vectors; kept = None }) (record { vectors = vectors; kept = None }) []
    stays_open none = record {
      grown = record {
        next = next_same states bound (λ v. Contains vectors v ⊎ Contains arrivals v) (record { vectors = vectors; kept = None }) s (λ v c. inl c) less;
        sound = s;
        listed = λ v c. absurd (omega (arith, c.1));
        all = λ v c. inl c;
      };
      same = λ e. refl;
      fewer = λ some. absurd (omega (arith, some));
    }
      where
        less : (v : List ℕ) → Contains vectors v ⊎ Contains arrivals v → Contains vectors v
        less v e = elim (m.all v ((m.exact v).1 e)) [
          | inl c ↦ c
          | inr f ↦ let c = subst (λ (xs : List (List ℕ)). Contains xs v) none f in absurd (omega (arith, c.1))
        ]

    module _ (some : 0 < length fresh) (all : (v : List ℕ) → Contains arrivals v → IsBounded bound v) where
      bounded : (v : List ℕ) → Contains vectors v ⊎ Contains arrivals v → IsBounded bound v
      bounded v e = elim e [ inl c ↦ s.bounded v c | inr c ↦ all v c ]

      nothing_new : fresh ≡ [] → ⊥
      nothing_new none = omega (arith, some, ap (λ (xs : List (List ℕ)). length xs) none)

      -- one that stays open
      pub grows_open : length union ≤ states
          → IsGrowth states bound (Contains arrivals) (record { vectors = vectors; kept = None }) (record { vectors = union; kept = None }) fresh
      grows_open few = record {
        grown = record {
          next = grows vectors union (record { ascending = m.ascending; exact = m.exact }) few;
          sound = record { fit = record { ascending = m.ascending; few = few }; bounded = λ v c. bounded v ((m.exact v).0 c) };
          listed = m.listed;
          all = m.all;
        };
        same = λ none. absurd (nothing_new none);
        fewer = λ more. omega (arith, m.count, some, few);
      }

      -- one that is joined
      pub joins_now : (first one : List ℕ) → Contains union first → states < length union → IsGreatest (λ v. (v ≡ first) ⊎ Contains union v) one
          → IsGrowth states bound (Contains arrivals) (record { vectors = vectors; kept = None })
          (record { vectors = one ∷ []; kept = Some (take (states + 1) union) }) (one ∷ [])
      joins_now first one there many g = record {
        grown = record {
          next = joins vectors union one (record { ascending = m.ascending; exact = m.exact }) many great;
          sound = record { fit = (one, refl); bounded = λ v c. subst (IsBounded bound) (only_one one v c) whole };
          listed = λ v c. c;
          all = λ v c. inr c;
        };
        same = λ none. absurd (cc);
        fewer = λ more. omega (arith, below_one bound one, below_most bound one g.long);
      }
        where
          great : IsGreatest (λ v. Contains vectors v ⊎ Contains arrivals v) one
          great = greatest_alike (λ v. (v ≡ first) ⊎ Contains union v) (λ v. Contains vectors v ⊎ Contains arrivals v) one
              (λ v e. elim e [
                | inl same ↦ (m.exact v).0 (subst (λ (w : List ℕ). Contains union w) (sym same) there)
                | inr c ↦ (m.exact v).0 c
              ])
              (λ v e. inr ((m.exact v).1 e)) g

          whole : IsBounded bound one
          whole = greatest_bounded bound (λ v. Contains vectors v ⊎ Contains arrivals v) one bounded great

-- ---- sets of vectors that grow
insert_last : (keys : List (List ℕ)) (key : List ℕ) → AllByRecursion (λ k. slice_cmp nat_cmp key k ≡ Greater) keys
    → insert_key (slice_cmp nat_cmp) keys key ≡ keys ++ key ∷ []
insert_last [] key above = refl
insert_last (k ∷ keys) key above = rw above.0 (ap (λ (ks : List (List ℕ)). k ∷ ks) (insert_last keys key above.1))

-- what stands at a place of ascending vectors is above those before it
at_place : {X : Type 0} (P : X → Type 0) (xs : List X) (i : ℕ) (d : X) → i < length xs → AllByRecursion P xs → P (get_or xs i d)
at_place P [] i d l all = absurd (omega (arith, l))
at_place P (x ∷ xs) zero d l all = all.0
at_place P (x ∷ xs) (suc i) d l all = at_place P xs i d (omega (arith, l)) all.1

turned : (x y : List ℕ) → slice_cmp nat_cmp x y ≡ Less → slice_cmp nat_cmp y x ≡ Greater
turned x y less = nat_list_cmp_total.antisymm y x ∙ ap ordering_reverse less

above_before : (vectors : List (List ℕ)) (i : ℕ) (d : List ℕ) → i < length vectors → IsStrictlySortedBy (slice_cmp nat_cmp) vectors
    → AllByRecursion (λ k. slice_cmp nat_cmp (get_or vectors i d) k ≡ Greater) (take i vectors)
unfolding IsStrictlySortedBy
above_before [] i d l ascending = absurd (omega (arith, l))
above_before (x ∷ xs) zero d l ascending = tt
above_before (x ∷ xs) (suc i) d l ascending =
    let h : i < length xs = omega (arith, l) in
    (turned x (get_or xs i d) (at_place (λ y. slice_cmp nat_cmp x y ≡ Less) xs i d h ascending.0), above_before xs i d h ascending.1)

pub add_next : (vectors keys after : List (List ℕ)) (i : ℕ) (d : List ℕ) → i < length vectors → IsStrictlySortedBy (slice_cmp nat_cmp) vectors → keys ≡ take i vectors
    → after ≡ insert_key (slice_cmp nat_cmp) keys (get_or vectors i d) → after ≡ take (i + 1) vectors
add_next vectors keys after i d l ascending so_far is =
    is ∙ ap (λ (ks : List (List ℕ)). insert_key (slice_cmp nat_cmp) ks (get_or vectors i d)) so_far
    ∙ insert_last (take i vectors) (get_or vectors i d) (above_before vectors i d l ascending) ∙ sym (take_more vectors i d l)

-- what a set has behind an insertion
tied : (o : Ordering) → is_eq o ≡ true → o ≡ Equal
tied Less e = absurd (true≢false (sym e))
tied Equal e = refl
tied Greater e = absurd (true≢false (sym e))

inserted : (old new : BTreeSet (List ℕ)) (key : List ℕ) → Updates (slice_cmp nat_cmp) old new key true
    → (other : List ℕ) → Contains new.keys other ↔ (Contains old.keys other ⊎ (other ≡ key))
inserted old new key updates other = (
  λ c. there (is_eq (slice_cmp nat_cmp key other)) refl ((btree_set_contains_iff nat_list_cmp_total exact_bytes new other).1 c),
  λ e. (btree_set_contains_iff nat_list_cmp_total exact_bytes new other).0 (elim e [
    | inl c ↦ kept (is_eq (slice_cmp nat_cmp key other)) refl ((btree_set_contains_iff nat_list_cmp_total exact_bytes old other).1 c)
    | inr same ↦
        updates.0 other ∙ ap (λ (b : Bool). cond b true (contains (slice_cmp nat_cmp) old other))
        (ap is_eq (subst (λ (k : List ℕ). slice_cmp nat_cmp key k ≡ Equal) (sym same) (tied_itself nat_list_cmp_total key)))
  ]),
)
  where
    there : (b : Bool) → is_eq (slice_cmp nat_cmp key other) ≡ b → contains (slice_cmp nat_cmp) new other ≡ true → Contains old.keys other ⊎ (other ≡ key)
    there true e c = inr (sym (exact_bytes key other (tied (slice_cmp nat_cmp key other) e)))
    there false e c = inl ((btree_set_contains_iff nat_list_cmp_total exact_bytes old other).0
        (sym (updates.0 other ∙ ap (λ (b : Bool). cond b true (contains (slice_cmp nat_cmp) old other)) e) ∙ c))

    kept : (b : Bool) → is_eq (slice_cmp nat_cmp key other) ≡ b → contains (slice_cmp nat_cmp) old other ≡ true → contains (slice_cmp nat_cmp) new other ≡ true
    kept true e c = updates.0 other ∙ ap (λ (b : Bool). cond b true (contains (slice_cmp nat_cmp) old other)) e
    kept false e c = updates.0 other ∙ ap (λ (b : Bool). cond b true (contains (slice_cmp nat_cmp) old other)) e ∙ c

-- a vector that is added: it is new or was there
module _ (old arrivals union more fresh : List (List ℕ)) (i : ℕ) (slots : List ℕ) (grown : take (i + 1) arrivals ≡ take i arrivals ++ slots ∷ [])
    (has : (other : List ℕ) → Contains more other ↔ (Contains union other ⊎ (other ≡ slots))) (so_far : IsAdded old (take i arrivals) union fresh) where
  exact_more : (other : List ℕ) → Contains more other ↔ (Contains old other ⊎ Contains (take (i + 1) arrivals) other)
  exact_more other = (told, back)
    where
      told : Contains more other → Contains old other ⊎ Contains (take (i + 1) arrivals) other
      told c = elim ((has other).0 c) [
        | inl u ↦ elim ((so_far.exact other).0 u) [
          | inl o ↦ inl o
          | inr a ↦ inr (subst (λ (xs : List (List ℕ)). Contains xs other) (sym grown) (Contains-append_left (take i arrivals) (slots ∷ []) other a))
        ]
        | inr same ↦ inr (subst (λ (xs : List (List ℕ)). Contains xs other) (sym grown)
            (subst (λ (w : List ℕ). Contains (take i arrivals ++ slots ∷ []) w) (sym same) (Contains-push (take i arrivals) slots)))
      ]

      back : Contains old other ⊎ Contains (take (i + 1) arrivals) other → Contains more other
      back e = (has other).1 (elim e [
        | inl o ↦ inl ((so_far.exact other).1 (inl o))
        | inr a ↦ elim (Contains-push_cases (take i arrivals) slots other (subst (λ (xs : List (List ℕ)). Contains xs other) grown a)) [
          | inl b ↦ inl ((so_far.exact other).1 (inr b))
          | inr same ↦ inr (sym same)
        ]
      ])

  added_new : length more ≡ length union + 1 → IsAdded old (take (i + 1) arrivals) more (fresh ++ slots ∷ [])
  added_new one_more = record {
    exact = exact_more;
    listed = λ other c. (has other).1 (elim (Contains-push_cases fresh slots other c) [
      | inl f ↦ inl (so_far.listed other f)
      | inr same ↦ inr (sym same)
    ]);
    all = λ other c. elim ((has other).0 c) [
      | inl u ↦ elim (so_far.all other u) [
        | inl o ↦ inl o
        | inr f ↦ inr (Contains-append_left fresh (slots ∷ []) other f)
      ]
      | inr same ↦ inr (subst (λ (w : List ℕ). Contains (fresh ++ slots ∷ []) w) (sym same) (Contains-push fresh slots))
    ];
    count = omega (arith, so_far.count, one_more, length_push fresh slots);
  }

  added_known : Contains union slots → length more ≡ length union → IsAdded old (take (i + 1) arrivals) more fresh
  added_known there as_many = record {
    exact = exact_more;
    listed = λ other f. (has other).1 (inl (so_far.listed other f));
    all = λ other c. elim ((has other).0 c) [
      | inl u ↦ so_far.all other u
      | inr same ↦ so_far.all other (subst (λ (w : List ℕ). Contains union w) (sym same) there)
    ];
    count = omega (arith, so_far.count, as_many);
  }

-- one vector more, by what the insertion answers
module _ (old arrivals : List (List ℕ)) (set more : BTreeSet (List ℕ)) (fresh : List (List ℕ)) (i : ℕ) (d : List ℕ) (within : i < length arrivals)
    (updates : Updates (slice_cmp nat_cmp) set more (get_or arrivals i d) true) (so_far : IsAdded old (take i arrivals) set.keys fresh) (added : Bool)
    (is_new : added ≡ not (contains (slice_cmp nat_cmp) set (get_or arrivals i d))) (count : length more.keys ≡ length set.keys + (if added then 1 else 0)) where
  pub added_then : (after : List (List ℕ)) → added ≡ true → after ≡ fresh ++ get_or arrivals i d ∷ [] → IsAdded old (take (i + 1) arrivals) more.keys after
  added_then after was_added is =
      let one_more : length more.keys ≡ length set.keys + 1 = count ∙ ap (λ (b : Bool). length set.keys + (if b then 1 else 0)) was_added in
      subst (IsAdded old (take (i + 1) arrivals) more.keys) (sym is)
      (added_new old arrivals set.keys more.keys fresh i (get_or arrivals i d) (take_more arrivals i d within) (inserted set more (get_or arrivals i d) updates) so_far one_more)

  pub added_else : (after : List (List ℕ)) → added ≡ false → after ≡ fresh → IsAdded old (take (i + 1) arrivals) more.keys after
  added_else after was_known is =
      let as_many : length more.keys ≡ length set.keys = count ∙ (ap (λ (b : Bool). length set.keys + (if b then 1 else 0)) was_known ∙ omega arith) in
      let there : contains (slice_cmp nat_cmp) set (get_or arrivals i d) ≡ true = not_false (contains (slice_cmp nat_cmp) set (get_or arrivals i d)) (sym is_new ∙ was_known) in
      subst (IsAdded old (take (i + 1) arrivals) more.keys) (sym is)
      (added_known old arrivals set.keys more.keys fresh i (get_or arrivals i d) (take_more arrivals i d within) (inserted set more (get_or arrivals i d) updates) so_far
      ((btree_set_contains_iff nat_list_cmp_total exact_bytes set (get_or arrivals i d)).0 there) as_many)
    where
      not_false : (b : Bool) → not b ≡ false → b ≡ true
      not_false true e = refl
      not_false false e = absurd (true≢false e)

-- nothing is added before the first
pub added_first : (old arrivals fresh : List (List ℕ)) → fresh ≡ [] → IsAdded old (take 0 arrivals) old fresh
added_first old arrivals fresh none = record {
  exact = λ v. (λ c. inl c, λ e. elim e [ inl c ↦ c | inr c ↦ absurd (omega (arith, c.1)) ]);
  listed = λ v c. let d = subst (λ (xs : List (List ℕ)). Contains xs v) none c in absurd (omega (arith, d.1));
  all = λ v c. inl c;
  count = let e : length fresh ≡ 0 = ap (λ (xs : List (List ℕ)). length xs) none in omega (arith, e);
}

-- the set of a node's vectors, with what was added to it
pub merged_from : (vectors arrivals keys more union fresh : List (List ℕ)) → keys ≡ vectors → IsAdded keys arrivals more fresh → union ≡ more
    → IsStrictlySortedBy (slice_cmp nat_cmp) more → IsMerged vectors arrivals union fresh
merged_from vectors arrivals keys more union fresh same a is ascending =
    subst (λ (xs : List (List ℕ)). IsMerged xs arrivals union fresh) same
    (subst (λ (xs : List (List ℕ)). IsMerged keys arrivals xs fresh) (sym is)
    (record { ascending = ascending; exact = a.exact; listed = a.listed; all = a.all; count = a.count }))

-- ---- what the functions make of a set
module _ (states bound : ℕ) (set : NodeSet) (arrivals : List (List ℕ)) (s : IsSet states bound set) where
  -- nothing arrives
  pub nothing_comes : (fresh : List (List ℕ)) → arrivals ≡ [] → fresh ≡ [] → IsGrowth states bound (Contains arrivals) set set fresh
  nothing_comes fresh none is = subst (IsGrowth states bound (Contains arrivals) set set) (sym is) (record {
    grown = record {
      next = next_same states bound (λ v. Contains set.vectors v ⊎ Contains arrivals v) set s (λ v c. inl c) less;
      sound = s;
      listed = λ v c. absurd (omega (arith, c.1));
      all = λ v c. inl c;
    };
    same = λ e. refl;
    fewer = λ some. absurd (omega (arith, some));
  })
    where
      less : (v : List ℕ) → Contains set.vectors v ⊎ Contains arrivals v → IsCoveredBy set.vectors set.kept v
      less v e = elim e [
        | inl c ↦ own_covered states set.vectors set.kept v s.fit c
        | inr c ↦ let d = subst (λ (xs : List (List ℕ)). Contains xs v) none c in absurd (omega (arith, d.1))
      ]

-- a joined node
module _ (states bound : ℕ) (arrivals : List (List ℕ)) (one raised d : List ℕ) (g : IsGreatest (λ v. (v ≡ one) ⊎ Contains arrivals v) raised) where
  pub raise_same : (vectors : List (List ℕ)) (kept : Option (List (List ℕ))) (fresh : List (List ℕ)) → IsSet states bound (record { vectors = vectors; kept = kept })
      → (kept ≡ None → ⊥) → one ≡ get_or vectors 0 d → raised ≡ one → fresh ≡ []
      → IsGrowth states bound (Contains arrivals) (record { vectors = vectors; kept = kept }) (record { vectors = vectors; kept = kept }) fresh
  raise_same vectors None fresh s joined first same is = absurd (joined refl)
  raise_same vectors (Some kept) fresh s joined first same is =
      let only : s.fit.0 ≡ one = sym (first ∙ ap (λ (xs : List (List ℕ)). get_or xs 0 d) s.fit.1) in
      subst (IsGrowth states bound (Contains arrivals) (record { vectors = vectors; kept = Some kept }) (record { vectors = vectors; kept = Some kept })) (sym is)
      (stays_under states bound vectors kept arrivals one (s.fit.1 ∙ ap (λ (x : List ℕ). x ∷ []) only) s
      (λ v c. subst (λ (w : List ℕ). Covers w v) same (g.covers v (inr c))))

  pub raise_it : (vectors : List (List ℕ)) (kept : Option (List (List ℕ))) (new fresh : List (List ℕ)) → IsSet states bound (record { vectors = vectors; kept = kept })
      → ((v : List ℕ) → Contains arrivals v → IsBounded bound v) → (kept ≡ None → ⊥) → one ≡ get_or vectors 0 d → (raised ≡ one → ⊥) → new ≡ raised ∷ [] → fresh ≡ raised ∷ []
      → IsGrowth states bound (Contains arrivals) (record { vectors = vectors; kept = kept }) (record { vectors = new; kept = kept }) fresh
  raise_it vectors None new fresh s all joined first differ new_is fresh_is = absurd (joined refl)
  raise_it vectors (Some kept) new fresh s all joined first differ new_is fresh_is =
      let only : s.fit.0 ≡ one = sym (first ∙ ap (λ (xs : List (List ℕ)). get_or xs 0 d) s.fit.1) in
      let before : vectors ≡ one ∷ [] = s.fit.1 ∙ ap (λ (x : List ℕ). x ∷ []) only in
      let whole : IsBounded bound one = s.bounded one (subst (λ (xs : List (List ℕ)). Contains xs one) (sym before) (the_one one)) in
      let made = raises states bound kept arrivals one raised whole all g differ in
      subst (λ (xs : List (List ℕ)). IsGrowth states bound (Contains arrivals) (record { vectors = xs; kept = Some kept }) (record { vectors = new; kept = Some kept }) fresh) (sym before)
      (subst (λ (xs : List (List ℕ)). IsGrowth states bound (Contains arrivals) (record { vectors = one ∷ []; kept = Some kept }) (record { vectors = xs; kept = Some kept }) fresh) (sym new_is)
      (subst (IsGrowth states bound (Contains arrivals) (record { vectors = one ∷ []; kept = Some kept }) (record { vectors = raised ∷ []; kept = Some kept })) (sym fresh_is) made))

-- a node that is not joined
module _ (states bound : ℕ) (arrivals vectors union fresh : List (List ℕ)) (m : IsMerged vectors arrivals union fresh) where
  pub unite_same : (kept : Option (List (List ℕ))) (none : List (List ℕ)) → IsSet states bound (record { vectors = vectors; kept = kept }) → kept ≡ None → fresh ≡ [] → none ≡ []
      → IsGrowth states bound (Contains arrivals) (record { vectors = vectors; kept = kept }) (record { vectors = vectors; kept = kept }) none
  unite_same None none s is nothing none_is =
      subst (IsGrowth states bound (Contains arrivals) (record { vectors = vectors; kept = None }) (record { vectors = vectors; kept = None })) (sym none_is)
      (stays_open states bound vectors arrivals union fresh m s nothing)
  unite_same (Some kept) none s is nothing none_is = absurd (cc)

  pub unite_open : (kept : Option (List (List ℕ))) (new list : List (List ℕ)) → IsSet states bound (record { vectors = vectors; kept = kept }) → kept ≡ None → 0 < length fresh
      → ((v : List ℕ) → Contains arrivals v → IsBounded bound v) → length union ≤ states → new ≡ union → list ≡ fresh
      → IsGrowth states bound (Contains arrivals) (record { vectors = vectors; kept = kept }) (record { vectors = new; kept = kept }) list
  unite_open None new list s is some all few new_is list_is =
      subst (λ (xs : List (List ℕ)). IsGrowth states bound (Contains arrivals) (record { vectors = vectors; kept = None }) (record { vectors = xs; kept = None }) list) (sym new_is)
      (subst (IsGrowth states bound (Contains arrivals) (record { vectors = vectors; kept = None }) (record { vectors = union; kept = None })) (sym list_is)
      (grows_open states bound vectors arrivals union fresh m s some all few))
  unite_open (Some kept) new list s is some all few new_is list_is = absurd (cc)

  pub unite_join : (kept : Option (List (List ℕ))) (new : NodeSet) (list : List (List ℕ)) → IsSet states bound (record { vectors = vectors; kept = kept }) → kept ≡ None → 0 < length fresh
      → ((v : List ℕ) → Contains arrivals v → IsBounded bound v) → states < length union → Joins states union new list
      → IsGrowth states bound (Contains arrivals) (record { vectors = vectors; kept = kept }) new list
  unite_join None new list s is some all many j =
      subst (λ (x : NodeSet). IsGrowth states bound (Contains arrivals) (record { vectors = vectors; kept = None }) x list) (sym j.is)
      (subst (IsGrowth states bound (Contains arrivals) (record { vectors = vectors; kept = None })
      (record { vectors = j.one ∷ []; kept = Some (take (states + 1) union) })) (sym j.fresh_is)
      (joins_now states bound vectors arrivals union fresh m s some all j.first j.one j.listed many j.great))
  unite_join (Some kept) new list s is some all many j = absurd (cc)

-- a test whether a list has no element
pub some_of : (n : ℕ) (xs : List (List ℕ)) → n ≡ length xs → (n == 0) ≡ false → 0 < length xs
some_of n [] is e = absurd (true≢false (sym (ap (λ (k : ℕ). k == 0) is) ∙ e))
some_of n (x ∷ xs) is e = omega arith

pub none_of : (n : ℕ) (xs : List (List ℕ)) → n ≡ length xs → (n == 0) ≡ true → xs ≡ []
none_of n [] is e = refl
none_of n (x ∷ xs) is e = absurd (grind (arith, nat_tests))

pub joins_here : (states : ℕ) (vectors all : List (List ℕ)) (d one : List ℕ) (new kept fresh : List (List ℕ)) → states < length vectors → all ≡ vectors
    → IsGreatest (λ v. (v ≡ get_or all 0 d) ⊎ Contains all v) one → new ≡ one ∷ [] → kept ≡ take (states + 1) vectors → fresh ≡ one ∷ []
    → Joins states vectors (record { vectors = new; kept = Some kept }) fresh
joins_here states vectors all d one new kept fresh many same great new_is kept_is fresh_is = record {
  first = get_or vectors 0 d;
  one = one;
  listed = Contains-get_or vectors 0 d (omega (arith, many));
  great = subst (λ (xs : List (List ℕ)). IsGreatest (λ v. (v ≡ get_or xs 0 d) ⊎ Contains xs v) one) same great;
  is = (λ i. record { vectors = new_is i; kept = Some (kept_is i) });
  fresh_is = fresh_is;
}
