-- How outlines are gathered, and the least of numbers that some of them have.
use Rattle.std.proofs.Common.{◌≡◌, ℕ, ◌+◌, ◌<◌, ◌≤◌, ◌⊎◌, Bool, true, false, List, [], ◌∷◌, ◌++◌, length, get_or, take, Option, Some, None, refl, sym, ap, subst, ◌∙◌, inl, inr, arith}
use Rattle.std.proofs.lemmas.Bool.{cases_eq, cases_lt, false≢true}
use Rattle.std.proofs.lemmas.Grind.{common_steps}
use Rattle.std.proofs.lemmas.List.{take_more}
use Rattle.std.proofs.lemmas.List.Elements.{All-nil, All-push}
use Rattle.std.proofs.lemmas.List.Quantifiers.{Any-push, all_pairs_push}
use Rattle.std.specs.List.{All, AllPairs, Any}
use Rattle.std.specs.Prelude.{IsTrue}
use Rattle.std.specs.Option.{is_some}
use Rattle.wx_base.specs.declared.facts.Facts.{Facts}
use Rattle.wx_base.specs.declared.facts.LoopFact.{LoopFact}
use Rattle.wx_base.specs.Functions.{fact_of}
use Rattle.graph_loops.specs.declared.loops.Loop.{Loop}
use Rattle.flow_graph.specs.declared.outline.Outline.{Outline}
use Rattle.flow_graph.specs.Listing.{IsLeast}
use Rattle.flow_graph.specs.Outlines.{IsOutline, AreOutlines, IsUnboundedNumber}

-- ---- some element

any_push_cases : {X : Type 0} (P : X → Type 0) (xs : List X) (y : X) → Any P (xs ++ y ∷ []) → Any P xs ⊎ P y
any_push_cases P xs y a =
    let k = a.0 in
    let x = a.1 in
    let within : k < length (xs ++ y ∷ []) = a.2 in
    elim (cases_lt k (length xs)) [
      | inl low ↦ let e : get_or (xs ++ y ∷ []) k x ≡ get_or xs k x = grind (arith, common_steps) in inl (k, x, low, sym e ∙ a.3, a.4)
      | inr high ↦ let e : get_or (xs ++ y ∷ []) k x ≡ y = grind (arith, common_steps) in inr (subst P (sym a.3 ∙ e) a.4)
    ]

any_left : {X : Type 0} (P : X → Type 0) (xs : List X) (y : X) → Any P xs → Any P (xs ++ y ∷ [])
any_left P xs y a =
    let k = a.0 in
    let x = a.1 in
    let within : k < length xs = a.2 in
    let e : get_or (xs ++ y ∷ []) k x ≡ get_or xs k x = grind (arith, common_steps) in
    (k, x, grind (arith, common_steps), e ∙ a.3, a.4)

-- ---- the least number of a kind

record Under (a : Option ℕ) (v : ℕ) : Type 0 where
  least : ℕ
  is : a ≡ Some least
  below : least ≤ v

under : (P : ℕ → Type 0) (a : Option ℕ) (v : ℕ) → IsLeast P a → P v → Under a v
under P None v p h = absurd (p v h)
under P (Some a) v p h = record { least = a; is = refl; below = p.1 v h }

least_holds : (P : ℕ → Type 0) (a : Option ℕ) (v : ℕ) → IsLeast P a → a ≡ Some v → P v
least_holds P a v p e = (subst (λ o. IsLeast P o) e p).0

-- the lesser of the least numbers of two kinds is the least of both
least_of_both : (P Q R : ℕ → Type 0) (a b r : Option ℕ) → IsLeast P a → IsLeast Q b → IsLeast (λ v. (a ≡ Some v) ⊎ (b ≡ Some v)) r
    → ((v : ℕ) → R v → P v ⊎ Q v) → ((v : ℕ) → P v → R v) → ((v : ℕ) → Q v → R v) → IsLeast R r
least_of_both P Q R a b None p q l split left right = λ v holds. elim (split v holds) [
  | inl h ↦ let u = under P a v p h in l u.least (inl u.is)
  | inr h ↦ let u = under Q b v q h in l u.least (inr u.is)
]
least_of_both P Q R a b (Some r) p q l split left right = (
  elim l.0 [ inl e ↦ left r (least_holds P a r p e) | inr e ↦ right r (least_holds Q b r q e) ],
  λ v holds. elim (split v holds) [
    | inl h ↦ let u = under P a v p h in omega (arith, u.below, l.1 u.least (inl u.is))
    | inr h ↦ let u = under Q b v q h in omega (arith, u.below, l.1 u.least (inr u.is))
  ],
)

-- the one number that there may be
pub least_itself : (b : Option ℕ) → IsLeast (λ v. b ≡ Some v) b
least_itself None = λ v e. absurd (none_some v e)
  where
    none_some : (v : ℕ) → None ≡ Some v → ⊥
    none_some v e = cc
least_itself (Some b) = (refl, λ v e. let same : b ≡ v = some_one b v e in omega arith)
  where
    some_one : (m n : ℕ) → Some m ≡ Some n → m ≡ n
    some_one m n e = cc

-- the least of a kind is that of the same kind
pub least_same : (P Q : ℕ → Type 0) (a : Option ℕ) → ((v : ℕ) → P v → Q v) → ((v : ℕ) → Q v → P v) → IsLeast P a → IsLeast Q a
least_same P Q None to back p = λ v h. p v (back v h)
least_same P Q (Some a) to back p = (to a p.0, λ v h. p.1 v (back v h))

-- The least number of which something holds in some of the elements that were passed: with one more, with one more of which
-- it holds for no number, and of all.
module _ {X : Type 0} (P : X → ℕ → Type 0) (xs : List X) where
  grown : (i : ℕ) (x : X) → i < length xs → x ≡ get_or xs i x → take (i + 1) xs ≡ take i xs ++ x ∷ []
  grown i x within is = take_more xs i x within ∙ ap (λ (y : X). take i xs ++ y ∷ []) (sym is)

  pub least_more : (i : ℕ) (x : X) (a b r : Option ℕ) → i < length xs → x ≡ get_or xs i x
      → IsLeast (λ v. Any (λ x. P x v) (take i xs)) a → IsLeast (P x) b → IsLeast (λ v. (a ≡ Some v) ⊎ (b ≡ Some v)) r
      → IsLeast (λ v. Any (λ x. P x v) (take (i + 1) xs)) r
  least_more i x a b r within is p q l =
      least_of_both (λ v. Any (λ x. P x v) (take i xs)) (P x) (λ v. Any (λ x. P x v) (take (i + 1) xs)) a b r p q l
      (λ v h. any_push_cases (λ x. P x v) (take i xs) x (subst (Any (λ x. P x v)) (grown i x within is) h))
      (λ v h. subst (Any (λ x. P x v)) (sym (grown i x within is)) (any_left (λ x. P x v) (take i xs) x h))
      (λ v h. subst (Any (λ x. P x v)) (sym (grown i x within is)) (Any-push (λ x. P x v) (take i xs) x h))

  pub least_passed : (i : ℕ) (x : X) (a : Option ℕ) → i < length xs → x ≡ get_or xs i x → ((v : ℕ) → P x v → ⊥)
      → IsLeast (λ v. Any (λ x. P x v) (take i xs)) a → IsLeast (λ v. Any (λ x. P x v) (take (i + 1) xs)) a
  least_passed i x a within is never p =
      least_same (λ v. Any (λ x. P x v) (take i xs)) (λ v. Any (λ x. P x v) (take (i + 1) xs)) a
      (λ v h. subst (Any (λ x. P x v)) (sym (grown i x within is)) (any_left (λ x. P x v) (take i xs) x h))
      (λ v h. elim (any_push_cases (λ x. P x v) (take i xs) x (subst (Any (λ x. P x v)) (grown i x within is) h)) [ inl b ↦ b | inr e ↦ absurd (never v e) ])
      p

  pub least_all : (i : ℕ) (a : Option ℕ) → length xs ≤ i → IsLeast (λ v. Any (λ x. P x v) (take i xs)) a → IsLeast (λ v. Any (λ x. P x v) xs) a
  least_all i a end p =
      let all : take i xs ≡ xs = grind (arith, common_steps) in
      subst (λ (ys : List X). IsLeast (λ v. Any (λ x. P x v) ys) a) all p

-- ---- heads without a bound

none_of : (o : Option LoopFact) → is_some o ≡ false → o ≡ None
none_of None e = refl
none_of (Some f) e = absurd (false≢true (sym e))

not_none : (o : Option LoopFact) → is_some o ≡ true → o ≡ None → ⊥
not_none o e none = false≢true (sym (ap is_some none) ∙ e)

module _ (facts : Facts) (addresses : List ℕ) where
  -- a number is the head of a loop, and no fact bounds it
  abbrev pub IsUnboundedHead : Loop → ℕ → Type 0
  IsUnboundedHead l v = (l.head ≡ v) × (fact_of facts (get_or addresses v 0) ≡ None)

  -- a number is the head of one of some loops, and no fact bounds it
  abbrev pub HasUnboundedHead : Outline → ℕ → Type 0
  HasUnboundedHead o v = Any (λ l. l.head ≡ v) o.structure.loops × (fact_of facts (get_or addresses v 0) ≡ None)

  pub head_unbounded : (l : Loop) (fact : Option LoopFact) → fact ≡ fact_of facts (get_or addresses l.head 0) → is_some fact ≡ false → IsLeast (IsUnboundedHead l) (Some l.head)
  head_unbounded l fact e none = ((refl, sym e ∙ none_of fact none), λ v h. omega (arith, h.0))

  pub head_bounded : (l : Loop) (fact : Option LoopFact) → fact ≡ fact_of facts (get_or addresses l.head 0) → is_some fact ≡ true → (v : ℕ) → IsUnboundedHead l v → ⊥
  head_bounded l fact e some v h = not_none fact some (e ∙ ap (λ (x : ℕ). fact_of facts (get_or addresses x 0)) h.0 ∙ h.1)

  -- what is said of some loop with the head, and what is said of the head alone
  pub least_head : (loops : List Loop) (a : Option ℕ) → IsLeast (λ v. Any (λ l. IsUnboundedHead l v) loops) a
      → IsLeast (λ v. Any (λ l. l.head ≡ v) loops × (fact_of facts (get_or addresses v 0) ≡ None)) a
  least_head loops a p =
      least_same (λ v. Any (λ l. IsUnboundedHead l v) loops) (λ v. Any (λ l. l.head ≡ v) loops × (fact_of facts (get_or addresses v 0) ≡ None)) a
      (λ v h. ((h.0, h.1, h.2, h.3, h.4.0), h.4.1)) (λ v h. let k = h.0 in (k.0, k.1, k.2, k.3, (k.4, h.1))) p

  pub least_unbounded_number : (outlines : List Outline) (a : Option ℕ) → IsLeast (λ v. Any (λ o. HasUnboundedHead o v) outlines) a
      → IsLeast (IsUnboundedNumber facts addresses outlines) a
  least_unbounded_number outlines a p =
      least_same (λ v. Any (λ o. HasUnboundedHead o v) outlines) (IsUnboundedNumber facts addresses outlines) a
      (λ v h. record { head = (h.0, h.1, h.2, h.3, h.4.0); unbounded = h.4.1 }) (λ v h. let k = h.head in (k.0, k.1, k.2, k.3, (k.4, h.unbounded))) p

-- ---- outlines

-- the outlines of the functions whose entries are marked below a number
pub record OutlinesSoFar (ways : List (List ℕ)) (entries : List Bool) (i : ℕ) (list : List Outline) : Type 0 where
  pub below : All (λ o. o.entry < i) list
  pub ascending : AllPairs (λ o p. o.entry < p.entry) list
  pub each : All (λ o. IsOutline ways o) list
  pub marked : All (λ o. IsTrue (get_or entries o.entry false)) list
  pub whole : (v : ℕ) → v < i → IsTrue (get_or entries v false) → Any (λ o. o.entry ≡ v) list

pub no_outlines : (ways : List (List ℕ)) (entries : List Bool) → OutlinesSoFar ways entries 0 []
no_outlines ways entries = record {
  below = All-nil (λ (o : Outline). o.entry < 0);
  ascending = λ i j d less within. absurd (omega arith);
  each = All-nil (λ o. IsOutline ways o);
  marked = All-nil (λ (o : Outline). IsTrue (get_or entries o.entry false));
  whole = λ v less. absurd (omega arith);
}

module _ (ways : List (List ℕ)) (entries : List Bool) (i : ℕ) (list : List Outline) (so_far : OutlinesSoFar ways entries i list) where
  pub outline_passed : get_or entries i false ≡ false → OutlinesSoFar ways entries (i + 1) list
  outline_passed e = record {
    below = λ k d within. omega (arith, so_far.below k d within);
    ascending = so_far.ascending;
    each = so_far.each;
    marked = so_far.marked;
    whole = λ v less mark. elim (cases_eq v i) [
      | inl is ↦ absurd (false≢true (sym e ∙ ap (λ (x : ℕ). get_or entries x false) (sym is) ∙ mark))
      | inr differs ↦ so_far.whole v (omega arith) mark
    ];
  }

  pub outline_added : (o : Outline) → o.entry ≡ i → IsOutline ways o → get_or entries i false ≡ true → OutlinesSoFar ways entries (i + 1) (list ++ o ∷ [])
  outline_added o is outline mark = record {
    below = All-push (λ p. p.entry < i + 1) list o (λ k d within. omega (arith, so_far.below k d within)) (omega (arith, is));
    ascending = all_pairs_push (λ p q. p.entry < q.entry) list o so_far.ascending (λ k d within. omega (arith, is, so_far.below k d within));
    each = All-push (λ p. IsOutline ways p) list o so_far.each outline;
    marked = All-push (λ p. IsTrue (get_or entries p.entry false)) list o so_far.marked (ap (λ (x : ℕ). get_or entries x false) is ∙ mark);
    whole = λ v less m. elim (cases_eq v i) [
      | inl e ↦ Any-push (λ p. p.entry ≡ v) list o (is ∙ sym e)
      | inr differs ↦ any_left (λ p. p.entry ≡ v) list o (so_far.whole v (omega arith) m)
    ];
  }

  pub all_outlines : length entries ≤ i → AreOutlines ways entries list
  all_outlines end = record {
    ascending = so_far.ascending;
    each = so_far.each;
    marked = so_far.marked;
    whole = λ v mark. elim (cases_lt v (length entries)) [
      | inl low ↦ so_far.whole v (omega arith) mark
      | inr high ↦ absurd (false≢true (sym (past entries v high) ∙ mark))
    ];
  }
    where
      past : (marks : List Bool) (v : ℕ) → length marks ≤ v → get_or marks v false ≡ false
      past marks v high = grind (arith, common_steps)
