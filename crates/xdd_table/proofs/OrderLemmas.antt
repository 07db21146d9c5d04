-- A walk's list of finished places: which places it has.
use Rattle.std.proofs.Common.{◌≡◌, ℕ, zero, suc, ◌<◌, Bool, true, false, List, [], ◌∷◌, ◌++◌, length, slice_get, Some, refl, sym, ap, ◌∙◌, inl, inr, ◌⊎◌, arith, eqb, ◌||◌, if◌then◌else◌}
use Rattle.std.proofs.lemmas.Bool.{false≢true}
use Rattle.std.proofs.lemmas.Bool.Decides.{nat_tests}
use Rattle.xdd_table.specs.declared.node.Dd.{Dd}
use Rattle.xdd_table.specs.declared.node.Node.{Node}
use Rattle.xdd_table.specs.declared.node.Node.TheVariants.{Leaf, Branch}
use Rattle.xdd_table.specs.Diagram.{IsBelow, itself, by_hit, by_miss, IsTable}
use Rattle.xdd_table.specs.Order.{has, Finishes, met, leaf, branch, ListsBelow}

either_true : (a b : Bool) → (a || b) ≡ true → (a ≡ true) ⊎ (b ≡ true)
either_true true b h = inl refl
either_true false b h = inr h

right_true : (a b : Bool) → b ≡ true → (a || b) ≡ true
right_true true b h = refl
right_true false b h = h

place_itself : (a : ℕ) → eqb a a ≡ true
place_itself a = grind (arith, nat_tests)

pub place_same : (a b : ℕ) → eqb a b ≡ true → a ≡ b
place_same a b h = grind (arith, nat_tests)

pub no_true : (b : Bool) → (b ≡ true → ⊥) → b ≡ false
no_true true h = absurd (h refl)
no_true false h = refl

-- a place that a set of places takes last
pub taken_last : (places after : List ℕ) (p : ℕ) → after ≡ (if has places p then places else places ++ p ∷ []) → has places p ≡ false → after ≡ places ++ p ∷ []
taken_last places after p is new = rw new at is

-- the list with one place more
pub has_more : (xs : List ℕ) (p q : ℕ) → has xs q ≡ true → has (xs ++ p ∷ []) q ≡ true
has_more [] p q h = absurd (false≢true h)
has_more (x ∷ xs) p q h = elim (either_true (eqb q x) (has xs q) h) [
  | inl e ↦ rw e refl
  | inr e ↦ right_true (eqb q x) (has (xs ++ p ∷ []) q) (has_more xs p q e)
]

pub has_last : (xs : List ℕ) (p : ℕ) → has (xs ++ p ∷ []) p ≡ true
has_last [] p = rw (place_itself p) refl
has_last (x ∷ xs) p = right_true (eqb p x) (has (xs ++ p ∷ []) p) (has_last xs p)

pub has_one : (xs : List ℕ) (p q : ℕ) → has (xs ++ p ∷ []) q ≡ true → (has xs q ≡ true) ⊎ (q ≡ p)
has_one [] p q h = elim (either_true (eqb q p) false h) [ inl e ↦ inr (place_same q p e) | inr e ↦ absurd (false≢true e) ]
has_one (x ∷ xs) p q h = elim (either_true (eqb q x) (has (xs ++ p ∷ []) q) h) [
  | inl e ↦ inl (rw e refl)
  | inr e ↦ elim (has_one xs p q e) [ inl g ↦ inl (right_true (eqb q x) (has xs q) g) | inr g ↦ inr g ]
]

-- a place that stands at a position is in the list
pub has_at : (xs : List ℕ) (i q : ℕ) → slice_get xs i ≡ Some q → has xs q ≡ true
has_at [] i q h = cc
has_at (x ∷ xs) zero q h = let e : x ≡ q = cc in rw (e, place_itself q) refl
has_at (x ∷ xs) (suc i) q h = right_true (eqb q x) (has xs q) (has_at xs i q h)

-- a position of the longer list is one of the front, or the last
spot : (xs : List ℕ) (p i q : ℕ) → slice_get (xs ++ p ∷ []) i ≡ Some q → (slice_get xs i ≡ Some q) ⊎ ((i ≡ length xs) × (q ≡ p))
spot [] p zero q h = inr (refl, cc)
spot [] p (suc i) q h = cc
spot (x ∷ xs) p zero q h = inl h
spot (x ∷ xs) p (suc i) q h = elim (spot xs p i q h) [ inl k ↦ inl k | inr k ↦ inr (ap suc k.0, k.1) ]

module _ (nodes : List Node) where
  -- a walk forgets nothing
  pub keeps_has : {p : ℕ} {done after : List ℕ} → Finishes nodes p done after → (q : ℕ) → has done q ≡ true → has after q ≡ true
  keeps_has (met h) q g = g
  keeps_has (leaf {p} {t} {done} new at) q g = has_more done p q g
  keeps_has (branch {p} {e} {hit} {miss} {done} {between} {after} new at w v) q g = has_more after p q (keeps_has v q (keeps_has w q g))

  -- it finishes its own place
  pub finishes_own : {p : ℕ} {done after : List ℕ} → Finishes nodes p done after → has after p ≡ true
  finishes_own (met h) = h
  finishes_own (leaf {p} {t} {done} new at) = has_last done p
  finishes_own (branch {p} {e} {hit} {miss} {done} {between} {after} new at w v) = has_last after p

  -- it finishes places below its own alone
  pub finishes_below : {p : ℕ} {done after : List ℕ} → Finishes nodes p done after → (q : ℕ) → has after q ≡ true → (has done q ≡ true) ⊎ IsBelow nodes p q
  finishes_below (met h) q g = inl g
  finishes_below (leaf {p} {t} {done} new at) q g = elim (has_one done p q g) [ inl k ↦ inl k | inr k ↦ inr (rw k itself) ]
  finishes_below (branch {p} {e} {hit} {miss} {done} {between} {after} new at w v) q g = elim (has_one after p q g) [
    | inl k ↦ elim (finishes_below v q k) [
      | inl l ↦ elim (finishes_below w q l) [ inl m ↦ inl m | inr m ↦ inr (by_hit at m) ]
      | inr l ↦ inr (by_miss at l)
    ]
    | inr k ↦ inr (rw k itself)
  ]

  -- both branches of each place in the list are in it
  pub record Closed (places : List ℕ) : Type 0 where
    pub hits : (q e : ℕ) (hit miss : Dd) → has places q ≡ true → slice_get nodes q ≡ Some (Branch e hit miss) → has places hit.place ≡ true
    pub misses : (q e : ℕ) (hit miss : Dd) → has places q ≡ true → slice_get nodes q ≡ Some (Branch e hit miss) → has places miss.place ≡ true

  pub closed_none : Closed []
  closed_none = record { hits = λ q e hit miss h at. absurd (false≢true h); misses = λ q e hit miss h at. absurd (false≢true h) }

  closed_leaf : (p t : ℕ) (done : List ℕ) → slice_get nodes p ≡ Some (Leaf t) → Closed done → Closed (done ++ p ∷ [])
  closed_leaf p t done at c = record {
    hits = λ q e hit miss h at'. elim (has_one done p q h) [ inl k ↦ has_more done p hit.place (c.hits q e hit miss k at') | inr k ↦ let f : Some (Leaf t) ≡ Some (Branch e hit miss) = sym at ∙ (ap (slice_get nodes) (sym k) ∙ at') in cc ];
    misses = λ q e hit miss h at'. elim (has_one done p q h) [ inl k ↦ has_more done p miss.place (c.misses q e hit miss k at') | inr k ↦ let f : Some (Leaf t) ≡ Some (Branch e hit miss) = sym at ∙ (ap (slice_get nodes) (sym k) ∙ at') in cc ];
  }

  closed_branch : (p e : ℕ) (hit miss : Dd) (after : List ℕ) → slice_get nodes p ≡ Some (Branch e hit miss) → has after hit.place ≡ true → has after miss.place ≡ true → Closed after → Closed (after ++ p ∷ [])
  closed_branch p e hit miss after at h m c = record {
    hits = λ q e' hit' miss' k at'. elim (has_one after p q k) [
      | inl l ↦ has_more after p hit'.place (c.hits q e' hit' miss' l at')
      | inr l ↦ let f : Some (Branch e hit miss) ≡ Some (Branch e' hit' miss') = sym at ∙ (ap (slice_get nodes) (sym l) ∙ at') in let g : hit ≡ hit' = cc in has_more after p hit'.place (rw (← g) h)
    ];
    misses = λ q e' hit' miss' k at'. elim (has_one after p q k) [
      | inl l ↦ has_more after p miss'.place (c.misses q e' hit' miss' l at')
      | inr l ↦ let f : Some (Branch e hit miss) ≡ Some (Branch e' hit' miss') = sym at ∙ (ap (slice_get nodes) (sym l) ∙ at') in let g : miss ≡ miss' = cc in has_more after p miss'.place (rw (← g) m)
    ];
  }

  pub keeps_closed : {p : ℕ} {done after : List ℕ} → Finishes nodes p done after → Closed done → Closed after
  keeps_closed (met h) c = c
  keeps_closed (leaf {p} {t} {done} new at) c = closed_leaf p t done at c
  keeps_closed (branch {p} {e} {hit} {miss} {done} {between} {after} new at w v) c =
      closed_branch p e hit miss after at (keeps_has v hit.place (finishes_own w)) (finishes_own v) (keeps_closed v (keeps_closed w c))

  -- a closed list has what is below its places
  pub closed_below : {p q : ℕ} (places : List ℕ) → Closed places → IsBelow nodes p q → has places p ≡ true → has places q ≡ true
  closed_below places c itself h = h
  closed_below places c (by_hit {p} {q} {e} {hit} {miss} at b) h = closed_below places c b (c.hits p e hit miss h at)
  closed_below places c (by_miss {p} {q} {e} {hit} {miss} at b) h = closed_below places c b (c.misses p e hit miss h at)

  -- no place stands twice
  pub record Once (places : List ℕ) : Type 0 where
    pub once : (i j q : ℕ) → slice_get places i ≡ Some q → slice_get places j ≡ Some q → i ≡ j

  pub once_none : Once []
  once_none = record { once = λ i j q a b. cc }

  pub once_more : (done : List ℕ) (p : ℕ) → has done p ≡ false → Once done → Once (done ++ p ∷ [])
  once_more done p new o = record {
    once = λ i j q a b. elim (spot done p i q a) [
      | inl k ↦ elim (spot done p j q b) [ inl l ↦ o.once i j q k l | inr l ↦ absurd (false≢true (sym new ∙ has_at done i p (k ∙ ap Some l.1))) ]
      | inr k ↦ elim (spot done p j q b) [ inl l ↦ absurd (false≢true (sym new ∙ has_at done j p (l ∙ ap Some k.1))) | inr l ↦ k.0 ∙ sym l.0 ]
    ];
  }

  module _ (table : IsTable nodes) where
    -- in a table a walk finishes no place past its own
    pub finishes_less : {p : ℕ} {done after : List ℕ} → Finishes nodes p done after → (q : ℕ) → has after q ≡ true → (has done q ≡ true) ⊎ (q < suc p)
    finishes_less (met h) q g = inl g
    finishes_less (leaf {p} {t} {done} new at) q g = elim (has_one done p q g) [ inl k ↦ inl k | inr k ↦ inr (omega arith) ]
    finishes_less (branch {p} {e} {hit} {miss} {done} {between} {after} new at w v) q g =
        let b = table.each p (Branch e hit miss) at in
        elim (has_one after p q g) [
          | inl k ↦ elim (finishes_less v q k) [
            | inl l ↦ elim (finishes_less w q l) [ inl m ↦ inl m | inr m ↦ inr (omega (arith, b.hit_before)) ]
            | inr l ↦ inr (omega (arith, b.miss_before))
          ]
          | inr k ↦ inr (omega arith)
        ]

    -- so its own place is new when both branches are finished
    pub still_new : (p : ℕ) (hit miss : ℕ) (done between after : List ℕ) → has done p ≡ false → hit < p → miss < p → Finishes nodes hit done between → Finishes nodes miss between after → has after p ≡ false
    still_new p hit miss done between after new h m w v = no_true (has after p) (λ g. elim (finishes_less v p g) [
      | inl k ↦ elim (finishes_less w p k) [ inl l ↦ false≢true (sym new ∙ l) | inr l ↦ absurd (omega arith) ]
      | inr k ↦ absurd (omega arith)
    ])

    pub keeps_once : {p : ℕ} {done after : List ℕ} → Finishes nodes p done after → Once done → Once after
    keeps_once (met h) o = o
    keeps_once (leaf {p} {t} {done} new at) o = once_more done p new o
    keeps_once (branch {p} {e} {hit} {miss} {done} {between} {after} new at w v) o =
        let b = table.each p (Branch e hit miss) at in
        once_more after p (still_new p hit.place miss.place done between after new b.hit_before b.miss_before w v) (keeps_once v (keeps_once w o))

    -- the list of a whole walk
    pub lists_below : (p : ℕ) (places : List ℕ) → Finishes nodes p [] places → ListsBelow nodes p places
    lists_below p places w = record {
      sound = λ q h. elim (finishes_below w q h) [ inl k ↦ absurd (false≢true k) | inr k ↦ k ];
      whole = λ q b. closed_below places (keeps_closed w closed_none) b (finishes_own w);
      once = (keeps_once w once_none).once;
    }

    -- the walk's last step
    pub end_branch : (p e : ℕ) (hit miss : Dd) (done between after new : List ℕ) → has done p ≡ false → slice_get nodes p ≡ Some (Branch e hit miss)
        → Finishes nodes hit.place done between → Finishes nodes miss.place between after → new ≡ (if has after p then after else after ++ p ∷ []) → Finishes nodes p done new
    end_branch p e hit miss done between after new absent at w v is =
        let b = table.each p (Branch e hit miss) at in
        rw (taken_last after new p is (still_new p hit.place miss.place done between after absent b.hit_before b.miss_before w v)) (branch absent at w v)

    pub end_leaf : (p t : ℕ) (done new : List ℕ) → has done p ≡ false → slice_get nodes p ≡ Some (Leaf t) → new ≡ (if has done p then done else done ++ p ∷ []) → Finishes nodes p done new
    end_leaf p t done new absent at is = rw (taken_last done new p is absent) (leaf absent at)
