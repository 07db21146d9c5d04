-- Amounts that are raised step by step.
use Rattle.std.proofs.Common.{◌≡◌, ◌≢◌, ℕ, ◌+◌, ◌-◌, ◌<◌, ◌≤◌, Bool, true, false, List, length, set, slice_get, slice_index, Some, replicate, refl, sym, ap, subst, ◌∙◌, inl, inr, arith}
use Rattle.std.specs.Prelude.{◌⊎◌}
use Rattle.std.proofs.lemmas.Bool.{cases_lt}
use Rattle.std.proofs.lemmas.Grind.{get_or-set_at}
use Rattle.std.proofs.lemmas.List.{length-set, get_or-set_other, get_or-replicate, get_or_past, length-replicate}
use Rattle.std.proofs.lemmas.Option.{same_Some}
use Rattle.wx_base.specs.declared.machine.Machine.{Machine}
use Rattle.flow_block.specs.declared.block.Block.{Block}
use Rattle.cache_class.specs.declared.class.Class.{Class}
use Rattle.pipe_time.specs.declared.vector.Vector.{Vector}
use Rattle.xdd_table.specs.Diagram.{Combination, with_event}
use Rattle.state_charges.specs.declared.miss.Miss.{Miss}
use Rattle.state_charges.specs.Raising.{Raises, IsEarly, IsEventRise, IsFamilyRise, IsListedRise, IsVectorRise, rise_at}

-- no step
pub raised_by_none : (Is : ℕ → ℕ → ℕ → Type 0) (xs : List ℕ) → Raises (IsEarly Is 0) xs xs
raised_by_none Is xs = record {
  long = refl;
  grows = λ i. omega arith;
  covers = λ i n e. absurd (omega (arith, e.early));
  reached = λ i. inl refl;
}

-- one step more
pub raised_by_more : (Is : ℕ → ℕ → ℕ → Type 0) (steps : ℕ) (a b c : List ℕ) → Raises (IsEarly Is steps) a b → Raises (Is steps) b c → Raises (IsEarly Is (steps + 1)) a c
raised_by_more Is steps a b c first next = record {
  long = next.long ∙ first.long;
  grows = λ i. omega (arith, first.grows i, next.grows i);
  covers = λ i n e. covered i n e;
  reached = λ i. elim (next.reached i) [
    | inl same ↦ elim (first.reached i) [
      | inl still ↦ inl (same ∙ still)
      | inr was ↦ inr (record { step = was.step; early = omega (arith, was.early); is = subst (λ n. Is was.step i n) (sym same) was.is })
    ]
    | inr now ↦ inr (record { step = steps; early = omega arith; is = now })
  ];
}
  where
    covered : (i n : ℕ) → IsEarly Is (steps + 1) i n → n ≤ slice_index c i
    covered i n e = elim (cases_lt e.step steps) [
      | inl before ↦
          let was = first.covers i n (record { step = e.step; early = before; is = e.is }) in
          omega (arith, was, next.grows i)
      | inr behind ↦
          let last : e.step ≡ steps = omega (arith, behind, e.early) in
          next.covers i n (subst (λ (s : ℕ). Is s i n) last e.is)
    ]

-- numbers told in another way, of which none is greater
pub raised_to : (P Q : ℕ → ℕ → Type 0) (a b : List ℕ) → ((i n : ℕ) → P i n → Q i n) → ((i n : ℕ) → Q i n → (most : ℕ) × (n ≤ most) × P i most)
    → Raises P a b → Raises Q a b
raised_to P Q a b to back raises = record {
  long = raises.long;
  grows = raises.grows;
  covers = λ i n q. let w = back i n q in omega (arith, w.1, raises.covers i w.0 w.2);
  reached = λ i. elim (raises.reached i) [
    | inl same ↦ inl same
    | inr p ↦ inr (to i (slice_index b i) p)
  ];
}

-- numbers told in two ways
pub raised_alike : (P Q : ℕ → ℕ → Type 0) (a b : List ℕ) → ((i n : ℕ) → P i n → Q i n) → ((i n : ℕ) → Q i n → P i n) → Raises P a b → Raises Q a b
raised_alike P Q a b to back raises = raised_to P Q a b to (λ i n q. (n, omega arith, back i n q)) raises

one_or_other : (i p : ℕ) → (i ≡ p) ⊎ (i ≢ p)
one_or_other i p = elim (cases_lt i p) [
  | inl less ↦ inr (λ same. omega (arith, less, same))
  | inr more ↦ elim (cases_lt p i) [
    | inl less ↦ inr (λ same. omega (arith, less, same))
    | inr past ↦ inl (omega (arith, more, past))
  ]
]

-- one amount is raised to a number
pub raised_at : (xs new : List ℕ) (p v w : ℕ) → p < length xs → new ≡ set xs p w → slice_index xs p ≤ w → v ≤ w → ((w ≡ slice_index xs p) ⊎ (w ≡ v))
    → Raises (λ i n. (i ≡ p) × (n ≡ v)) xs new
raised_at xs new p v w within made old_less less reached = subst (λ (ys : List ℕ). Raises (λ i n. (i ≡ p) × (n ≡ v)) xs ys) (sym made) (record {
  long = length-set xs p w;
  grows = λ i. elim (one_or_other i p) [
    | inl same ↦
        let now = get_or-set_at xs p i w 0 same within in
        let old : slice_index xs i ≡ slice_index xs p = ap (λ (k : ℕ). slice_index xs k) same in
        omega (arith, now, old, old_less)
    | inr other ↦ let now = get_or-set_other xs p i w 0 other in omega (arith, now)
  ];
  covers = λ i n is. let now = get_or-set_at xs p i w 0 is.0 within in omega (arith, now, is.1, less);
  reached = λ i. elim (one_or_other i p) [
    | inl same ↦
        let now : slice_index (set xs p w) i ≡ w = get_or-set_at xs p i w 0 same within in
        let old : slice_index xs i ≡ slice_index xs p = ap (λ (k : ℕ). slice_index xs k) same in
        elim reached [
          | inl stays ↦ inl (now ∙ stays ∙ sym old)
          | inr raised ↦ inr (same, now ∙ raised)
        ]
    | inr other ↦ inl (get_or-set_other xs p i w 0 other)
  ];
})

-- the amount of an event's group, raised to the greatest rise
pub event_raised : (cost : Combination → ℕ) (x : Miss) (most : ℕ) (a b : List ℕ) → ((f : Combination) → rise_at cost x.event f ≤ most)
    → ((f : Combination) × (most ≡ rise_at cost x.event f)) → Raises (λ i n. (i ≡ x.group) × (n ≡ most)) a b → Raises (IsEventRise cost x) a b
event_raised cost x most a b bound attained raises = raised_to (λ i n. (i ≡ x.group) × (n ≡ most)) (IsEventRise cost x) a b
    (λ i n p. record { group = p.0; f = attained.0; is = p.1 ∙ attained.1 })
    (λ i n q. (most, omega (arith, q.is, bound q.f), (q.group, refl)))
    raises

-- no amount
pub zero_at : (count i : ℕ) → slice_index (replicate count 0) i ≡ 0
zero_at count i = elim (cases_lt i count) [
  | inl within ↦ get_or-replicate count i 0 0 within
  | inr past ↦ get_or_past (replicate count 0) i 0 (omega (arith, past, length-replicate {A = ℕ} count 0))
]

-- the amount of the group of the event at a place of a list
pub listed_raised : (cost now : Combination → ℕ) (misses : List Miss) (k : ℕ) (x : Miss) (a b : List ℕ) → ((f : Combination) → now f ≡ cost f)
    → slice_get misses k ≡ Some x → Raises (IsEventRise now x) a b → Raises (IsListedRise cost misses k) a b
listed_raised cost now misses k x a b same stands raises = raised_alike (IsEventRise now x) (IsListedRise cost misses k) a b
    (λ i n p. record { x = x; stands = stands; is = record { group = p.group; f = p.f; is = p.is ∙ rises x.event p.f } })
    (λ i n q.
    let own : q.x ≡ x = same_Some q.x x (sym q.stands ∙ stands) in
    subst (λ (y : Miss). IsEventRise now y i n) own (record { group = q.is.group; f = q.is.f; is = q.is.is ∙ sym (rises q.x.event q.is.f) }))
    raises
  where
    rises : (event : ℕ) (f : Combination) → rise_at now event f ≡ rise_at cost event f
    rises event f =
        ap (λ (n : ℕ). n - now (with_event f event false)) (same (with_event f event true))
        ∙ ap (λ (n : ℕ). cost (with_event f event true) - n) (same (with_event f event false))

-- the amounts raised by the vector at a place of a list
pub family_raised : (m : Machine) (block : Block) (kinds : List Class) (taken : Bool) (misses : List Miss) (family : List Vector) (place : ℕ) (v : Vector) (a b : List ℕ)
    → slice_get family place ≡ Some v → Raises (IsVectorRise m block kinds taken misses v) a b → Raises (IsFamilyRise m block kinds taken misses family place) a b
family_raised m block kinds taken misses family place v a b stands raises =
    raised_alike (IsVectorRise m block kinds taken misses v) (IsFamilyRise m block kinds taken misses family place) a b
    (λ i n p. record { v = v; stands = stands; is = p })
    (λ i n q. subst (λ (w : Vector). IsVectorRise m block kinds taken misses w i n) (same_Some q.v v (sym q.stands ∙ stands)) q.is)
    raises
