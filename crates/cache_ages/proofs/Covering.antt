-- What covers a cache still covers it after an access.
use Rattle.std.proofs.Common.{◌≡◌, ℕ, zero, suc, ◌+◌, ◌<◌, ◌≤◌, cond, List, [], ◌∷◌, Some, inl, inr, sym, ap, ◌∙◌, arith, eqb, ltb, leb, get_or, min}
use Rattle.std.proofs.lemmas.Bool.{cases_Bool, cases_lt, cases_order, eqb-true, eqb-false, lt-ltb, le-ltb, le-leb, lt-leb, ltb-true, ltb-false, cond-true, cond-false, false_from_ne_true}
use Rattle.std.proofs.lemmas.Option.{same_Some, slice_get_within}
use Rattle.std.specs.List.{slice_get, IsDistinct}
use Rattle.wx_base.specs.Cache.{set_of, lines_with, touched, accessed, holds_line}
use Rattle.cache_ages.specs.Laws.{MustAccessCovers, MustHoldsLine, MayAccessCovers, MayBarsLine}
use Rattle.cache_ages.proofs.Sets.{within, lines_of_same, lines_of_other}
use Rattle.cache_ages.proofs.Places.{without, place_without, place_with, within_take, any_at, place_of, first_of, later_of}

-- upper bounds in one set
must_rival : (ways line other age bound : ℕ) (xs : List ℕ) → (other ≡ line → ⊥)
    → (age < ways → (p : ℕ) × (p ≤ age) × (slice_get xs p ≡ Some other))
    → (bound < ways → (p : ℕ) × (p ≤ bound) × (slice_get xs p ≡ Some line))
    → cond (ltb age bound) (age + 1) age < ways
    → (p : ℕ) × (p ≤ cond (ltb age bound) (age + 1) age) × (slice_get (touched ways xs line) p ≡ Some other)
must_rival ways line other age bound xs ne there this h = elim (cases_lt age bound) [
  | inl lt ↦
      let e : cond (ltb age bound) (age + 1) age ≡ age + 1 = cond-true (ltb age bound) (age + 1) age (lt-ltb age bound lt) in
      let old = there (omega arith) in
      let new = place_without xs line other old.0 ne old.2 in
      (suc new.0, omega (arith, new.1, old.1), later_of ways line other new.0 xs (omega (arith, new.1, old.1)) new.2)
  | inr le ↦
      let e : cond (ltb age bound) (age + 1) age ≡ age = cond-false (ltb age bound) (age + 1) age (le-ltb age bound le) in
      let old = there (omega arith) in
      let its = this (omega arith) in
      let new = place_without xs line other old.0 ne old.2 in
      let below : suc new.0 ≤ age = elim (cases_order old.0 its.0) [
        | inl same ↦
            let two : Some other ≡ Some line = sym old.2 ∙ ap (slice_get xs) same ∙ its.2 in
            absurd (ne (same_Some other line two))
        | inr apart ↦ elim apart [
          | inl before ↦ omega (arith, new.1, its.1)
          | inr after ↦ omega (arith, new.3 its.0 after its.2, old.1)
        ]
      ] in
      (suc new.0, omega arith, later_of ways line other new.0 xs (omega arith) new.2)
]

-- lower bounds in one set
may_rival : (ways line other age bound : ℕ) (xs : List ℕ) (p : ℕ) → IsDistinct eqb xs → (other ≡ line → ⊥)
    → ((p : ℕ) → slice_get xs p ≡ Some other → age ≤ p)
    → ((p : ℕ) → slice_get xs p ≡ Some line → bound ≤ p)
    → slice_get (touched ways xs line) p ≡ Some other
    → cond (leb age bound) (min (age + 1) ways) age ≤ p
may_rival ways line other age bound xs zero d ne there this at =
    absurd (ne (same_Some other line (sym (within_take ways (line ∷ without line xs) 0 other at).1)))
may_rival ways line other age bound xs (suc r) d ne there this at =
    let old = place_with xs line other r d (within_take ways (line ∷ without line xs) (suc r) other at).1 in
    let low : age ≤ old.0 = there old.0 old.1 in
    elim (cases_lt bound age) [
      | inl lt ↦
          let e : cond (leb age bound) (min (age + 1) ways) age ≡ age = cond-false (leb age bound) (min (age + 1) ways) age (lt-leb age bound lt) in
          omega (arith, old.2)
      | inr le ↦
          let e : cond (leb age bound) (min (age + 1) ways) age ≡ min (age + 1) ways = cond-true (leb age bound) (min (age + 1) ways) age (le-leb age bound le) in
          let k : age ≤ r = elim old.3 [
            | inl same ↦ omega arith
            | inr i ↦ omega (arith, this i.0 i.2, i.1, old.2)
          ] in
          omega arith
    ]

pub must_covers : MustAccessCovers
must_covers shape ages cache line s c covers = record {
  each = λ other. elim (cases_Bool (eqb other line)) [
    | inl e ↦
        let same : other ≡ line = eqb-true other line e in
        let is : lines_with shape (accessed shape cache line) other ≡ touched shape.ways (lines_with shape cache other) line = lines_of_same shape cache line other s c (ap (set_of shape) same) in
        rw e (λ h. (0, omega arith, rw is (first_of shape.ways line (lines_with shape cache other) (omega (arith, s.ways)) ∙ ap Some (sym same))))
    | inr e ↦ elim (cases_Bool (eqb (set_of shape other) (set_of shape line))) [
      | inl own ↦
          let sets : set_of shape other ≡ set_of shape line = eqb-true (set_of shape other) (set_of shape line) own in
          let is : lines_with shape (accessed shape cache line) other ≡ touched shape.ways (lines_with shape cache other) line = lines_of_same shape cache line other s c sets in
          let here : lines_with shape cache line ≡ lines_with shape cache other = ap (λ n. get_or cache n []) (sym sets) in
          rw (e, own) (λ h. rw is (must_rival shape.ways line other (ages other) (ages line) (lines_with shape cache other) (eqb-false other line e) (covers.each other) (rw here at (covers.each line)) h))
      | inr apart ↦
          let is : lines_with shape (accessed shape cache line) other ≡ lines_with shape cache other = lines_of_other shape cache line other (eqb-false (set_of shape other) (set_of shape line) apart) in
          rw (e, apart) (λ h. rw is (covers.each other h))
    ]
  ];
}

pub may_covers : MayAccessCovers
may_covers shape ages cache line s c covers = record {
  each = λ other p. elim (cases_Bool (eqb other line)) [
    | inl e ↦ rw e (λ h. omega arith)
    | inr e ↦ elim (cases_Bool (eqb (set_of shape other) (set_of shape line))) [
      | inl own ↦
          let sets : set_of shape other ≡ set_of shape line = eqb-true (set_of shape other) (set_of shape line) own in
          let is : lines_with shape (accessed shape cache line) other ≡ touched shape.ways (lines_with shape cache other) line = lines_of_same shape cache line other s c sets in
          let here : lines_with shape cache line ≡ lines_with shape cache other = ap (λ n. get_or cache n []) (sym sets) in
          let one = c.each (set_of shape other) (omega (arith, within shape cache other s c, c.sets)) in
          rw (e, own, is) (λ h. may_rival shape.ways line other (ages other) (ages line) (lines_with shape cache other) p one.different (eqb-false other line e) (covers.each other) (rw here at (covers.each line)) h)
      | inr apart ↦
          let is : lines_with shape (accessed shape cache line) other ≡ lines_with shape cache other = lines_of_other shape cache line other (eqb-false (set_of shape other) (set_of shape line) apart) in
          rw (e, apart, is) (covers.each other p)
    ]
  ];
}

pub must_holds : MustHoldsLine
must_holds shape ages cache line covers h =
    let there = covers.each line (ltb-true (ages line) shape.ways h) in
    any_at (lines_with shape cache line) there.0 line there.2

pub may_bars : MayBarsLine
may_bars shape ages cache line s c covers h =
    false_from_ne_true (holds_line shape cache line) (λ held.
    let there = place_of (lines_with shape cache line) line held in
    let one = c.each (set_of shape line) (omega (arith, within shape cache line s c, c.sets)) in
    let high : shape.ways ≤ ages line = ltb-false (ages line) shape.ways h in
    omega (arith, covers.each line there.0 there.1, slice_get_within (lines_with shape cache line) there.0 line there.1, one.fits))
