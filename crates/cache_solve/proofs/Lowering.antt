-- What joins of states lower.
use Rattle.std.proofs.Common.{◌≡◌, ℕ, ◌+◌, ◌-◌, ◌<◌, ◌≤◌, Bool, true, false, ◌||◌, List, [], ◌∷◌, length, max, min, ◌⊎◌, inl, inr, refl, sym, ap, subst, ◌∙◌, arith, eqb}
use Rattle.std.proofs.lemmas.Bool.{cases_Bool, cases_lt, eqb-true, or_left, or_right, true≢false, false≢true}
use Rattle.std.proofs.lemmas.List.Sums.{sum_by-cons}
use Rattle.std.specs.Bool.{Decides}
use Rattle.std.specs.List.{sum_by}
use Rattle.wx_base.specs.declared.machine.Shape.{Shape}
use Rattle.wx_base.specs.CacheStates.{must_accessed, MustCovers, may_accessed, MayCovers, Younger, YoungerCovers, younger_start, younger_joined, must_joined, may_joined}
use Rattle.cache_ages.specs.Bounds.{among, Bounds, must_ages, may_ages, is_one_of, AreAges, AreBounds, beside}
use Rattle.cache_flow.specs.Solutions.{YoungerCoversAt}
use Rattle.cache_ages.proofs.Beside.{beside_absent, beside_each}
use Rattle.cache_pers.specs.Stays.{Stay, younger_of}
use Rattle.cache_solve.specs.Orders.{MustCoversAt, MayCoversAt, must_left, may_left, unset, younger_left, IsOfLines}

sums_le : (f g : ℕ → ℕ) (lines : List ℕ) → ((line : ℕ) → g line ≤ f line) → sum_by g lines ≤ sum_by f lines
sums_le f g [] le = omega arith
sums_le f g (x ∷ xs) le = omega (arith, sum_by-cons g x xs, sum_by-cons f x xs, le x, sums_le f g xs le)

-- numbers that are no greater have a lesser sum, or are the same
pub lowered : (f g : ℕ → ℕ) (lines : List ℕ) → ((line : ℕ) → g line ≤ f line)
    → ((line : ℕ) → is_one_of lines line ≡ true → g line ≡ f line) ⊎ (sum_by g lines < sum_by f lines)
lowered f g [] le = inl (λ line h. absurd (false≢true h))
lowered f g (x ∷ xs) le = elim (cases_lt (g x) (f x)) [
  | inl lt ↦ inr (omega (arith, sum_by-cons g x xs, sum_by-cons f x xs, sums_le f g xs le))
  | inr ge ↦ elim (lowered f g xs le) [
    | inl same ↦ inl (λ line h. elim (cases_Bool (eqb x line)) [
      | inl e ↦ subst (λ (n : ℕ). g n ≡ f n) (eqb-true x line e) (omega (arith, le x))
      | inr e ↦ same line (rw e at h)
    ])
    | inr lt ↦ inr (omega (arith, sum_by-cons g x xs, sum_by-cons f x xs, le x))
  ]
]

-- ---- must and may

pub must_within : (bounds : Bounds) → AreBounds bounds → AreAges bounds.shape (must_ages bounds)
must_within bounds b = record {
  each = λ line. beside_each bounds.shape.ways (λ age. age ≤ bounds.shape.ways) bounds.lines bounds.ages line (omega arith) b.within;
}

pub may_within : (bounds : Bounds) → AreBounds bounds → AreAges bounds.shape (may_ages bounds)
may_within bounds b = record {
  each = λ line. beside_each 0 (λ age. age ≤ bounds.shape.ways) bounds.lines bounds.ages line (omega arith) b.within;
}

pub must_lowered : (old other new : Bounds) → AreBounds old → AreBounds other → other.shape ≡ old.shape → other.lines ≡ old.lines
    → new.shape ≡ old.shape → new.lines ≡ old.lines → must_ages new ≡ must_joined (must_ages old) (must_ages other)
    → (MustCovers (must_ages old) (must_ages other) → ⊥) → must_left new < must_left old
must_lowered old other new o t os ol ns nl joined not =
    let f : ℕ → ℕ = λ line. old.shape.ways - must_ages old line in
    let g : ℕ → ℕ = λ line. old.shape.ways - max (must_ages old line) (must_ages other line) in
    let less : sum_by g old.lines < sum_by f old.lines = elim (lowered f g old.lines (λ line. omega arith)) [
      | inl same ↦ absurd (not (record {
        each = λ line. elim (cases_Bool (is_one_of old.lines line)) [
          | inl one ↦ omega (arith, same line one, (must_within old o).each line, (must_within other t).each line, ap (λ (s : Shape). s.ways) os)
          | inr none ↦ omega (arith, beside_absent old.shape.ways old.lines old.ages line none, (must_within other t).each line, ap (λ (s : Shape). s.ways) os)
        ];
      }))
      | inr lt ↦ lt
    ] in
    let e : must_left new ≡ sum_by g old.lines = λ i. sum_by (λ line. (ns i).ways - (joined i) line) (nl i) in
    subst (λ (n : ℕ). n < must_left old) (sym e) less

pub may_lowered : (old other new : Bounds) → other.lines ≡ old.lines
    → new.lines ≡ old.lines → may_ages new ≡ may_joined (may_ages old) (may_ages other)
    → (MayCovers (may_ages old) (may_ages other) → ⊥) → may_left new < may_left old
may_lowered old other new ol nl joined not =
    let g : ℕ → ℕ = λ line. min (may_ages old line) (may_ages other line) in
    let less : sum_by g old.lines < sum_by (may_ages old) old.lines = elim (lowered (may_ages old) g old.lines (λ line. omega arith)) [
      | inl same ↦ absurd (not (record {
        each = λ line. elim (cases_Bool (is_one_of old.lines line)) [
          | inl one ↦ omega (arith, same line one)
          | inr none ↦ omega (arith, beside_absent 0 old.lines old.ages line none)
        ];
      }))
      | inr lt ↦ lt
    ] in
    let e : may_left new ≡ sum_by g old.lines = λ i. sum_by (joined i) (nl i) in
    subst (λ (n : ℕ). n < may_left old) (sym e) less

-- ---- younger

unset_or : (a b : Bool) → unset (a || b) ≤ unset a
unset_or true b = omega arith
unset_or false true = omega arith
unset_or false false = omega arith

unset_same : (a b : Bool) → unset (a || b) ≡ unset a → b ≡ true → a ≡ true
unset_same true b e h = refl
unset_same false true e h = absurd (omega (arith, e))
unset_same false false e h = h

-- ---- what the calls on states give

pub not_decided : {P : Type 0} (r : Bool) → Decides r P → r ≡ false → P → ⊥
not_decided r d e p = true≢false (sym (d.1 p) ∙ e)

pub must_passes : (old new : Bounds) (line : ℕ) → must_ages new ≡ must_accessed old.shape (must_ages old) line
    → MustCoversAt old.lines (must_ages new) (must_accessed old.shape (must_ages old) line) × MustCoversAt old.lines (must_accessed old.shape (must_ages old) line) (must_ages new)
must_passes old new line e = (
  record { each = λ other one. omega (arith, ap (λ (f : ℕ → ℕ). f other) e) },
  record { each = λ other one. omega (arith, ap (λ (f : ℕ → ℕ). f other) e) },
)

among_listed : (lines : List ℕ) (x : ℕ → ℕ) (line : ℕ) → is_one_of lines line ≡ true → among lines x line ≡ x line
among_listed lines x line one = rw one refl

pub may_passes : (old new : Bounds) (line : ℕ) → may_ages new ≡ among old.lines (may_accessed old.shape (may_ages old) line)
    → MayCoversAt old.lines (may_ages new) (may_accessed old.shape (may_ages old) line) × MayCoversAt old.lines (may_accessed old.shape (may_ages old) line) (may_ages new)
may_passes old new line e = (
  record { each = λ other one. omega (arith, ap (λ (f : ℕ → ℕ). f other) e, among_listed old.lines (may_accessed old.shape (may_ages old) line) other one) },
  record { each = λ other one. omega (arith, ap (λ (f : ℕ → ℕ). f other) e, among_listed old.lines (may_accessed old.shape (may_ages old) line) other one) },
)

pub must_joined_over : (lines : List ℕ) (x y z : ℕ → ℕ) → z ≡ must_joined x y → MustCoversAt lines z x × MustCoversAt lines z y
must_joined_over lines x y z e = (
  record { each = λ line one. omega (arith, ap (λ (f : ℕ → ℕ). f line) e) },
  record { each = λ line one. omega (arith, ap (λ (f : ℕ → ℕ). f line) e) },
)

pub must_joined_least : (lines : List ℕ) (x y z joint : ℕ → ℕ) → z ≡ must_joined x y → MustCoversAt lines joint x → MustCoversAt lines joint y → MustCoversAt lines joint z
must_joined_least lines x y z joint e p q = record { each = λ line one. omega (arith, ap (λ (f : ℕ → ℕ). f line) e, p.each line one, q.each line one) }

pub may_joined_over : (lines : List ℕ) (x y z : ℕ → ℕ) → z ≡ may_joined x y → MayCoversAt lines z x × MayCoversAt lines z y
may_joined_over lines x y z e = (
  record { each = λ line one. omega (arith, ap (λ (f : ℕ → ℕ). f line) e) },
  record { each = λ line one. omega (arith, ap (λ (f : ℕ → ℕ). f line) e) },
)

pub may_joined_least : (lines : List ℕ) (x y z joint : ℕ → ℕ) → z ≡ may_joined x y → MayCoversAt lines joint x → MayCoversAt lines joint y → MayCoversAt lines joint z
may_joined_least lines x y z joint e p q = record { each = λ line one. omega (arith, ap (λ (f : ℕ → ℕ). f line) e, p.each line one, q.each line one) }

pub younger_joined_over : (lines : List ℕ) (x y z : Younger) → z ≡ younger_joined x y → YoungerCoversAt lines z x × YoungerCoversAt lines z y
younger_joined_over lines x y z e = (
  record {
    known = λ line one h. rw e (or_left (x.known line) (y.known line) h);
    held = λ line other one two k h. rw e (or_left (x.held line other) (y.held line other) h);
  },
  record {
    known = λ line one h. rw e (or_right (x.known line) (y.known line) h);
    held = λ line other one two k h. rw e (or_right (x.held line other) (y.held line other) h);
  },
)

pub younger_joined_least : (lines : List ℕ) (x y z joint : Younger) → IsOfLines lines x → IsOfLines lines y → z ≡ younger_joined x y
    → YoungerCoversAt lines joint x → YoungerCoversAt lines joint y → YoungerCoversAt lines joint z
younger_joined_least lines x y z joint v w e p q = subst (λ (k : Younger). YoungerCoversAt lines joint k) (sym e) (record {
  known = λ line one h. elim (either (x.known line) (y.known line) h) [ inl k ↦ p.known line one k | inr k ↦ q.known line one k ];
  held = λ line other one two k h. elim (either (x.held line other) (y.held line other) h) [
    | inl i ↦ p.held line other one two (v.only line other i) i
    | inr i ↦ q.held line other one two (w.only line other i) i
  ];
})
  where
    either : (a b : Bool) → (a || b) ≡ true → (a ≡ true) ⊎ (b ≡ true)
    either true b h = inl refl
    either false b h = inr h

pub younger_joined_within : (lines : List ℕ) (x y z : Younger) → IsOfLines lines x → IsOfLines lines y → z ≡ younger_joined x y → IsOfLines lines z
younger_joined_within lines x y z v w e = subst (λ (k : Younger). IsOfLines lines k) (sym e) (record {
  known = λ line h. elim (either (x.known line) (y.known line) h) [ inl k ↦ v.known line k | inr k ↦ w.known line k ];
  held = λ line other h. elim (either (x.held line other) (y.held line other) h) [ inl i ↦ v.held line other i | inr i ↦ w.held line other i ];
  only = λ line other h. elim (either (x.held line other) (y.held line other) h) [
    | inl i ↦ or_left (x.known line) (y.known line) (v.only line other i)
    | inr i ↦ or_right (x.known line) (y.known line) (w.only line other i)
  ];
})
  where
    either : (a b : Bool) → (a || b) ≡ true → (a ≡ true) ⊎ (b ≡ true)
    either true b h = inl refl
    either false b h = inr h

pub younger_nothing : (lines : List ℕ) (x : Younger) → x ≡ younger_start → IsOfLines lines x
younger_nothing lines x e = subst (λ (k : Younger). IsOfLines lines k) (sym e) (record {
  known = λ line h. absurd (false≢true h);
  held = λ line other h. absurd (false≢true h);
  only = λ line other h. absurd (false≢true h);
})

pub younger_least_start : (lines : List ℕ) (x other : Younger) → x ≡ younger_start → YoungerCoversAt lines other x
younger_least_start lines x other e = subst (λ (k : Younger). YoungerCoversAt lines other k) (sym e) (record {
  known = λ line one h. absurd (false≢true h);
  held = λ line o one two h i. absurd (false≢true h);
})

pub younger_lowered : (old other new : Stay) → other.lines ≡ old.lines → new.lines ≡ old.lines → IsOfLines old.lines (younger_of other)
    → younger_of new ≡ younger_joined (younger_of old) (younger_of other) → (YoungerCovers (younger_of old) (younger_of other) → ⊥)
    → younger_left new < younger_left old
younger_lowered old other new ol nl w joined not =
    let x = younger_of old in
    let y = younger_of other in
    let lines = old.lines in
    let f : ℕ → ℕ = λ line. unset (x.known line) + sum_by (λ o. unset (x.held line o)) lines in
    let g : ℕ → ℕ = λ line. unset (x.known line || y.known line) + sum_by (λ o. unset (x.held line o || y.held line o)) lines in
    let le : (line : ℕ) → g line ≤ f line = λ line. omega (
      arith,
      unset_or (x.known line) (y.known line),
      sums_le (λ o. unset (x.held line o)) (λ o. unset (x.held line o || y.held line o)) lines (λ o. unset_or (x.held line o) (y.held line o)),
    ) in
    let less : sum_by g lines < sum_by f lines = elim (lowered f g lines le) [
      | inr lt ↦ lt
      | inl same ↦ absurd (not (record {
        known = λ line h.
            let one = w.known line h in
            unset_same (x.known line) (y.known line) (omega (
              arith,
              same line one,
              unset_or (x.known line) (y.known line),
              sums_le (λ o. unset (x.held line o)) (λ o. unset (x.held line o || y.held line o)) lines (λ o. unset_or (x.held line o) (y.held line o)),
            )) h;
        held = λ line o h i.
            let both = w.held line o i in
            elim (lowered (λ n. unset (x.held line n)) (λ n. unset (x.held line n || y.held line n)) lines (λ n. unset_or (x.held line n) (y.held line n))) [
              | inl all ↦ unset_same (x.held line o) (y.held line o) (all o both.1) i
              | inr lt ↦ absurd (omega (arith, same line both.0, unset_or (x.known line) (y.known line), lt))
            ];
      }))
    ] in
    let e : younger_left new ≡ sum_by g lines =
    λ i. sum_by (λ line. unset ((joined i).known line) + sum_by (λ o. unset ((joined i).held line o)) (nl i)) (nl i) in
    subst (λ (n : ℕ). n < younger_left old) (sym e) less
