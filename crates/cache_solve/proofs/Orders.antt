-- How what is known of some lines is ordered, and that accesses keep the order.
use Rattle.std.proofs.Common.{◌≡◌, ℕ, ◌+◌, ◌<◌, ◌≤◌, Bool, true, false, cond, ◌&&◌, ◌||◌, ◌⊎◌, List, min, inl, inr, refl, sym, subst, arith, eqb, ltb, leb}
use Rattle.std.proofs.lemmas.Bool.{cases_Bool, cases_lt, eqb-true, or_left, or_right, le-ltb, lt-ltb, le-leb, lt-leb, true≢false, false≢true}
use Rattle.wx_base.specs.declared.machine.Shape.{Shape}
use Rattle.wx_base.specs.CacheStates.{Ages, is_rival, must_accessed, may_accessed, Younger, younger_accessed}
use Rattle.cache_ages.specs.Bounds.{is_one_of, AreAges}
use Rattle.cache_flow.specs.Solutions.{YoungerCoversAt}
use Rattle.cache_solve.specs.Orders.{MustCoversAt, MayCoversAt, IsOfLines}

-- ---- must

must_order : (same rival : Bool) (xo xl yo yl : ℕ) → yo ≤ xo → yl ≤ xl
    → cond same 0 (cond (rival && ltb yo yl) (yo + 1) yo) ≤ cond same 0 (cond (rival && ltb xo xl) (xo + 1) xo)
must_order true rival xo xl yo yl p q = omega arith
must_order false false xo xl yo yl p q = p
must_order false true xo xl yo yl p q = elim (cases_lt yo yl) [
  | inl ly ↦ elim (cases_lt xo xl) [
    | inl lx ↦ rw (lt-ltb yo yl ly, lt-ltb xo xl lx) (omega arith)
    | inr gx ↦ rw (lt-ltb yo yl ly, le-ltb xo xl gx) (omega arith)
  ]
  | inr gy ↦ elim (cases_lt xo xl) [
    | inl lx ↦ rw (le-ltb yo yl gy, lt-ltb xo xl lx) (omega arith)
    | inr gx ↦ rw (le-ltb yo yl gy, le-ltb xo xl gx) (omega arith)
  ]
]

must_range : (same rival : Bool) (ways xo xl : ℕ) → xo ≤ ways → xl ≤ ways → cond same 0 (cond (rival && ltb xo xl) (xo + 1) xo) ≤ ways
must_range true rival ways xo xl p q = omega arith
must_range false false ways xo xl p q = p
must_range false true ways xo xl p q = elim (cases_lt xo xl) [
  | inl lx ↦ rw (lt-ltb xo xl lx) (omega arith)
  | inr gx ↦ rw (le-ltb xo xl gx) (omega arith)
]

pub must_same : (lines : List ℕ) (x : Ages) → MustCoversAt lines x x
must_same lines x = record { each = λ line h. omega arith }

pub must_joins : (lines : List ℕ) (x y z : Ages) → MustCoversAt lines x y → MustCoversAt lines y z → MustCoversAt lines x z
must_joins lines x y z p q = record { each = λ line h. omega (arith, p.each line h, q.each line h) }

pub must_stays : (shape : Shape) (lines : List ℕ) (x : Ages) (line : ℕ) → is_one_of lines line ≡ true → AreAges shape x
    → AreAges shape (must_accessed shape x line)
must_stays shape lines x line one w = record {
  each = λ other. must_range (eqb other line) (is_rival shape other line) shape.ways (x other) (x line) (w.each other) (w.each line);
}

pub must_keeps : (shape : Shape) (lines : List ℕ) (x y : Ages) (line : ℕ) → is_one_of lines line ≡ true → AreAges shape y
    → MustCoversAt lines x y → MustCoversAt lines (must_accessed shape x line) (must_accessed shape y line)
must_keeps shape lines x y line one w p = record {
  each = λ other h. must_order (eqb other line) (is_rival shape other line) (x other) (x line) (y other) (y line) (p.each other h) (p.each line one);
}

-- ---- may

may_order : (same rival : Bool) (ways xo xl yo yl : ℕ) → xo ≤ yo → xl ≤ yl → yo ≤ ways
    → cond same 0 (cond (rival && leb xo xl) (min (xo + 1) ways) xo) ≤ cond same 0 (cond (rival && leb yo yl) (min (yo + 1) ways) yo)
may_order true rival ways xo xl yo yl p q w = omega arith
may_order false false ways xo xl yo yl p q w = p
may_order false true ways xo xl yo yl p q w = elim (cases_lt yl yo) [
  | inl ly ↦ elim (cases_lt xl xo) [
    | inl lx ↦ rw (lt-leb yo yl ly, lt-leb xo xl lx) (omega arith)
    | inr gx ↦ rw (lt-leb yo yl ly, le-leb xo xl gx) (omega arith)
  ]
  | inr gy ↦ elim (cases_lt xl xo) [
    | inl lx ↦ rw (le-leb yo yl gy, lt-leb xo xl lx) (omega arith)
    | inr gx ↦ rw (le-leb yo yl gy, le-leb xo xl gx) (omega arith)
  ]
]

may_range : (same rival : Bool) (ways xo xl : ℕ) → xo ≤ ways → cond same 0 (cond (rival && leb xo xl) (min (xo + 1) ways) xo) ≤ ways
may_range true rival ways xo xl p = omega arith
may_range false false ways xo xl p = p
may_range false true ways xo xl p = elim (cases_lt xl xo) [
  | inl lx ↦ rw (lt-leb xo xl lx) (omega arith)
  | inr gx ↦ rw (le-leb xo xl gx) (omega arith)
]

pub may_same : (lines : List ℕ) (x : Ages) → MayCoversAt lines x x
may_same lines x = record { each = λ line h. omega arith }

pub may_joins : (lines : List ℕ) (x y z : Ages) → MayCoversAt lines x y → MayCoversAt lines y z → MayCoversAt lines x z
may_joins lines x y z p q = record { each = λ line h. omega (arith, p.each line h, q.each line h) }

pub may_stays : (shape : Shape) (lines : List ℕ) (x : Ages) (line : ℕ) → is_one_of lines line ≡ true → AreAges shape x
    → AreAges shape (may_accessed shape x line)
may_stays shape lines x line one w = record {
  each = λ other. may_range (eqb other line) (is_rival shape other line) shape.ways (x other) (x line) (w.each other);
}

pub may_keeps : (shape : Shape) (lines : List ℕ) (x y : Ages) (line : ℕ) → is_one_of lines line ≡ true → AreAges shape y
    → MayCoversAt lines x y → MayCoversAt lines (may_accessed shape x line) (may_accessed shape y line)
may_keeps shape lines x y line one w p = record {
  each = λ other h. may_order (eqb other line) (is_rival shape other line) shape.ways (x other) (x line) (y other) (y line) (p.each other h) (p.each line one) (w.each other);
}

-- ---- younger

known_order : (same kx ky : Bool) → (ky ≡ true → kx ≡ true) → (same || ky) ≡ true → (same || kx) ≡ true
known_order true kx ky p h = refl
known_order false kx ky p h = p h

held_order : (same kx ky hx hy r e : Bool) → (ky ≡ true → kx ≡ true) → (ky ≡ true → hy ≡ true → hx ≡ true) → (same || ky) ≡ true
    → cond same false (hy || (ky && r && e)) ≡ true → cond same false (hx || (kx && r && e)) ≡ true
held_order true kx ky hx hy r e p q k h = absurd (false≢true h)
held_order false kx ky hx true r e p q k h = rw (q k refl) refl
held_order false kx ky hx false r e p q k h = rw (p k) (or_right hx (r && e) (rw k at h))

held_parts : (same k hold r e : Bool) → cond same false (hold || (k && r && e)) ≡ true → (hold ≡ true) ⊎ ((k ≡ true) × (e ≡ true))
held_parts true k hold r e h = absurd (false≢true h)
held_parts false k true r e h = inl refl
held_parts false true false true true h = inr (refl, refl)
held_parts false true false true false h = absurd (false≢true h)
held_parts false true false false e h = absurd (false≢true h)
held_parts false false false r e h = absurd (false≢true h)

pub younger_same : (lines : List ℕ) (x : Younger) → YoungerCoversAt lines x x
younger_same lines x = record { known = λ line h k. k; held = λ line other h i k held. held }

pub younger_joins : (lines : List ℕ) (x y z : Younger) → YoungerCoversAt lines x y → YoungerCoversAt lines y z → YoungerCoversAt lines x z
younger_joins lines x y z p q = record {
  known = λ line h k. p.known line h (q.known line h k);
  held = λ line other h i k held. p.held line other h i (q.known line h k) (q.held line other h i k held);
}

pub younger_stays : (shape : Shape) (lines : List ℕ) (x : Younger) (line : ℕ) → is_one_of lines line ≡ true → IsOfLines lines x
    → IsOfLines lines (younger_accessed shape x line)
younger_stays shape lines x line one w = record {
  known = λ other k. elim (cases_Bool (eqb other line)) [
    | inl e ↦ subst (λ (n : ℕ). is_one_of lines n ≡ true) (sym (eqb-true other line e)) one
    | inr e ↦ w.known other (rw e at k)
  ];
  held = λ other newer h. elim (held_parts (eqb other line) (x.known other) (x.held other newer) (is_rival shape other line) (eqb newer line) h) [
    | inl held ↦ w.held other newer held
    | inr p ↦ (w.known other p.0, subst (λ (n : ℕ). is_one_of lines n ≡ true) (sym (eqb-true newer line p.1)) one)
  ];
  only = λ other newer h. or_right (eqb other line) (x.known other)
      (elim (held_parts (eqb other line) (x.known other) (x.held other newer) (is_rival shape other line) (eqb newer line) h) [
        | inl held ↦ w.only other newer held
        | inr p ↦ p.0
      ]);
}

pub younger_keeps_order : (shape : Shape) (lines : List ℕ) (x y : Younger) (line : ℕ) → YoungerCoversAt lines x y
    → YoungerCoversAt lines (younger_accessed shape x line) (younger_accessed shape y line)
younger_keeps_order shape lines x y line p = record {
  known = λ other h k. known_order (eqb other line) (x.known other) (y.known other) (p.known other h) k;
  held = λ other newer h i k held.
      held_order (eqb other line) (x.known other) (y.known other) (x.held other newer) (y.held other newer) (is_rival shape other line) (eqb newer line)
      (p.known other h) (p.held other newer h i) k held;
}

pub younger_keeps : (shape : Shape) (lines : List ℕ) (x y : Younger) (line : ℕ) → is_one_of lines line ≡ true → IsOfLines lines y
    → YoungerCoversAt lines x y → YoungerCoversAt lines (younger_accessed shape x line) (younger_accessed shape y line)
younger_keeps shape lines x y line one w p = younger_keeps_order shape lines x y line p
