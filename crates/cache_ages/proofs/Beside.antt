-- What stands beside a line, by the line's place.
use Rattle.std.proofs.Common.{◌≡◌, ℕ, zero, suc, ◌+◌, ◌<◌, ◌≤◌, Bool, true, false, cond, ◌&&◌, List, [], ◌∷◌, length, get_or, min, inl, inr, refl, sym, ap, subst, ◌∙◌, arith, eqb, ltb, leb}
use Rattle.std.proofs.lemmas.Bool.{cases_Bool, cases_lt, eq-eqb, eqb-true, ne_eqb, or_parts, or_left, le-ltb, lt-ltb, le-leb, lt-leb, true≢false, false≢true}
use Rattle.std.proofs.lemmas.List.Elements.{All-head, All-tail}
use Rattle.std.specs.List.{All}
use Rattle.wx_base.specs.declared.machine.Shape.{Shape}
use Rattle.wx_base.specs.Facts.{AreAscending}
use Rattle.wx_base.specs.CacheStates.{is_rival}
use Rattle.cache_ages.specs.Bounds.{beside, is_one_of, aged_as}

module _ {X : Type 0} (outside : X) where
  -- a line that is not listed
  pub beside_absent : (lines : List ℕ) (values : List X) (line : ℕ) → is_one_of lines line ≡ false → beside outside lines values line ≡ outside
  beside_absent [] values line h = refl
  beside_absent (x ∷ lines) [] line h = refl
  beside_absent (x ∷ lines) (value ∷ values) line h =
      let p = or_parts (eqb x line) (is_one_of lines line) h in
      rw p.0 (beside_absent lines values line p.1)

  -- a line at a place, where no line stands twice
  pub beside_at : (lines : List ℕ) (values : List X) (i line : ℕ) → AreAscending lines → i < length lines → get_or lines i 0 ≡ line → length values ≡ length lines
      → beside outside lines values line ≡ get_or values i outside
  beside_at [] values i line a h e same = absurd (omega arith)
  beside_at (x ∷ lines) [] i line a h e same = absurd (omega arith)
  beside_at (x ∷ lines) (value ∷ values) zero line a h e same = rw (eq-eqb x line e) refl
  beside_at (x ∷ lines) (value ∷ values) (suc i) line a h e same =
      let apart : eqb x line ≡ false = ne_eqb x line (λ is. omega (arith, a 0 (suc i) 0 (omega arith) h)) in
      rw apart (beside_at lines values i line (λ i j d lt in'. a (suc i) (suc j) d (omega arith) (omega arith)) (omega arith) e (omega arith))

  -- what holds of each value and of the one outside holds of the one beside a line
  pub beside_each : (P : X → Type 0) (lines : List ℕ) (values : List X) (line : ℕ) → P outside → All P values → P (beside outside lines values line)
  beside_each P [] values line out all = out
  beside_each P (x ∷ lines) [] line out all = out
  beside_each P (x ∷ lines) (value ∷ values) line out all =
      elim (eqb x line) as (λ b. P (cond b value (beside outside lines values line))) [
        | true ↦ All-head P value values all
        | false ↦ beside_each P lines values line out (All-tail P value values all)
      ]

-- what holds of a line and of the values beside it in three lists, told by places
pub beside_listed : {X Y Z : Type 0} (R : ℕ → X → Y → Z → Type 0) (x : X) (y : Y) (z : Z) (lines : List ℕ) (xs : List X) (ys : List Y) (zs : List Z)
    → length xs ≡ length lines → length ys ≡ length lines → length zs ≡ length lines
    → ((k : ℕ) → k < length lines → R (get_or lines k 0) (get_or xs k x) (get_or ys k y) (get_or zs k z))
    → (line : ℕ) → is_one_of lines line ≡ true → R line (beside x lines xs line) (beside y lines ys line) (beside z lines zs line)
beside_listed R x y z [] xs ys zs a b c each line h = absurd (false≢true h)
beside_listed R x y z (n ∷ lines) [] ys zs a b c each line h = absurd (omega arith)
beside_listed R x y z (n ∷ lines) (u ∷ xs) [] zs a b c each line h = absurd (omega arith)
beside_listed R x y z (n ∷ lines) (u ∷ xs) (v ∷ ys) [] a b c each line h = absurd (omega arith)
beside_listed R x y z (n ∷ lines) (u ∷ xs) (v ∷ ys) (w ∷ zs) a b c each line h = elim (cases_Bool (eqb n line)) [
  | inl e ↦ rw e (subst (λ (m : ℕ). R m u v w) (eqb-true n line e) (each 0 (omega arith)))
  | inr e ↦ rw e (beside_listed R x y z lines xs ys zs (omega arith) (omega arith) (omega arith) (λ k lt. each (suc k) (omega arith)) line (rw e at h))
]

-- a line at a place is one of the list
pub one_at : (lines : List ℕ) (i line : ℕ) → i < length lines → get_or lines i 0 ≡ line → is_one_of lines line ≡ true
one_at [] i line h e = absurd (omega arith)
one_at (x ∷ lines) zero line h e = or_left (eqb x line) (is_one_of lines line) (eq-eqb x line e)
one_at (x ∷ lines) (suc i) line h e = elim (cases_Bool (eqb x line)) [
  | inl is ↦ or_left (eqb x line) (is_one_of lines line) is
  | inr other ↦ rw other (one_at lines i line (omega arith) e)
]

-- no line of the list is the line
pub none_at : (lines : List ℕ) (line : ℕ) → ((i : ℕ) → i < length lines → get_or lines i 0 ≡ line → ⊥) → is_one_of lines line ≡ false
none_at [] line h = refl
none_at (x ∷ lines) line h = rw (ne_eqb x line (h 0 (omega arith))) (none_at lines line (λ i lt. h (suc i) (omega arith)))

-- one of two lines is of the list alone
pub apart_from : (lines : List ℕ) (line other : ℕ) → is_one_of lines line ≡ true → is_one_of lines other ≡ false → eqb other line ≡ false
apart_from lines line other one none = ne_eqb other line (λ same. true≢false (sym one ∙ ap (is_one_of lines) (sym same) ∙ none))

-- an age after an access is no greater than the number of ways
pub aged_within : (shape : Shape) (line below other age ways : ℕ) → below ≤ ways → age ≤ ways → aged_as shape line below other age ≤ ways
aged_within shape line below other age ways b a = first (eqb other line) (is_rival shape other line)
  where
    first : (same rival : Bool) → cond same 0 (cond (rival && ltb age below) (age + 1) age) ≤ ways
    first true rival = omega arith
    first false false = a
    first false true = elim (cases_lt age below) [
      | inl lt ↦ rw (lt-ltb age below lt) (omega arith)
      | inr le ↦ rw (le-ltb age below le) a
    ]

-- in a may state: one more, but no more than the number of ways, is to be below the lesser of the two
pub aged_may : (shape : Shape) (line bound other age ways : ℕ) → age ≤ ways
    → aged_as shape line (min (bound + 1) ways) other age
    ≡ cond (eqb other line) 0 (cond (is_rival shape other line && leb age bound) (min (age + 1) ways) age)
aged_may shape line bound other age ways h =
    ap (λ n. cond {A = ℕ} (eqb other line) 0 n) (inner (is_rival shape other line))
  where
    inner : (r : Bool) → cond (r && ltb age (min (bound + 1) ways)) (age + 1) age ≡ cond (r && leb age bound) (min (age + 1) ways) age
    inner false = refl
    inner true = elim (cases_lt bound age) [
      | inl lt ↦ rw (lt-leb age bound lt, le-ltb age (min (bound + 1) ways) (omega arith)) refl
      | inr le ↦ elim (cases_lt age ways) [
        | inl below ↦ rw (le-leb age bound le, lt-ltb age (min (bound + 1) ways) (omega arith)) (omega arith)
        | inr full ↦ rw (le-leb age bound le, le-ltb age (min (bound + 1) ways) (omega arith)) (omega arith)
      ]
    ]
