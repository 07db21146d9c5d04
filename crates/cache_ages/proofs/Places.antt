-- Where lines stand in a set's list before and after an access.
use Rattle.std.proofs.Common.{◌≡◌, ℕ, zero, suc, ◌+◌, ◌<◌, ◌≤◌, true, false, not, List, [], ◌∷◌, take, Some, ◌⊎◌, inl, inr, refl, sym, ap, subst, ◌∙◌, arith, eqb}
use Rattle.std.proofs.lemmas.Bool.{cases_Bool, eq-eqb, eqb-true, eqb-false, ne_eqb, or_left, or_right, or_cases, false≢true}
use Rattle.std.proofs.lemmas.Option.{none-some, same_Some}
use Rattle.std.proofs.lemmas.Map.Keys.{IsDistinct-head, IsDistinct-tail}
use Rattle.std.specs.Cmp.{nat_eq_equiv}
use Rattle.std.specs.List.{AllByRecursion, list_any, filter, slice_get, IsDistinct}
use Rattle.wx_base.specs.Cache.{touched}

-- the lines of a list but one
abbrev pub without : ℕ → List ℕ → List ℕ
without line xs = filter (λ other. not (eqb other line)) xs

-- a line that is none of the list is not missing from it
pub without-apart : (xs : List ℕ) (line : ℕ) → AllByRecursion (λ y. eqb line y ≡ false) xs → without line xs ≡ xs
without-apart [] line h = refl
without-apart (x ∷ xs) line h =
    let e : eqb x line ≡ false = nat_eq_equiv.symm x line ∙ h.0 in
    rw e (ap (λ rest. x ∷ rest) (without-apart xs line h.1))

-- another line's place without the line: no later, and earlier if the line stood before it
pub place_without : (xs : List ℕ) (line other p : ℕ) → (other ≡ line → ⊥) → slice_get xs p ≡ Some other
    → (q : ℕ) × (q ≤ p) × (slice_get (without line xs) q ≡ Some other) × ((i : ℕ) → i < p → slice_get xs i ≡ Some line → q < p)
place_without [] line other p ne at = absurd (none-some other at)
place_without (x ∷ xs) line other zero ne at =
    let e : x ≡ other = same_Some x other at in
    let apart : eqb x line ≡ false = ne_eqb x line (λ same. ne (sym e ∙ same)) in
    (0, omega arith, rw apart at, λ i h _. absurd (omega arith))
place_without (x ∷ xs) line other (suc p) ne at =
    let before = place_without xs line other p ne at in
    elim (cases_Bool (eqb x line)) [
      | inl e ↦ (before.0, omega (arith, before.1), rw e (before.2), λ i h _. omega (arith, before.1))
      | inr e ↦ (suc before.0, omega (arith, before.1), rw e (before.2), later (eqb-false x line e) before.3)
    ]
  where
    later : {q : ℕ} → (x ≡ line → ⊥) → ((i : ℕ) → i < p → slice_get xs i ≡ Some line → q < p) → (i : ℕ) → i < suc p → slice_get (x ∷ xs) i ≡ Some line → suc q < suc p
    later apart h zero below at = absurd (apart (same_Some x line at))
    later apart h (suc i) below at = omega (arith, h i (omega arith) at)

-- the place with the line of one that stands at a place without it
pub place_with : (xs : List ℕ) (line other r : ℕ) → IsDistinct eqb xs → slice_get (without line xs) r ≡ Some other
    → (p : ℕ) × (slice_get xs p ≡ Some other) × (p ≤ r + 1) × ((p ≡ r) ⊎ ((i : ℕ) × (i < p) × (slice_get xs i ≡ Some line)))
place_with [] line other r d at = absurd (none-some other at)
place_with (x ∷ xs) line other r d at =
    elim (cases_Bool (eqb x line)) [
      | inl e ↦
          let same : x ≡ line = eqb-true x line e in
          let P : ℕ → Type 0 = λ y. AllByRecursion (λ z. eqb y z ≡ false) xs in
          let rest : without line xs ≡ xs = without-apart xs line (subst P same (IsDistinct-head eqb x xs d)) in
          let there : slice_get (without line xs) r ≡ Some other = rw e at at in
          let there : slice_get xs r ≡ Some other = rw rest at there in
          (suc r, there, omega arith, inr (0, omega arith, ap Some same))
      | inr e ↦ behind (λ r at. place_with xs line other r (IsDistinct-tail eqb x xs d) at) r (rw e at at)
    ]
  where
    behind : ((r : ℕ) → slice_get (without line xs) r ≡ Some other
        → (p : ℕ) × (slice_get xs p ≡ Some other) × (p ≤ r + 1) × ((p ≡ r) ⊎ ((i : ℕ) × (i < p) × (slice_get xs i ≡ Some line))))
        → (r : ℕ) → slice_get (x ∷ without line xs) r ≡ Some other
        → (p : ℕ) × (slice_get (x ∷ xs) p ≡ Some other) × (p ≤ r + 1) × ((p ≡ r) ⊎ ((i : ℕ) × (i < p) × (slice_get (x ∷ xs) i ≡ Some line)))
    behind rest zero at = (0, at, omega arith, inl refl)
    behind rest (suc r) at =
        let before = rest r at in (
          suc before.0,
          before.1,
          omega (arith, before.2),
          elim before.3 [
            | inl e ↦ inl (ap suc e)
            | inr i ↦ inr (suc i.0, omega (arith, i.1), i.2)
          ],
        )

pub slice_get-take : (n : ℕ) (xs : List ℕ) (i : ℕ) → i < n → slice_get (take n xs) i ≡ slice_get xs i
slice_get-take zero xs i h = absurd (omega arith)
slice_get-take (suc n) [] i h = refl
slice_get-take (suc n) (x ∷ xs) zero h = refl
slice_get-take (suc n) (x ∷ xs) (suc i) h = slice_get-take n xs i (omega arith)

pub within_take : (n : ℕ) (xs : List ℕ) (i x : ℕ) → slice_get (take n xs) i ≡ Some x → (i < n) × (slice_get xs i ≡ Some x)
within_take zero xs i x h = absurd (none-some x h)
within_take (suc n) [] i x h = absurd (none-some x h)
within_take (suc n) (y ∷ xs) zero x h = (omega arith, h)
within_take (suc n) (y ∷ xs) (suc i) x h = let w = within_take n xs i x h in (omega (arith, w.0), w.1)

-- a line at a place is in the list
pub any_at : (xs : List ℕ) (p line : ℕ) → slice_get xs p ≡ Some line → list_any (λ other. eqb other line) xs ≡ true
any_at [] p line h = absurd (none-some line h)
any_at (x ∷ xs) zero line h = or_left (eqb x line) (list_any (λ other. eqb other line) xs) (eq-eqb x line (same_Some x line h))
any_at (x ∷ xs) (suc p) line h = or_right (eqb x line) (list_any (λ other. eqb other line) xs) (any_at xs p line h)

-- a line of the list has a place
pub place_of : (xs : List ℕ) (line : ℕ) → list_any (λ other. eqb other line) xs ≡ true → (p : ℕ) × (slice_get xs p ≡ Some line)
place_of [] line h = absurd (false≢true h)
place_of (x ∷ xs) line h = elim (or_cases (eqb x line) (list_any (λ other. eqb other line) xs) h) [
  | inl e ↦ (0, ap Some (eqb-true x line e))
  | inr rest ↦ let p = place_of xs line rest in (suc p.0, p.1)
]

-- the accessed line comes first
pub first_of : (ways line : ℕ) (xs : List ℕ) → 0 < ways → slice_get (touched ways xs line) 0 ≡ Some line
first_of zero line xs h = absurd (omega arith)
first_of (suc w) line xs h = refl

-- what stood without the line stands one place later
pub later_of : (ways line other q : ℕ) (xs : List ℕ) → suc q < ways → slice_get (without line xs) q ≡ Some other → slice_get (touched ways xs line) (suc q) ≡ Some other
later_of ways line other q xs h at = slice_get-take ways (line ∷ without line xs) (suc q) h ∙ at
