-- Cases by a test, and the places of numbers in a list.
use Rattle.std.proofs.Common.{◌≡◌, ℕ, zero, suc, ◌+◌, ◌<◌, ◌||◌, Bool, true, false, List, [], ◌∷◌, length, get_or, refl, sym, ap, ◌∙◌, inl, inr, arith}
use Rattle.std.specs.Prelude.{IsTrue, nat_eq}
use Rattle.std.specs.List.{list_any}
use Rattle.std.proofs.lemmas.Bool.{cases_eq, eqb-true, eq-eqb, false≢true}
use Rattle.std.proofs.lemmas.List.Folds.{list_any_at}
use Rattle.path_graph.specs.Graph.{has}

pub by_test : {P : Type 0} (b : Bool) → (b ≡ true → P) → (b ≡ false → P) → P
by_test true f g = f refl
by_test false f g = g refl

pub by_same : {P : Type 0} (a b : ℕ) → (a ≡ b → P) → ((a ≡ b → ⊥) → P) → P
by_same a b f g = elim (cases_eq a b) [ inl e ↦ f e | inr n ↦ g n ]

-- a number in a list has a place there, and what stands at a place is in it
pub has_at : (xs : List ℕ) (i : ℕ) → i < length xs → IsTrue (has xs (get_or xs i 0))
has_at xs i h = list_any_at (λ m. nat_eq m (get_or xs i 0)) xs i 0 h (eq-eqb (get_or xs i 0) (get_or xs i 0) refl)

pub place_in : (xs : List ℕ) (v : ℕ) → IsTrue (has xs v) → (i : ℕ) × (i < length xs) × (get_or xs i 0 ≡ v)
place_in [] v h = absurd (false≢true h)
place_in (x ∷ xs) v h = by_test (nat_eq x v)
    (λ e. (0, omega arith, eqb-true x v e))
    (λ e.
    let rest : has xs v ≡ true = sym (ap (λ b. b || has xs v) e) ∙ h in
    let r = place_in xs v rest in
    let b = r.1 in
    (suc r.0, omega arith, r.2))
