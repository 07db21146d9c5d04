-- Lists that grow by the value of one element more.
use Rattle.std.proofs.Common.{◌≡◌, ℕ, zero, suc, ◌+◌, ◌<◌, List, [], ◌∷◌, ◌++◌, length, take, slice_get, Some, refl, sym, ap, subst, ◌∙◌, arith, inl, inr, slice_index}
use Rattle.std.proofs.lemmas.Bool.{cases_lt}
use Rattle.std.proofs.lemmas.Option.{same_Some}

front_of : {A : Type 0} (xs : List A) (i k : ℕ) (x : A) → slice_get xs k ≡ Some x → k < i → slice_get (take i xs) k ≡ Some x
front_of xs zero k x e h = absurd (omega (arith, h))
front_of [] (suc i) k x e h = e
front_of (y ∷ xs) (suc i) zero x e h = e
front_of (y ∷ xs) (suc i) (suc k) x e h = front_of xs i k x e (omega (arith, h))

before_push : (xs : List ℕ) (v k : ℕ) → k < length xs → slice_index (xs ++ v ∷ []) k ≡ slice_index xs k
before_push [] v k h = absurd (omega (arith, h))
before_push (x ∷ xs) v zero h = refl
before_push (x ∷ xs) v (suc k) h = before_push xs v k (omega (arith, h))

at_push : (xs : List ℕ) (v : ℕ) → slice_index (xs ++ v ∷ []) (length xs) ≡ v
at_push [] v = refl
at_push (x ∷ xs) v = at_push xs v

length_push : (values : List ℕ) (v : ℕ) → length (values ++ v ∷ []) ≡ length values + 1
length_push [] v = refl
length_push (x ∷ values) v = let e = length_push values v in omega (arith, e)

-- each of the first values is that of its element
pub record FirstOf {A : Type 0} (IsOf : ℕ → A → ℕ → Type 0) (xs : List A) (i : ℕ) (values : List ℕ) : Type 0 where
  pub long : length values ≡ i
  pub each : (k : ℕ) (x : A) → slice_get xs k ≡ Some x → k < i → IsOf k x (slice_index values k)

module _ {A : Type 0} (IsOf : ℕ → A → ℕ → Type 0) (xs : List A) where
  -- none
  pub none_of : FirstOf IsOf xs 0 []
  none_of = record { long = refl; each = λ k x at h. absurd (omega (arith, h)) }

  -- one more
  pub one_of : (i : ℕ) (x : A) (v : ℕ) (values new : List ℕ) → slice_get xs i ≡ Some x → IsOf i x v → FirstOf IsOf xs i values → new ≡ values ++ v ∷ []
      → FirstOf IsOf xs (i + 1) new
  one_of i x v values new at is were made = subst (FirstOf IsOf xs (i + 1)) (sym made) (record {
    long = let e = length_push values v in let n = were.long in omega (arith, e, n);
    each = λ k y there less. elim (cases_lt k i) [
      | inl before ↦
          let within : k < length values = subst (λ n. k < n) (sym were.long) before in
          subst (IsOf k y) (sym (before_push values v k within)) (were.each k y there before)
      | inr behind ↦
          let same : i ≡ k = omega (arith, less, behind) in
          let one : x ≡ y = same_Some x y (sym at ∙ ap (slice_get xs) same ∙ there) in
          let place : k ≡ length values = sym same ∙ sym were.long in
          let last : slice_index (values ++ v ∷ []) k ≡ v = ap (slice_index (values ++ v ∷ [])) place ∙ at_push values v in
          subst (IsOf k y) (sym last) (subst (λ (z : A). IsOf k z v) one (subst (λ n. IsOf n x v) same is))
    ];
  })
