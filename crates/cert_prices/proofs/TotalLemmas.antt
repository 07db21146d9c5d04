-- Totals at an address, how many there may be, and the price of the loop at the start.
use Rattle.std.proofs.Common.{◌≡◌, ℕ, zero, suc, ◌+◌, ◌<◌, ◌≤◌, List, [], ◌∷◌, ◌++◌, length, take, get_or, slice_get, Option, Some, None, refl, sym, ap, subst, ◌∙◌, arith, cond, eqb, inl, inr, slice_index}
use Rattle.std.specs.List.{AllPairs, filter_map, cons_option}
use Rattle.std.proofs.lemmas.Bool.{cases_lt, ne_eqb, eq-eqb}
use Rattle.std.proofs.lemmas.List.{take_more}
use Rattle.std.proofs.lemmas.Option.{get_or_from_slice_get, slice_get_within}
use Rattle.flow_ctx.specs.declared.unfolded.ULoop.{ULoop}
use Rattle.cert_rules.specs.Prices.{sum_places}
use Rattle.cert_prices.specs.Sums.{noted}
use Rattle.cert_prices.proofs.SumLemmas.{sum_places-none, sum_places-one}

module _ {A : Type 0} (f : A → Option ℕ) where
  first_of : (o : Option ℕ) (rest : List ℕ) → slice_get (cons_option o rest) 0 ≡ noted o (slice_get rest 0)
  first_of None rest = refl
  first_of (Some n) rest = refl

  noted_again : (o p q : Option ℕ) → noted o (noted p q) ≡ noted (noted o p) q
  noted_again None p q = refl
  noted_again (Some n) p q = refl

  noted_none : (o : Option ℕ) → noted o None ≡ noted None o
  noted_none None = refl
  noted_none (Some n) = refl

  last_noted : (xs : List A) (x : A) → slice_get (filter_map f (xs ++ x ∷ [])) 0 ≡ noted (slice_get (filter_map f xs) 0) (f x)
  last_noted [] x = first_of (f x) [] ∙ noted_none (f x)
  last_noted (y ∷ xs) x =
      first_of (f y) (filter_map f (xs ++ x ∷ [])) ∙ ap (noted (f y)) (last_noted xs x)
      ∙ noted_again (f y) (slice_get (filter_map f xs) 0) (f x)
      ∙ ap (λ o. noted o (f x)) (sym (first_of (f y) (filter_map f xs)))

  -- what is noted of one element more
  pub noted_more : (xs : List A) (i : ℕ) (d : A) → i < length xs
      → slice_get (filter_map f (take (i + 1) xs)) 0 ≡ noted (slice_get (filter_map f (take i xs)) 0) (f (get_or xs i d))
  noted_more xs i d h = ap (λ ys. slice_get (filter_map f ys) 0) (take_more xs i d h) ∙ last_noted (take i xs) (get_or xs i d)

-- ascending numbers are at least their places
pub at_least : (xs : List ℕ) → AllPairs (λ a b. a < b) xs → (k d : ℕ) → k < length xs → k ≤ get_or xs k d
at_least xs up zero d h = omega arith
at_least xs up (suc k) d h =
    let before = at_least xs up k d (omega (arith, h)) in
    let less = up k (suc k) d (omega arith) h in
    omega (arith, before, less)

-- the price at the start is that of the loop with this head
pub start_there : (loops : List ULoop) (prices : List ℕ) (start i : ℕ) (l : ULoop) → AllPairs (λ l m. l.head < m.head) loops
    → slice_get loops i ≡ Some l → l.head ≡ start → sum_places (λ number l. cond (eqb l.head start) (slice_index prices number) 0) 0 loops ≡ slice_index prices i
start_there loops prices start i l up at is =
    sum_places-one (λ number l. cond (eqb l.head start) (slice_index prices number) 0) 0 loops i l at
    (λ k m e other. ap (λ b. cond b (slice_index prices (0 + k)) 0) (ne_eqb m.head start (λ same. other (one_place k m e same))))
    ∙ ap (λ b. cond b (slice_index prices (0 + i)) 0) (eq-eqb l.head start is)
    ∙ ap (slice_index prices) (omega arith)
  where
    heads : (a b : ℕ) (y z : ULoop) → slice_get loops a ≡ Some y → slice_get loops b ≡ Some z → a < b → y.head < z.head
    heads a b y z ea eb h =
        subst (λ (w : ULoop). w.head < z.head) (get_or_from_slice_get loops a y y ea)
        (subst (λ (w : ULoop). (get_or loops a y).head < w.head) (get_or_from_slice_get loops b z y eb) (up a b y h (slice_get_within loops b z eb)))

    one_place : (k : ℕ) (m : ULoop) → slice_get loops k ≡ Some m → m.head ≡ start → k ≡ i
    one_place k m e same = elim (cases_lt k i) [
      | inl h ↦ let less = heads k i m l e at h in absurd (omega (arith, less, same, is))
      | inr g ↦ elim (cases_lt i k) [
        | inl h ↦ let less = heads i k l m at e h in absurd (omega (arith, less, same, is))
        | inr h ↦ omega (arith, g, h)
      ]
    ]

-- where no loop has the head there is none
pub start_nowhere : (loops : List ULoop) (prices : List ℕ) (start : ℕ) → ((k : ℕ) (l : ULoop) → slice_get loops k ≡ Some l → l.head ≡ start → ⊥)
    → sum_places (λ number l. cond (eqb l.head start) (slice_index prices number) 0) 0 loops ≡ 0
start_nowhere loops prices start none = sum_places-none (λ number l. cond (eqb l.head start) (slice_index prices number) 0) 0 loops
    (λ k m e. ap (λ b. cond b (slice_index prices (0 + k)) 0) (ne_eqb m.head start (none k m e)))
