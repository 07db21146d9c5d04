-- How often a walk takes edges of a list, and what the edges of a walk are worth by such lists.
use Rattle.std.proofs.Common.{◌≡◌, ℕ, ◌+◌, ◌*◌, cond, List, [], ◌∷◌, sym, arith}
use Rattle.wx_base.specs.Monitor.{is_one_of}
use Rattle.cert_rules.specs.Prices.{sum_places}
use Rattle.bound_laws.proofs.Sums.{bit, paid_if, sum_of, places_same, places_zero, places_add}

-- how many edges of a walk are among some
abbrev pub taken_of : List ℕ → List ℕ → ℕ
taken_of edges [] = 0
taken_of edges (e ∷ walk) = bit (is_one_of edges e) + taken_of edges walk

module _ {A : Type 0} (price : ℕ → A → ℕ) (edges : A → List ℕ) where
  -- what an edge is worth: the prices of those that list it
  abbrev pub worth_of : ℕ → ℕ → List A → ℕ
  worth_of e n xs = sum_places (λ i x. cond (is_one_of (edges x) e) (price i x) 0) n xs

  -- added up along a walk it is the price of each, as often as the walk takes its edges
  pub worth_along : (n : ℕ) (xs : List A) (walk : List ℕ) → sum_of (λ e. worth_of e n xs) walk ≡ sum_places (λ i x. price i x * taken_of (edges x) walk) n xs
  worth_along n xs [] = sym (places_zero (λ i x. price i x * 0) n xs (λ i x. omega arith))
  worth_along n xs (e ∷ walk) =
      let rest = worth_along n xs walk in
      let one = places_same (λ i x. cond (is_one_of (edges x) e) (price i x) 0) (λ i x. price i x * bit (is_one_of (edges x) e)) n xs (λ i x. paid_if (is_one_of (edges x) e) (price i x)) in
      let both = places_add (λ i x. price i x * bit (is_one_of (edges x) e)) (λ i x. price i x * taken_of (edges x) walk) n xs in
      let split = places_same (λ i x. price i x * (bit (is_one_of (edges x) e) + taken_of (edges x) walk)) (λ i x. price i x * bit (is_one_of (edges x) e) + price i x * taken_of (edges x) walk) n xs (λ i x. omega arith) in
      omega arith
