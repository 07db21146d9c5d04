-- What back edges give back for totals is within what the totals are worth.
use Rattle.std.proofs.Common.{◌≡◌, ℕ, ◌+◌, ◌*◌, ◌≤◌, ◌==◌, ◌&&◌, Bool, true, false, cond, List, [], ◌∷◌, slice_index, sym, ap, ◌∙◌, arith, mul-le-mul_left}
use Rattle.std.specs.Prelude.{is_some}
use Rattle.flow_ctx.specs.declared.unfolded.ULoop.{ULoop}
use Rattle.flow_ctx.specs.declared.unfolded.Unfolded.{Unfolded}
use Rattle.cert_text.specs.declared.certificate.TotalPrice.{TotalPrice}
use Rattle.cert_rules.specs.Prices.{head_address, sum_places, total_price, total_worth, totalcounts_at}
use Rattle.bound_laws.proofs.Sums.{bit, paid_if, sum_of, as_sum, places_add, places_same, places_times, places_zero}
use Rattle.bound_laws.proofs.Walks.{taken_of}
use Rattle.bound_laws.proofs.Misses.{tests_agree}

module _ (u : Unfolded) (walk : List ℕ) where
  -- whether a loop has a total and its head at an address
  abbrev there : ℕ → ULoop → Bool
  there address l = is_some l.totalcount && (head_address u l == address)

  -- the price of a loop's total, for each of its back edges that a walk takes
  abbrev pub total_paid : List TotalPrice → ULoop → ℕ
  total_paid totals l = cond (is_some l.totalcount) (total_price totals (head_address u l)) 0 * taken_of l.back walk

  abbrev one_paid : TotalPrice → ULoop → ℕ
  one_paid t l = t.amount * (bit (there t.address l) * taken_of l.back walk)

  first_paid : (some : Bool) (t : TotalPrice) (h rest n : ℕ)
      → cond some (cond (t.address == h) t.amount 0 + rest) 0 * n ≡ t.amount * (bit (some && (h == t.address)) * n) + cond some rest 0 * n
  unfolding bit
  first_paid true t h rest n =
      let test = ap (λ b. cond b t.amount 0) (tests_agree t.address h) in
      let paid = paid_if (h == t.address) t.amount in
      let sum : cond (t.address == h) t.amount 0 ≡ t.amount * bit (h == t.address) = test ∙ paid in
      let product = ap (λ k. k * n) sum in
      omega (arith, product)
  first_paid false t h rest n = omega arith

  one_more : (t : TotalPrice) (totals : List TotalPrice) (l : ULoop) → total_paid (t ∷ totals) l ≡ one_paid t l + total_paid totals l
  one_more t totals l =
      let h = head_address u l in
      let whole = as_sum (λ (s : TotalPrice). cond (s.address == h) s.amount 0) (t ∷ totals) in
      let rest = as_sum (λ (s : TotalPrice). cond (s.address == h) s.amount 0) totals in
      ap (λ k. cond (is_some l.totalcount) k 0 * taken_of l.back walk) (whole ∙ ap (λ k. cond (t.address == h) t.amount 0 + k) (sym rest))
      ∙ first_paid (is_some l.totalcount) t h (total_price totals h) (taken_of l.back walk)

  nothing_paid : (l : ULoop) → total_paid [] l ≡ 0
  nothing_paid l = by (is_some l.totalcount)
    where
      by : (b : Bool) → cond b 0 0 * taken_of l.back walk ≡ 0
      by true = omega arith
      by false = omega arith

  module _ (within : (address : ℕ) → sum_places (λ i l. bit (there address l) * taken_of l.back walk) 0 u.loops ≤ slice_index (totalcounts_at u address) 0) where
    pub totals_are_paid : (totals : List TotalPrice) → sum_places (λ i l. total_paid totals l) 0 u.loops ≤ sum_of (λ t. total_worth u t) totals
    totals_are_paid [] = let z = places_zero (λ i l. total_paid [] l) 0 u.loops (λ i l. nothing_paid l) in omega arith
    totals_are_paid (t ∷ totals) =
        let rest = totals_are_paid totals in
        let split = places_same (λ i l. total_paid (t ∷ totals) l) (λ i l. one_paid t l + total_paid totals l) 0 u.loops (λ i l. one_more t totals l) in
        let both = places_add (λ i l. one_paid t l) (λ i l. total_paid totals l) 0 u.loops in
        let times = places_times t.amount (λ i l. bit (there t.address l) * taken_of l.back walk) 0 u.loops in
        let bound = mul-le-mul_left t.amount (within t.address) in
        omega (arith, rest, split, both, times, bound)
