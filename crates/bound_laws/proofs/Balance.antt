-- The balance of a run: what the loops give back is within what they cost at their entries, at the start and for totals.
use Rattle.std.proofs.Common.{◌≡◌, ℕ, ◌+◌, ◌*◌, ◌≤◌, ◌==◌, ◌&&◌, cond, List, slice_get, slice_index, sym, ap, ◌∙◌, arith, mul-le-mul_left}
use Rattle.std.specs.Prelude.{Some, is_some}
use Rattle.flow_ctx.specs.declared.scope.Scope.TheVariants.{Run, Loop}
use Rattle.flow_ctx.specs.declared.unfolded.ULoop.{ULoop}
use Rattle.flow_ctx.specs.declared.unfolded.Unfolded.{Unfolded}
use Rattle.cert_text.specs.declared.certificate.Certificate.{Certificate}
use Rattle.cert_rules.specs.Prices.{back_price, charges_in, entering, entry_price, head_address, paid_at_start, returning, sum_places, total_price, total_worth, totalcounts_at}
use Rattle.bound_laws.proofs.Sums.{all_places, as_sum, bit, paid_if, places_add, places_le, places_same, sum_of}
use Rattle.bound_laws.proofs.Walks.{taken_of, worth_along}
use Rattle.bound_laws.proofs.Misses.{tests_agree}
use Rattle.bound_laws.proofs.Prices.{total_paid, totals_are_paid}
use Rattle.bound_laws.proofs.Stays.{begun_of}

-- what comes in for a loop and what goes out for it, over plain numbers: charges and a multiplier, back edges at most `most` in a stay,
-- entries, and 1 where the start begins a stay
both_sides : (charges multiplier most entries start : ℕ)
    → charges * (entries + start) + multiplier * (most * (entries + start))
    ≡ (charges + most * multiplier) * entries + (charges + most * multiplier) * start
both_sides charges multiplier most entries start = omega arith

module _ (u : Unfolded) (c : Certificate) (walk : List ℕ) where
  charge : ℕ → ULoop → ℕ
  charge number l = charges_in c.charges (Loop number) * begun_of u l walk

  multiplied : ℕ → ULoop → ℕ
  multiplied number l = slice_index c.multipliers number * taken_of l.back walk

  whole : ℕ → ULoop → ℕ
  whole number l = slice_index c.multipliers number * (l.maxcount * begun_of u l walk)

  entered : ℕ → ULoop → ℕ
  entered number l = entry_price c number l * taken_of l.entries walk

  started : ℕ → ULoop → ℕ
  started number l = entry_price c number l * bit (u.start == l.head)

  enters : sum_of (entering c u) walk ≡ sum_places entered 0 u.loops
  unfolding entered
  enters = worth_along (λ number l. entry_price c number l) (λ (l : ULoop). l.entries) 0 u.loops walk

  returns : sum_of (returning c u) walk ≡ sum_places multiplied 0 u.loops + sum_places (λ i l. total_paid u walk c.totals l) 0 u.loops
  unfolding multiplied
  returns =
      let along = worth_along (λ number l. back_price c u number l) (λ (l : ULoop). l.back) 0 u.loops walk in
      let split = places_same (λ number l. back_price c u number l * taken_of l.back walk) (λ number l. slice_index c.multipliers number * taken_of l.back walk + total_paid u walk c.totals l) 0 u.loops
      (λ number l. apart (slice_index c.multipliers number) (cond (is_some l.totalcount) (total_price c.totals (head_address u l)) 0) (taken_of l.back walk)) in
      let both = places_add (λ number l. slice_index c.multipliers number * taken_of l.back walk) (λ i l. total_paid u walk c.totals l) 0 u.loops in
      along ∙ split ∙ both
    where
      apart : (a b n : ℕ) → (a + b) * n ≡ a * n + b * n
      apart a b n = omega arith

  starts_with : sum_places (λ number l. cond (l.head == u.start) (entry_price c number l) 0) 0 u.loops ≡ sum_places started 0 u.loops
  unfolding started
  starts_with = places_same (λ number l. cond (l.head == u.start) (entry_price c number l) 0) (λ number l. entry_price c number l * bit (u.start == l.head)) 0 u.loops
      (λ number l. paid_if (l.head == u.start) (entry_price c number l) ∙ ap (λ b. entry_price c number l * bit b) (tests_agree l.head u.start))

  sides : sum_places charge 0 u.loops + sum_places whole 0 u.loops ≡ sum_places entered 0 u.loops + sum_places started 0 u.loops
  unfolding charge whole entered started
  sides =
      let left = places_add charge whole 0 u.loops in
      let right = places_add entered started 0 u.loops in
      let same = places_same (λ number l. charge number l + whole number l) (λ number l. entered number l + started number l) 0 u.loops
      (λ number l. both_sides (charges_in c.charges (Loop number)) (slice_index c.multipliers number) l.maxcount (taken_of l.entries walk) (bit (u.start == l.head))) in
      sym left ∙ same ∙ right

  module _ (stays : (number : ℕ) (l : ULoop) → slice_get u.loops number ≡ Some l → taken_of l.back walk ≤ l.maxcount * begun_of u l walk)
      (within : (address : ℕ) → sum_places (λ i l. bit (is_some l.totalcount && (head_address u l == address)) * taken_of l.back walk) 0 u.loops ≤ slice_index (totalcounts_at u address) 0) where
    fewer : sum_places multiplied 0 u.loops ≤ sum_places whole 0 u.loops
    unfolding multiplied whole
    fewer = places_le multiplied whole 0 u.loops
        (all_places (λ number l. multiplied number l ≤ whole number l) u.loops (λ number l stands. mul-le-mul_left (slice_index c.multipliers number) (stays number l stands)))

    -- the charges of loops, and what is given back, are within what loops cost and what is paid at the start
    pub balance : (charges : ℕ) → charges ≤ charges_in c.charges Run + sum_places (λ number l. charges_in c.charges (Loop number) * begun_of u l walk) 0 u.loops
        → charges + sum_of (returning c u) walk ≤ sum_of (entering c u) walk + paid_at_start c u
    unfolding charge
    balance charges are =
        let total = totals_are_paid u walk within c.totals in
        let sum = as_sum (λ t. total_worth u t) c.totals in
        let here : charges ≤ charges_in c.charges Run + sum_places charge 0 u.loops = are in
        let paid : paid_at_start c u ≡ charges_in c.charges Run + sum_places (λ number l. cond (l.head == u.start) (entry_price c number l) 0) 0 u.loops + sum_of (λ t. total_worth u t) c.totals
        = ap (λ n. charges_in c.charges Run + sum_places (λ number l. cond (l.head == u.start) (entry_price c number l) 0) 0 u.loops + n) sum in
        omega (arith, total, here, paid, enters, returns, starts_with, sides, fewer)
