-- The prices of entering the first loops are whole, and the others are charges alone.
use Rattle.std.proofs.Common.{◌≡◌, ℕ, ◌+◌, ◌*◌, ◌^◌, ◌<◌, ◌≤◌, List, length, set, slice_get, Some, refl, sym, ap, subst, ◌∙◌, arith, inl, inr, slice_index}
use Rattle.std.specs.List.{All}
use Rattle.std.proofs.lemmas.Bool.{cases_lt}
use Rattle.std.proofs.lemmas.Grind.{get_or-set_at}
use Rattle.std.proofs.lemmas.List.{length-set, get_or-set_other}
use Rattle.std.proofs.lemmas.List.Elements.{All-set}
use Rattle.std.proofs.lemmas.Option.{same_Some, slice_get_within}
use Rattle.flow_ctx.specs.declared.unfolded.ULoop.{ULoop}
use Rattle.cert_text.specs.declared.certificate.Certificate.{Certificate}
use Rattle.cert_prices.specs.Sums.{AddsMultipliers, AreEntryPrices, AreLoopCharges}

pub record FirstGrown (loops : List ULoop) (multipliers old : List ℕ) (i : ℕ) (prices : List ℕ) : Type 0 where
  pub long : length prices ≡ length old
  pub grown : (k : ℕ) (l : ULoop) → k < i → slice_get loops k ≡ Some l → slice_index prices k ≡ slice_index old k + l.maxcount * slice_index multipliers k
  pub left : (k : ℕ) → i ≤ k → slice_index prices k ≡ slice_index old k
  pub bound : All (λ price. price < 2 ^ 126) prices

-- before the first
pub none_grown : (loops : List ULoop) (multipliers old : List ℕ) → All (λ price. price < 2 ^ 125) old → FirstGrown loops multipliers old 0 old
none_grown loops multipliers old room = record {
  long = refl;
  grown = λ k l h at. absurd (omega (arith, h));
  left = λ k h. refl;
  bound = λ k d h. let r = room k d h in omega (arith, r);
}

-- one loop more
pub one_grown : (loops : List ULoop) (multipliers old prices new : List ℕ) (i : ℕ) (l : ULoop) (price : ℕ) → slice_get loops i ≡ Some l → i < length prices
    → FirstGrown loops multipliers old i prices → price ≡ slice_index prices i + l.maxcount * slice_index multipliers i → price < 2 ^ 126
    → new ≡ set prices i price → FirstGrown loops multipliers old (i + 1) new
one_grown loops multipliers old prices new i l price at h were is small now = subst (FirstGrown loops multipliers old (i + 1)) (sym now) (record {
  long = length-set prices i price ∙ were.long;
  grown = λ k m less there. elim (cases_lt k i) [
    | inl before ↦ get_or-set_other prices i k price 0 (λ e. omega (arith, before, e)) ∙ were.grown k m before there
    | inr behind ↦
        let same : k ≡ i = omega (arith, less, behind) in
        let one : l ≡ m = same_Some l m (sym at ∙ ap (slice_get loops) (sym same) ∙ there) in
        let before = were.left i (omega arith) in
        let value : slice_index prices i + l.maxcount * slice_index multipliers i ≡ slice_index old i + l.maxcount * slice_index multipliers i
        = ap (λ n. n + l.maxcount * slice_index multipliers i) before in
        get_or-set_at prices i k price 0 same h ∙ is ∙ value
        ∙ ap (λ n. slice_index old n + l.maxcount * slice_index multipliers n) (sym same)
        ∙ ap (λ (x : ULoop). slice_index old k + x.maxcount * slice_index multipliers k) one
  ];
  left = λ k more. get_or-set_other prices i k price 0 (λ e. omega (arith, more, e)) ∙ were.left k (omega (arith, more));
  bound = All-set (λ price. price < 2 ^ 126) prices i price small were.bound;
})

-- after the last
pub all_grown : (loops : List ULoop) (multipliers old prices : List ℕ) → FirstGrown loops multipliers old (length loops) prices
    → AddsMultipliers loops multipliers old prices
all_grown loops multipliers old prices were = record {
  long = were.long;
  each = λ number l at. were.grown number l (slice_get_within loops number l at) at;
}

-- charges with multipliers are prices
pub are_entries : (c : Certificate) (loops : List ULoop) (sums prices : List ℕ) → AreLoopCharges c.charges (length loops) sums
    → AddsMultipliers loops c.multipliers sums prices → AreEntryPrices c loops prices
are_entries c loops sums prices charges adds = record {
  long = adds.long ∙ charges.long;
  each = λ number l at.
      adds.each number l at
      ∙ ap (λ n. n + l.maxcount * slice_index c.multipliers number) (charges.each number (slice_get_within loops number l at));
}
