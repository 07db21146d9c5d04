-- The counts of the first loops, and what the totals cost by them.
use Rattle.std.proofs.Common.{◌≡◌, ℕ, ◌+◌, ◌*◌, ◌^◌, ◌<◌, ◌≤◌, List, [], ◌∷◌, length, map, take, get_or, slice_get, Option, Some, unwrap_or, refl, sym, ap, subst, ◌∙◌, arith, slice_index, cond, eqb}
use Rattle.std.specs.List.{filter_map, sum_by}
use Rattle.std.proofs.Math.ListN.{get_or-map}
use Rattle.std.proofs.lemmas.List.{length-map, take_all}
use Rattle.std.proofs.lemmas.List.Sums.{sum_by_more, sum_by-cons}
use Rattle.std.proofs.lemmas.Option.{slice_get_within, get_or_from_slice_get}
use Rattle.flow_ctx.specs.declared.scope.Scope.TheVariants.{Run}
use Rattle.flow_ctx.specs.declared.unfolded.ULoop.{ULoop}
use Rattle.flow_ctx.specs.declared.unfolded.Unfolded.{Unfolded}
use Rattle.wx_base.specs.Facts.{AreAscending}
use Rattle.cert_text.specs.declared.certificate.Certificate.{Certificate}
use Rattle.cert_text.specs.declared.certificate.TotalPrice.{TotalPrice}
use Rattle.cert_rules.specs.Prices.{charges_in, entry_price, paid_at_start, sum_places, total_worth, totalcounts_at}
use Rattle.cert_prices.specs.Sums.{AreEntryPrices, AreTotalCounts, count_at, counted_worth, noted, start_price, total_in}
use Rattle.cert_prices.proofs.ReadLemmas.{first_or}
use Rattle.cert_prices.proofs.SumLemmas.{sum_places-equal}
use Rattle.cert_prices.proofs.TotalLemmas.{at_least, noted_more}

-- the counts are those of the first loops
pub record FirstCounts (u : Unfolded) (i : ℕ) (counts : List (ℕ × ℕ)) : Type 0 where
  pub each : (address : ℕ) → count_at counts address ≡ slice_get (filter_map (total_in u address) (take i u.loops)) 0

pub none_counted : (u : Unfolded) → FirstCounts u 0 []
none_counted u = record { each = λ address. refl }

-- one loop more
pub one_counted : (u : Unfolded) (i : ℕ) (l : ULoop) (old new : List (ℕ × ℕ)) → slice_get u.loops i ≡ Some l
    → ((address : ℕ) → count_at new address ≡ noted (count_at old address) (total_in u address l)) → FirstCounts u i old → FirstCounts u (i + 1) new
one_counted u i l old new at made were = record {
  each = λ address.
      made address
      ∙ ap (λ o. noted o (total_in u address l)) (were.each address)
      ∙ ap (λ (x : ULoop). noted (slice_get (filter_map (total_in u address) (take i u.loops)) 0) (total_in u address x)) (sym (get_or_from_slice_get u.loops i l l at))
      ∙ sym (noted_more (total_in u address) u.loops i l (slice_get_within u.loops i l at));
}

-- all of them
pub all_counted : (u : Unfolded) (i : ℕ) (counts : List (ℕ × ℕ)) → length u.loops ≤ i → FirstCounts u i counts → AreTotalCounts u counts
all_counted u i counts h were = record {
  each = λ address. were.each address ∙ ap (λ ls. slice_get (filter_map (total_in u address) ls) 0) (take_all i u.loops h);
}

-- addresses ascend, so each is at least the place of its total
pub place_below : (totals : List TotalPrice) (i : ℕ) (d : TotalPrice) → AreAscending (map (λ t. t.address) totals) → i < length totals
    → i ≤ (get_or totals i d).address
place_below totals i d up within =
    let address : TotalPrice → ℕ = λ (t : TotalPrice). t.address in
    let least = at_least (map address totals) up i d.address (subst (λ n. i < n) (sym (length-map totals address)) within) in
    let here : get_or (map address totals) i d.address ≡ (get_or totals i d).address = get_or-map address totals i d in
    omega (arith, least, here)

-- the worth of the first totals, how great it may be, and that there are no more totals than addresses
pub record FirstWorth (counts : List (ℕ × ℕ)) (totals : List TotalPrice) (i sum : ℕ) : Type 0 where
  pub is : sum ≡ sum_by (λ total. counted_worth counts total) (take i totals)
  pub bound : sum ≤ i * (2 ^ 92)
  pub few : i ≤ 2 ^ 32

pub none_worth : (counts : List (ℕ × ℕ)) (totals : List TotalPrice) → FirstWorth counts totals 0 0
none_worth counts totals = record { is = refl; bound = omega arith; few = omega arith }

-- one total more
pub one_worth : (counts : List (ℕ × ℕ)) (totals : List TotalPrice) (i sum worth new : ℕ) (d : TotalPrice) → i < length totals → i < 2 ^ 32
    → FirstWorth counts totals i sum → worth ≡ counted_worth counts (get_or totals i d) → worth < 2 ^ 92 → new ≡ sum + worth → FirstWorth counts totals (i + 1) new
one_worth counts totals i sum worth new d h low were is small made = record {
  is =
      made ∙ ap (λ n. n + worth) were.is ∙ ap (λ n. sum_by (counted_worth counts) (take i totals) + n) is
      ∙ sym (sum_by_more (counted_worth counts) totals i d h);
  bound = let b = were.bound in omega (arith, b, small, made);
  few = omega (arith, low);
}

-- all totals
pub all_worth : (counts : List (ℕ × ℕ)) (totals : List TotalPrice) (i sum : ℕ) → length totals ≤ i → FirstWorth counts totals i sum
    → sum ≡ sum_by (λ total. counted_worth counts total) totals
all_worth counts totals i sum h were = were.is ∙ ap (sum_by (λ total. counted_worth counts total)) (take_all i totals h)

same_sums : {A : Type 0} (f g : A → ℕ) (xs : List A) → ((x : A) → f x ≡ g x) → sum_by f xs ≡ sum_by g xs
same_sums f g [] same = refl
same_sums f g (x ∷ xs) same = sum_by-cons f x xs ∙ ap (λ n. f x + n) (same_sums f g xs same) ∙ ap (λ n. n + sum_by g xs) (same x) ∙ sym (sum_by-cons g x xs)

parts : (a b c x y z : ℕ) → a ≡ x → b ≡ y → c ≡ z → a + b + c ≡ x + y + z
parts a b c x y z p q r = omega (arith, p, q, r)

-- what is paid at the start, from its parts
pub paid_is : (c : Certificate) (u : Unfolded) (counts : List (ℕ × ℕ)) (prices : List ℕ) (run first worth : ℕ) → AreTotalCounts u counts
    → AreEntryPrices c u.loops prices → run ≡ charges_in c.charges Run → first ≡ start_price u prices
    → worth ≡ sum_by (λ total. counted_worth counts total) c.totals → run + first + worth ≡ paid_at_start c u
paid_is c u counts prices run first worth counted entries charges at_start totals =
    let first_is = sum_places-equal (λ (number : ℕ) (l : ULoop). cond (eqb l.head u.start) (slice_index prices number) 0)
    (λ (number : ℕ) (l : ULoop). cond (eqb l.head u.start) (entry_price c number l) 0) u.loops
    (λ k l at. ap (λ n. cond (eqb l.head u.start) n 0) (entries.each k l at)) in
    let worth_is = same_sums (counted_worth counts) (total_worth u) c.totals
    (λ total. ap (λ n. n * total.amount) (ap (λ (o : Option ℕ). unwrap_or o 0) (counted.each total.address) ∙ first_or (totalcounts_at u total.address) 0)) in
    parts run first worth (charges_in c.charges Run) (sum_places (λ (number : ℕ) (l : ULoop). cond (eqb l.head u.start) (entry_price c number l) 0) 0 u.loops)
    (sum_by (total_worth u) c.totals) charges (at_start ∙ first_is) (totals ∙ worth_is)

-- the amount at a place
pub amount_there : (totals : List TotalPrice) (i : ℕ) (total d : TotalPrice) → slice_get totals i ≡ Some total → (get_or totals i d).amount ≡ total.amount
amount_there totals i total d at = ap (λ (t : TotalPrice). t.amount) (get_or_from_slice_get totals i total d at)
