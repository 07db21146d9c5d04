-- That the sums of charges, prices and totals fit.
use Rattle.std.proofs.Common.{ℕ, ◌+◌, ◌*◌, ◌^◌, ◌<◌, ◌≤◌, List, length, take, get_or, subst, arith}
use Rattle.std.specs.List.{All}
use Rattle.std.proofs.lemmas.List.{take_all}
use Rattle.std.proofs.lemmas.Nat.{mul-le}
use Rattle.flow_ctx.specs.declared.scope.Scope.{Scope}
use Rattle.flow_ctx.specs.declared.scope.Scope.TheVariants.{Loop}
use Rattle.cert_text.specs.declared.certificate.Charge.{Charge}
use Rattle.cert_rules.specs.Rules.{greatest_number}
use Rattle.cert_rules.specs.Prices.{charges_in}
use Rattle.cert_prices.specs.Sums.{AreLoopCharges}
use Rattle.cert_prices.proofs.ChargeLemmas.{front_small}
use Rattle.cert_prices.proofs.ReadLemmas.{same_read}

-- so many numbers of a certificate, added up
times_greatest : (n : ℕ) → n < 2 ^ 63 → n * greatest_number < 2 ^ 123
times_greatest n h = omega arith

-- the first charges of a scope
pub front_bound : (charges : List Charge) (i : ℕ) (scope : Scope) → All (λ charge. charge.amount ≤ greatest_number) charges → length charges < 2 ^ 63
    → charges_in (take i charges) scope < 2 ^ 123
front_bound charges i scope small short =
    let a = front_small charges i scope greatest_number small in
    let b = times_greatest (length charges) short in
    omega (arith, a, b)

-- the sums of the first charges
pub sums_bound : (charges : List Charge) (i count : ℕ) (sums : List ℕ) → All (λ charge. charge.amount ≤ greatest_number) charges → length charges < 2 ^ 63
    → AreLoopCharges (take i charges) count sums → All (λ sum. sum < 2 ^ 123) sums
sums_bound charges i count sums small short are = λ k d h.
    let e = are.each k (subst (λ n. k < n) are.long h) in
    let b = front_bound charges i (Loop k) small short in
    let r = same_read sums k d 0 h in
    omega (arith, e, b, r)

-- one charge more fits
pub room_for : (charges : List Charge) (i count : ℕ) (sums : List ℕ) (d : Charge) → All (λ charge. charge.amount ≤ greatest_number) charges → length charges < 2 ^ 63
    → i < length charges → AreLoopCharges (take i charges) count sums → All (λ sum. sum + (get_or charges i d).amount < 2 ^ 128) sums
room_for charges i count sums d small short within are = λ k e h.
    let a = sums_bound charges i count sums small short are k e h in
    let b = small i d within in
    omega (arith, a, b)

-- the sums of all charges
pub all_summed : (charges : List Charge) (i count : ℕ) (sums : List ℕ) → length charges ≤ i → AreLoopCharges (take i charges) count sums
    → AreLoopCharges charges count sums
all_summed charges i count sums h were = subst (λ cs. AreLoopCharges cs count sums) (take_all i charges h) were

pub wider : (sums : List ℕ) → All (λ sum. sum < 2 ^ 123) sums → All (λ sum. sum < 2 ^ 125) sums
wider sums all = λ k d h. let a = all k d h in omega (arith, a)

pub within_limit : (prices : List ℕ) → All (λ price. price < 2 ^ 126) prices → All (λ price. price < 2 ^ 127) prices
within_limit prices all = λ k d h. let a = all k d h in omega (arith, a)

-- what a total comes to
pub worth_bound : (count amount : ℕ) → count < 2 ^ 32 → amount ≤ greatest_number → count * amount < 2 ^ 92
worth_bound count amount few small =
    let whole = mul-le count amount (2 ^ 32) greatest_number (omega (arith, few)) small in
    omega (arith, whole)
