-- Sums of charges, and the one charge or price with a key.
use Rattle.std.proofs.Common.{◌≡◌, ℕ, ◌+◌, ◌*◌, ◌<◌, ◌≤◌, Bool, true, false, List, [], length, map, take, get_or, slice_get, Some, sym, ap, subst, ◌∙◌, arith, cond, eqb, inl, inr}
use Rattle.std.specs.List.{All, AllPairs}
use Rattle.std.proofs.lemmas.Bool.{cases_lt, ne_eqb, eq-eqb}
use Rattle.std.proofs.Math.ListN.{get_or-map}
use Rattle.std.proofs.lemmas.List.{length-map}
use Rattle.std.proofs.lemmas.List.Sums.{sum_by_more, sum_by-take-le, sum_by-le}
use Rattle.std.proofs.lemmas.Option.{slice_get_within, get_or_from_slice_get}
use Rattle.flow_ctx.specs.declared.scope.Scope.{Scope}
use Rattle.flow_ctx.specs.declared.scope.Scope.TheVariants.{Run, Loop}
use Rattle.cert_text.specs.declared.certificate.Charge.{Charge}
use Rattle.cert_text.specs.declared.certificate.TotalPrice.{TotalPrice}
use Rattle.cert_rules.specs.Prices.{same_scope, charges_in, total_price}
use Rattle.cert_prices.specs.Sums.{AddsCharge, AreLoopCharges}
use Rattle.cert_prices.proofs.SumLemmas.{sum_by-none, sum_by-one}

-- what a charge counts for in a scope
abbrev part : Scope → Charge → ℕ
part scope charge = cond (same_scope charge.scope scope) charge.amount 0

bounded : (b : Bool) (n m : ℕ) → n ≤ m → cond b n 0 ≤ m
bounded true n m h = h
bounded false n m h = omega arith

-- the charges of a scope are at most as many times the greatest as there are charges
pub charges_small : (charges : List Charge) (scope : Scope) (most : ℕ) → All (λ charge. charge.amount ≤ most) charges
    → charges_in charges scope ≤ length charges * most
charges_small charges scope most small = sum_by-le (part scope) most charges (λ k d h. bounded (same_scope (get_or charges k d).scope scope) (get_or charges k d).amount most (small k d h))

-- so are those of the first charges
pub front_small : (charges : List Charge) (i : ℕ) (scope : Scope) (most : ℕ) → All (λ charge. charge.amount ≤ most) charges
    → charges_in (take i charges) scope ≤ length charges * most
front_small charges i scope most small =
    let a = sum_by-take-le (part scope) charges i in
    let b = charges_small charges scope most small in
    omega (arith, a, b)

-- no charge, no sum
pub no_charges : (count : ℕ) (sums : List ℕ) → length sums ≡ count → All (λ sum. sum ≡ 0) sums → AreLoopCharges [] count sums
no_charges count sums long none = record {
  long = long;
  each = λ number below. none number 0 (subst (λ n. number < n) (sym long) below);
}

-- one charge more
pub one_more : (charges : List Charge) (i count : ℕ) (charge d : Charge) (old new : List ℕ) → i < length charges → charge ≡ get_or charges i d
    → AreLoopCharges (take i charges) count old → AddsCharge charge old new → AreLoopCharges (take (i + 1) charges) count new
one_more charges i count charge d old new h is were added = record {
  long = added.long ∙ were.long;
  each = λ number below.
      let more = sum_by_more (part (Loop number)) charges i d h in
      let was = were.each number below in
      let now = added.each number (subst (λ n. number < n) (sym were.long) below) in
      let same : part (Loop number) charge ≡ part (Loop number) (get_or charges i d) = ap (part (Loop number)) is in
      omega (arith, more, was, now, same);
}

-- one charge more of the whole run
pub run_more : (charges : List Charge) (i amount sum new : ℕ) (d : Charge) → i < length charges → amount ≡ part Run (get_or charges i d)
    → sum ≡ charges_in (take i charges) Run → new ≡ sum + amount → new ≡ charges_in (take (i + 1) charges) Run
run_more charges i amount sum new d h is were made =
    made ∙ ap (λ n. n + amount) were ∙ ap (λ n. charges_in (take i charges) Run + n) is ∙ sym (sum_by_more (part Run) charges i d h)

-- the address of a price
abbrev address_of : TotalPrice → ℕ
address_of total = total.address

-- addresses ascend by the places
ascending : (totals : List TotalPrice) → AllPairs (λ a b. a < b) (map address_of totals) → (i j : ℕ) (t w : TotalPrice)
    → slice_get totals i ≡ Some t → slice_get totals j ≡ Some w → i < j → t.address < w.address
ascending totals up i j t w at there h =
    let first : get_or (map address_of totals) i (address_of t) ≡ t.address = get_or-map address_of totals i t ∙ ap address_of (get_or_from_slice_get totals i t t at) in
    let second : get_or (map address_of totals) j (address_of t) ≡ w.address = get_or-map address_of totals j t ∙ ap address_of (get_or_from_slice_get totals j w t there) in
    let less = up i j (address_of t) h (subst (λ n. j < n) (sym (length-map totals address_of)) (slice_get_within totals j w there)) in
    omega (arith, first, second, less)

-- an address stands at one place
one_place : (totals : List TotalPrice) → AllPairs (λ a b. a < b) (map address_of totals) → (i j : ℕ) (t w : TotalPrice)
    → slice_get totals i ≡ Some t → slice_get totals j ≡ Some w → t.address ≡ w.address → i ≡ j
one_place totals up i j t w at there same = elim (cases_lt i j) [
  | inl l ↦ let less = ascending totals up i j t w at there l in absurd (omega (arith, less, same))
  | inr g ↦ elim (cases_lt j i) [
    | inl l ↦ let less = ascending totals up j i w t there at l in absurd (omega (arith, less, same))
    | inr h ↦ omega (arith, g, h)
  ]
]

-- the price of the total at a place is that of its address
pub price_there : (totals : List TotalPrice) (i : ℕ) (total : TotalPrice) (address : ℕ) → AllPairs (λ a b. a < b) (map address_of totals)
    → slice_get totals i ≡ Some total → total.address ≡ address → total_price totals address ≡ total.amount
price_there totals i total address up at is =
    sum_by-one (λ t. cond (eqb t.address address) t.amount 0) totals i total at
    (λ k x e other. ap (λ b. cond b x.amount 0) (ne_eqb x.address address (λ same. other (one_place totals up k i x total e at (same ∙ sym is)))))
    ∙ ap (λ b. cond b total.amount 0) (eq-eqb total.address address is)

-- an address that no total has has no price
pub price_nowhere : (totals : List TotalPrice) (address : ℕ) → ((k : ℕ) (t : TotalPrice) → slice_get totals k ≡ Some t → t.address ≡ address → ⊥)
    → total_price totals address ≡ 0
price_nowhere totals address none = sum_by-none (λ t. cond (eqb t.address address) t.amount 0) totals
    (λ k x e. ap (λ b. cond b x.amount 0) (ne_eqb x.address address (none k x e)))
