-- What is worked out once of the numbers of a certificate. This project's own.
use Rattle.std.specs.Prelude.{◌≡◌, ℕ, ◌+◌, ◌*◌, ◌<◌, ◌==◌, nat_eq, if◌then◌else◌, List, length, slice_get, slice_index, Option, Some, None, unwrap_or}
use Rattle.std.specs.Map.{lookup}
use Rattle.wx_base.specs.Monitor.{is_one_of}
use Rattle.flow_ctx.specs.declared.scope.Scope.TheVariants.{Loop}
use Rattle.flow_ctx.specs.declared.unfolded.ULoop.{ULoop}
use Rattle.flow_ctx.specs.declared.unfolded.Unfolded.{Unfolded}
use Rattle.cert_text.specs.declared.certificate.Charge.{Charge}
use Rattle.cert_text.specs.declared.certificate.Certificate.{Certificate}
use Rattle.cert_text.specs.declared.certificate.TotalPrice.{TotalPrice}
use Rattle.cert_rules.specs.Prices.{same_scope, charges_in, entry_price, back_price, sum_places, entering, returning, head_address, totalcounts_at}

-- a charge was added to the sum of its loop
pub record AddsCharge (charge : Charge) (old new : List ℕ) : Type 0 where
  pub long : length new ≡ length old
  pub each : (number : ℕ) → number < length old
      → slice_index new number ≡ slice_index old number + (if same_scope charge.scope (Loop number) then charge.amount else 0)

-- the charges of each loop, by its number
pub record AreLoopCharges (charges : List Charge) (count : ℕ) (sums : List ℕ) : Type 0 where
  pub long : length sums ≡ count
  pub each : (number : ℕ) → number < count → slice_index sums number ≡ charges_in charges (Loop number)

-- each price has grown by the loop's multiplier for each back edge that a stay may take
pub record AddsMultipliers (loops : List ULoop) (multipliers old new : List ℕ) : Type 0 where
  pub long : length new ≡ length old
  pub each : (number : ℕ) (l : ULoop) → slice_get loops number ≡ Some l
      → slice_index new number ≡ slice_index old number + l.maxcount * slice_index multipliers number

-- the price of entering each loop, by its number
pub record AreEntryPrices (c : Certificate) (loops : List ULoop) (prices : List ℕ) : Type 0 where
  pub long : length prices ≡ length loops
  pub each : (number : ℕ) (l : ULoop) → slice_get loops number ≡ Some l → slice_index prices number ≡ entry_price c number l

-- edges of a list were given an amount
pub record Sets (edges : List ℕ) (amount : ℕ) (old new : List ℕ) : Type 0 where
  pub long : length new ≡ length old
  pub each : (edge : ℕ) → edge < length old → slice_index new edge ≡ (if is_one_of edges edge then amount else slice_index old edge)

-- what each edge costs and gives back, by its number
pub record AreEdgePrices (c : Certificate) (u : Unfolded) (costs returns : List ℕ) : Type 0 where
  pub costs_long : length costs ≡ length u.edges
  pub returns_long : length returns ≡ length u.edges
  pub cost : (edge : ℕ) → edge < length u.edges → slice_index costs edge ≡ entering c u edge
  pub returned : (edge : ℕ) → edge < length u.edges → slice_index returns edge ≡ returning c u edge

-- what each edge is given by the loops, of which each gives its own price to some edges
abbrev pub given : (ULoop → List ℕ) → List ULoop → List ℕ → ℕ → ℕ
given edges_of loops prices edge = sum_places (λ number l. if is_one_of (edges_of l) edge then slice_index prices number else 0) 0 loops

-- the price that each back edge of each loop gives back, by the loop's number
pub record AreBackPrices (c : Certificate) (u : Unfolded) (loops : List ULoop) (prices : List ℕ) : Type 0 where
  pub long : length prices ≡ length loops
  pub each : (number : ℕ) (l : ULoop) → slice_get loops number ≡ Some l → slice_index prices number ≡ back_price c u number l

-- each edge was given the prices of its loops
pub record AreGiven (edges_of : ULoop → List ℕ) (loops : List ULoop) (count : ℕ) (prices amounts : List ℕ) : Type 0 where
  pub long : length amounts ≡ count
  pub each : (edge : ℕ) → edge < count → slice_index amounts edge ≡ given edges_of loops prices edge

-- what was noted before, or else what comes
abbrev pub noted : Option ℕ → Option ℕ → Option ℕ
noted None total = total
noted (Some before) total = Some before

-- the total of a loop, if it has its head at an address
abbrev pub total_in : Unfolded → ℕ → ULoop → Option ℕ
total_in u address l = if head_address u l == address then l.totalcount else None

-- the prices of the loops that have the start as their head
abbrev pub start_price : Unfolded → List ℕ → ℕ
start_price u prices = sum_places (λ number l. if l.head == u.start then slice_index prices number else 0) 0 u.loops

-- what a table of counts by addresses has for an address
abbrev pub count_at : List (ℕ × ℕ) → ℕ → Option ℕ
count_at counts address = lookup (nat_eq address) counts

-- how often back edges into the heads at each address are taken at most in a whole run
pub record AreTotalCounts (u : Unfolded) (counts : List (ℕ × ℕ)) : Type 0 where
  pub each : (address : ℕ) → count_at counts address ≡ slice_get (totalcounts_at u address) 0

-- what a listed total costs, by the greatest number of back edges at its address
abbrev pub counted_worth : List (ℕ × ℕ) → TotalPrice → ℕ
counted_worth counts total = unwrap_or (count_at counts total.address) 0 * total.amount
