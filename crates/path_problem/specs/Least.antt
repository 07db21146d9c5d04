-- The least price at which no closed walk along links gains. This project's own.
use Rattle.std.specs.Prelude.{ℕ, ◌*◌, ◌^◌, ◌<◌, ◌≤◌, List, length, ℤ, pos, ◌≤ℤ◌, ◌<ℤ◌, count_by}
use Rattle.path_graph.specs.declared.graph.TheConstants.{LARGEST}
use Rattle.path_problem.specs.declared.net.Link.{Link}
use Rattle.path_graph.specs.Conditions.{IsWithin}
use Rattle.path_problem.specs.Net.{link_at, AreLinks, Gain, IsSettled}
use Rattle.path_problem.specs.Window.{weight_limit}

-- the weight of a link without a price
abbrev pub plain_weight : List Link → ℕ → ℤ
plain_weight links i = (link_at links i).weight

-- how many back links a walk takes
abbrev pub backs_of : List Link → List ℕ → ℕ
backs_of links walk = count_by (λ i. (link_at links i).back) walk

-- the weights of links are small without a price
pub record AreSmall (links : List Link) : Type 0 where
  pub each : (i : ℕ) → i < length links → IsWithin (weight_limit (2 ^ 16)) (plain_weight links i)

-- links between numbers below a count, of small weights at every price up to the greatest
pub record IsPart (links : List Link) (count : ℕ) : Type 0 where
  pub at_price : (price : ℕ) → price ≤ LARGEST → AreLinks links count price (weight_limit (2 ^ 16))

-- a closed walk gains at a price
pub record HasGain (links : List Link) (price : ℕ) : Type 0 where
  pub walk : List ℕ
  pub gain : Gain links price walk

-- at each price below a number a closed walk gains
pub record GainsBelow (links : List Link) (end : ℕ) : Type 0 where
  pub each : (price : ℕ) → price < end → HasGain links price

-- the least price at which no closed walk gains, since values meet the inequality of each link there
pub record IsLeastPrice (links : List Link) (price : ℕ) : Type 0 where
  pub small : price ≤ LARGEST
  pub values : List ℤ
  pub settled : IsSettled links price values
  pub below : GainsBelow links price

-- a walk with a weight and some back links gains at each price below a number
pub record PaysBelow (weight : ℤ) (backs end : ℕ) : Type 0 where
  pub each : (price : ℕ) → price < end → pos (price * backs) <ℤ weight

-- the least price at which such a walk does not gain
pub record IsNextPrice (weight : ℤ) (backs price : ℕ) : Type 0 where
  pub small : price ≤ LARGEST
  pub below : PaysBelow weight backs price
  pub enough : weight ≤ℤ pos (price * backs)
