-- What each loop needs for a back arc, and the prices that follow. This project's own.
use Rattle.std.specs.Prelude.{◌≡◌, ℕ, ◌*◌, ◌<◌, ◌≤◌, max, Bool, false, List, [], ◌∷◌, ◌++◌, map, take, length, slice_index}
use Rattle.std.specs.Prelude.{slice_index_or, if◌then◌else◌, ℤ, pos, ◌≤ℤ◌, Option, Some, None}
use Rattle.std.specs.List.{All, fold, zip}
use Rattle.path_graph.specs.declared.graph.Graph.{Graph}
use Rattle.path_graph.specs.declared.graph.LoopArcs.{LoopArcs}
use Rattle.path_graph.specs.declared.graph.LoopPrices.{LoopPrices}
use Rattle.path_graph.specs.declared.graph.TheConstants.{LARGEST}
use Rattle.path_graph.specs.Graph.{loop_at, IsWalk, IsInside, weight_along}
use Rattle.path_problem.specs.Weight.{Toll, weight_under}
use Rattle.path_problem.specs.Law.{is_total}

-- whether a loop's total is among those chosen
abbrev pub is_chosen : List Bool → Option ℕ → Bool
is_chosen chosen None = false
is_chosen chosen (Some k) = slice_index_or chosen k false

-- an entry gains a loop's need for each turn that it allows, unless a chosen total pays; a back arc loses the need in any case
abbrev pub need_toll : List Bool → LoopArcs × ℕ → Toll
need_toll chosen (l, need) =
    record { arcs = l; gain = (if is_chosen chosen l.total then 0 else l.maxcount * need); loss = need }

-- the tolls of the first loops at their needs; later loops have none
abbrev pub need_tolls : Graph → List Bool → List ℕ → List Toll
need_tolls g chosen needs = map (need_toll chosen) (zip g.loops needs)

-- no closed walk inside a loop has a positive weight
pub record NoGain (g : Graph) (weight : ℕ → ℤ) (l : LoopArcs) : Type 0 where
  pub none : (v : ℕ) (walk : List ℕ) → IsWalk g v walk v → IsInside g l walk → weight_along weight walk ≤ℤ pos 0

-- a number serves the loop behind the first ones, whose needs are given
abbrev pub Serves : Graph → List Bool → List ℕ → ℕ → Type 0
Serves g chosen needs n =
    NoGain g (weight_under g (need_tolls g chosen (needs ++ n ∷ []))) (loop_at g (length needs))

-- the need of that loop: the least number that serves it
pub record IsNeed (g : Graph) (chosen : List Bool) (needs : List ℕ) (n : ℕ) : Type 0 where
  pub serves : Serves g chosen needs n
  pub least : (m : ℕ) → Serves g chosen needs m → n ≤ m

-- the needs of the first loops, one after the other
pub record AreNeeds (g : Graph) (chosen : List Bool) (needs : List ℕ) : Type 0 where
  pub few : length needs ≤ length g.loops
  pub each : (l : ℕ) → l < length needs → IsNeed g chosen (take l needs) (slice_index needs l)
  pub small : All (λ n. n ≤ LARGEST) needs

-- the first loop that no number up to the greatest serves
pub record IsLoopLarge (g : Graph) (chosen : List Bool) (number : ℕ) : Type 0 where
  pub needs : List ℕ
  pub made : AreNeeds g chosen needs
  pub here : length needs ≡ number
  pub within : number < length g.loops
  pub none : (n : ℕ) → n ≤ LARGEST → Serves g chosen needs n → ⊥

-- the price of a loop: its need, unless a chosen total pays
abbrev pub loop_price : List Bool → LoopArcs × ℕ → ℕ
loop_price chosen (l, need) = (if is_chosen chosen l.total then 0 else need)

-- the greatest need of a total's loops; 0 where it has none
abbrev pub greatest_need : Graph → List ℕ → ℕ → ℕ
greatest_need g needs k = fold max 0 (map (λ (l, need). (if is_total k l.total then need else 0)) (zip g.loops needs))

-- the price of a total: the greatest need of its loops if it is chosen, and else 0
abbrev pub price_of_total : Graph → List Bool → List ℕ → ℕ → ℕ
price_of_total g chosen needs k = (if slice_index_or chosen k false then greatest_need g needs k else 0)

-- the prices that follow from the needs of all loops
pub record ArePrices (g : Graph) (chosen : List Bool) (needs : List ℕ) (prices : LoopPrices) : Type 0 where
  pub made : AreNeeds g chosen needs
  pub all : length needs ≡ length g.loops
  pub loops : prices.loops ≡ map (loop_price chosen) (zip g.loops needs)
  pub count : length prices.totals ≡ length g.totals
  pub totals : (k : ℕ) → k < length g.totals → slice_index prices.totals k ≡ price_of_total g chosen needs k

-- prices for the chosen totals
pub record HasNeeds (g : Graph) (chosen : List Bool) (prices : LoopPrices) : Type 0 where
  pub needs : List ℕ
  pub follow : ArePrices g chosen needs prices

-- the needs of all loops
pub record AreAllNeeds (g : Graph) (chosen : List Bool) (needs : List ℕ) : Type 0 where
  pub made : AreNeeds g chosen needs
  pub all : length needs ≡ length g.loops

-- the prices of totals that the needs of the first loops make
pub record AreTotalPrices (g : Graph) (chosen : List Bool) (needs : List ℕ) (prices : List ℕ) : Type 0 where
  pub count : length prices ≡ length g.totals
  pub each : (k : ℕ) → k < length g.totals → slice_index prices k ≡ price_of_total g chosen needs k

-- what a total is raised by: a need of a loop of it, if it is chosen
pub record IsRaised (chosen : List Bool) (total : Option ℕ) (need : ℕ) (old new : List ℕ) : Type 0 where
  pub each : (k : ℕ) → k < length old
      → slice_index new k ≡ max (slice_index old k) (if is_total k total then (if slice_index_or chosen k false then need else 0) else 0)
