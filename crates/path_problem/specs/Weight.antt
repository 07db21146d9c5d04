-- The weights of arcs under prices. This project's own.
use Rattle.std.specs.Prelude.{ℕ, ◌+◌, ◌*◌, List, map, slice_index, if◌then◌else◌, ℤ, pos, ◌+ℤ◌, ◌-ℤ◌}
use Rattle.std.specs.Prelude.{Option, Some, None}
use Rattle.std.specs.List.{sum_by, zip}
use Rattle.path_graph.specs.declared.graph.Graph.{Graph}
use Rattle.path_graph.specs.declared.graph.LoopArcs.{LoopArcs}
use Rattle.path_graph.specs.declared.graph.LoopPrices.{LoopPrices}
use Rattle.path_graph.specs.Graph.{has, arc_at}

-- what a loop changes: an arc that enters it gains, a back arc of it loses
pub record Toll : Type 0 where
  pub arcs : LoopArcs
  pub gain : ℕ
  pub loss : ℕ

-- what an arc gains by a toll
abbrev pub gain_of : ℕ → Toll → ℕ
gain_of a t = (if has t.arcs.entries a then t.gain else 0)

-- what an arc loses by a toll
abbrev pub loss_of : ℕ → Toll → ℕ
loss_of a t = (if has t.arcs.back a then t.loss else 0)

-- the weight of an arc with all that it gains and loses
abbrev pub weight_under : Graph → List Toll → ℕ → ℤ
weight_under g tolls a = ((arc_at g a).weight +ℤ pos (sum_by (gain_of a) tolls)) -ℤ pos (sum_by (loss_of a) tolls)

-- the price of a loop's total; 0 where it has none
abbrev pub total_price : List ℕ → Option ℕ → ℕ
total_price totals None = 0
total_price totals (Some k) = slice_index totals k

-- an entry gains the loop's price for each turn that it allows, a back arc pays that price and the total's
abbrev pub price_toll : List ℕ → LoopArcs × ℕ → Toll
price_toll totals (l, price) =
    record { arcs = l; gain = l.maxcount * price; loss = price + total_price totals l.total }

-- the tolls of all loops at given prices
abbrev pub price_tolls : Graph → LoopPrices → List Toll
price_tolls g prices = map (price_toll prices.totals) (zip g.loops prices.loops)

-- the full weight of an arc
abbrev pub full_weight : Graph → LoopPrices → ℕ → ℤ
full_weight g prices = weight_under g (price_tolls g prices)
