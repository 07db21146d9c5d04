-- The weights of some arcs that follow one another, as they are put together loop by loop. This project's own.
use Rattle.std.specs.Prelude.{◌≡◌, ℕ, ◌+◌, ◌*◌, ◌^◌, ◌<◌, List, length, slice_index_or, if◌then◌else◌, ℤ, pos, ◌+ℤ◌}
use Rattle.path_graph.specs.declared.graph.Graph.{Graph}
use Rattle.path_graph.specs.declared.graph.LoopArcs.{LoopArcs}
use Rattle.path_graph.specs.declared.graph.TheConstants.{LARGEST}
use Rattle.path_problem.specs.declared.window.Rates.{Rates}
use Rattle.path_graph.specs.Graph.{has}
use Rattle.path_problem.specs.Weight.{Toll, weight_under}

-- an amount is added once for each arc that is listed
pub record IsAdded (listed : List ℕ) (first : ℕ) (amount : ℤ) (old new : List ℤ) : Type 0 where
  pub each : (k : ℕ) → k < length old → slice_index_or new k (pos 0)
      ≡ (if has listed (first + k) then (slice_index_or old k (pos 0) +ℤ amount) else slice_index_or old k (pos 0))

-- the weights of the arcs from one on, under some tolls
pub record AreWeights (g : Graph) (tolls : List Toll) (first : ℕ) (weights : List ℤ) : Type 0 where
  pub each : (k : ℕ) → k < length weights → slice_index_or weights k (pos 0) ≡ weight_under g tolls (first + k)

-- the toll of a loop: an entry gains the price for each turn, a back arc loses an amount
abbrev pub toll_of : LoopArcs → Rates → Toll
toll_of arcs rates = record { arcs = arcs; gain = rates.turns * rates.price; loss = rates.loss }

-- at most so much a toll changes a weight
abbrev pub toll_limit : ℕ
toll_limit = 2 ^ 32 * LARGEST + 2 * LARGEST

-- at most so much is a weight under some number of tolls
abbrev pub weight_limit : ℕ → ℕ
weight_limit count = 2 ^ 80 + count * toll_limit
