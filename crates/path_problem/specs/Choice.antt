-- What a choice of totals comes to, and the choice that is made turn by turn. This project's own.
use Rattle.std.specs.Prelude.{◌≡◌, ℕ, ◌+◌, ◌-◌, ◌*◌, ◌<◌, ◌↔◌, Bool, true, false, List, [], ◌∷◌, ◌++◌, take, replicate, length, slice_index}
use Rattle.std.specs.Prelude.{slice_index_or, Option, Some, None, Result, Ok, Err}
use Rattle.path_graph.specs.declared.graph.Graph.{Graph}
use Rattle.path_graph.specs.declared.graph.LoopPrices.{LoopPrices}
use Rattle.path_problem.specs.declared.choice.Choice.{Choice}
use Rattle.path_problem.specs.declared.path_error.PathError.{PathError}
use Rattle.path_problem.specs.declared.path_error.PathError.TheVariants.{LoopLarge, VertexLarge, NoMemory}
use Rattle.path_graph.specs.Graph.{loop_at}
use Rattle.path_problem.specs.Law.{totals_worth}
use Rattle.path_problem.specs.Need.{HasNeeds, IsLoopLarge}
use Rattle.path_problem.specs.Potential.{ArePotentials, IsVertexLarge}

-- what the loop allows that the start is in from the beginning: as many turns as its count at its price
abbrev pub origin_worth : Graph → LoopPrices → Option ℕ → ℕ
origin_worth g prices None = 0
origin_worth g prices (Some l) = (loop_at g l).maxcount * slice_index prices.loops l

-- what walks from the start come to at most, with all that loops and totals allow
abbrev pub path_value : Graph → LoopPrices → List ℕ → ℕ
path_value g prices p = slice_index p g.start + origin_worth g prices g.origin + totals_worth g prices

-- the value of some chosen totals
pub record IsValue (g : Graph) (chosen : List Bool) (value : ℕ) : Type 0 where
  pub prices : LoopPrices
  pub needs : HasNeeds g chosen prices
  pub potentials : List ℕ
  pub are : ArePotentials g prices potentials
  pub is : value ≡ path_value g prices potentials

-- at the prices for some chosen totals a vertex is the first that has too large a potential
pub record IsVertexLargeAt (g : Graph) (chosen : List Bool) (v : ℕ) : Type 0 where
  pub prices : LoopPrices
  pub needs : HasNeeds g chosen prices
  pub large : IsVertexLarge g prices v

-- what some chosen totals come to: a value, or the first need that is too large, or else the first potential
abbrev pub ComesTo : Graph → List Bool → Result ℕ PathError → Type 0
ComesTo g chosen (Ok value) = IsValue g chosen value
ComesTo g chosen (Err (LoopLarge l)) = IsLoopLarge g chosen l
ComesTo g chosen (Err (VertexLarge v)) = IsVertexLargeAt g chosen v
ComesTo g chosen (Err NoMemory) = ⊥

-- what is too large is more than every number
abbrev pub IsLess : Result ℕ PathError → Result ℕ PathError → Type 0
IsLess (Ok a) (Ok b) = a < b
IsLess (Ok a) (Err e) = Unit {0}
IsLess (Err e) b = ⊥

-- the totals that are tried in a turn: those before it as they were decided, its own chosen or given up, and all behind it chosen
abbrev pub with_next : List Bool → ℕ → ℕ → Bool → List Bool
with_next chosen count k next = take k chosen ++ next ∷ replicate (count - (k + 1)) true

-- in its turn a total was given up exactly if that lessens what the chosen totals come to
pub record IsTurn (g : Graph) (chosen : List Bool) (k : ℕ) : Type 0 where
  pub kept : Result ℕ PathError
  pub kept_is : ComesTo g (with_next chosen (length g.totals) k true) kept
  pub given : Result ℕ PathError
  pub given_is : ComesTo g (with_next chosen (length g.totals) k false) given
  pub given_up : (slice_index_or chosen k true ≡ false) ↔ IsLess given kept

-- the choice of totals: each had its turn, in their order
pub record IsChoice (g : Graph) (chosen : List Bool) : Type 0 where
  pub count : length chosen ≡ length g.totals
  pub turns : (k : ℕ) → k < length g.totals → IsTurn g chosen k

-- the choice with its prices and potentials
pub record IsChosen (g : Graph) (c : Choice) : Type 0 where
  pub choice : IsChoice g c.chosen
  pub prices : HasNeeds g c.chosen c.prices
  pub potentials : ArePotentials g c.prices c.potentials

-- the choice is too large, for a reason
pub record IsTooLarge (g : Graph) (refusal : PathError) : Type 0 where
  pub chosen : List Bool
  pub choice : IsChoice g chosen
  pub large : ComesTo g chosen (Err refusal)
