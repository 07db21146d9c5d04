-- What is worked out for some chosen totals, and how far the turns have come. This project's own.
use Rattle.std.specs.Prelude.{◌≡◌, ℕ, ◌+◌, ◌*◌, ◌^◌, ◌<◌, ◌≤◌, Bool, true, List, length, slice_index_or, Result, Ok, Err}
use Rattle.path_graph.specs.declared.graph.Graph.{Graph}
use Rattle.path_problem.specs.declared.solution.Amount.{Amount}
use Rattle.path_problem.specs.declared.solution.Outcome.{Outcome}
use Rattle.path_problem.specs.declared.solution.Outcome.TheVariants.{Solved, TooLarge}
use Rattle.path_problem.specs.declared.solution.Solution.{Solution}
use Rattle.path_problem.specs.declared.path_error.PathError.{PathError}
use Rattle.path_problem.specs.Choice.{ComesTo, IsTurn, path_value}
use Rattle.path_problem.specs.Need.{HasNeeds}
use Rattle.path_problem.specs.Potential.{ArePotentials}

-- an amount as a number: so many times 2^64, and what is left
abbrev pub number : Amount → ℕ
number a = a.high * 2 ^ 64 + a.low

-- what was worked out comes to a value, or is refused
abbrev pub worth_of : Outcome → Result ℕ PathError
worth_of (Solved s) = Ok (number s.value)
worth_of (TooLarge refusal) = Err refusal

-- prices and potentials for some chosen totals, with their value
pub record IsSolution (g : Graph) (chosen : List Bool) (s : Solution) : Type 0 where
  pub prices : HasNeeds g chosen s.prices
  pub potentials : ArePotentials g s.prices s.potentials.items
  pub value : number s.value ≡ path_value g s.prices s.potentials.items

-- what was worked out is right for some chosen totals
abbrev pub IsOutcome : Graph → List Bool → Outcome → Type 0
IsOutcome g chosen (Solved s) = IsSolution g chosen s
IsOutcome g chosen (TooLarge refusal) = ComesTo g chosen (Err refusal)

-- the first totals have had their turns, all others are still chosen, and what was worked out is right for those chosen now
pub record TurnsSoFar (g : Graph) (k : ℕ) (chosen : List Bool) (best : Outcome) : Type 0 where
  pub count : length chosen ≡ length g.totals
  pub behind : (j : ℕ) → k ≤ j → slice_index_or chosen j true ≡ true
  pub turns : (j : ℕ) → j < k → j < length g.totals → IsTurn g chosen j
  pub best_is : IsOutcome g chosen best
