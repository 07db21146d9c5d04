-- The value of some chosen totals, term by term.
use Rattle.std.proofs.Common.{◌≡◌, ℕ, ◌+◌, ◌*◌, ◌^◌, ◌<◌, ◌≤◌, List, [], ◌∷◌, ◌++◌, take, length, get_or, refl, sym, ap, ◌∙◌, arith}
use Rattle.std.specs.List.{zip, sum_by}
use Rattle.std.proofs.lemmas.List.{take_all, take_more}
use Rattle.std.proofs.lemmas.List.Sums.{sum_by_push}
use Rattle.std.proofs.lemmas.Slice.Zip.{length-zip, get_or-zip}
use Rattle.path_graph.specs.declared.graph.Graph.{Graph}
use Rattle.path_graph.specs.declared.graph.LoopPrices.{LoopPrices}
use Rattle.path_problem.specs.declared.solution.Amount.{Amount}
use Rattle.path_problem.specs.Choice.{origin_worth, path_value}
use Rattle.path_graph.specs.Conditions.{HasPrices}
use Rattle.path_problem.specs.Law.{totals_worth}
use Rattle.path_problem.specs.Solution.{number}

-- what one total allows at its price
abbrev pub total_worth : ℕ × ℕ → ℕ
total_worth (count, price) = count * price

-- the value with what the first totals allow
pub record ValueSoFar (g : Graph) (prices : LoopPrices) (p : List ℕ) (i : ℕ) (a : Amount) : Type 0 where
  pub is : number a ≡ get_or p g.start 0 + origin_worth g prices g.origin + sum_by total_worth (take i (zip g.totals prices.totals))
  pub high_is : a.high ≤ (i + 1) * 2 ^ 29

pub value_more : (g : Graph) (prices : LoopPrices) (p : List ℕ) (i : ℕ) (a b : Amount) (term : ℕ) → HasPrices g prices → i < length g.totals → ValueSoFar g prices p i a → term ≡ get_or g.totals i 0 * get_or prices.totals i 0 → number b ≡ number a + term → b.high ≤ a.high + 2 ^ 29 → ValueSoFar g prices p (i + 1) b
value_more g prices p i a b term priced h s e more high = record {
  is =
      let pairs = zip g.totals prices.totals in
      let long = length-zip g.totals prices.totals in
      let size = priced.totals in
      let here = get_or-zip g.totals prices.totals i (0, 0) h (omega arith) in
      let one = take_more pairs i (0, 0) (omega arith) ∙ ap (λ q. take i pairs ++ q ∷ []) here in
      let sum = ap (sum_by total_worth) one ∙ sum_by_push total_worth (take i pairs) (get_or g.totals i 0, get_or prices.totals i 0) in
      let before = s.is in
      omega arith;
  high_is = let before = s.high_is in omega arith;
}

pub value_all : (g : Graph) (prices : LoopPrices) (p : List ℕ) (i : ℕ) (a : Amount) → HasPrices g prices → length g.totals ≤ i → ValueSoFar g prices p i a → number a ≡ path_value g prices p
value_all g prices p i a priced h s =
    let long = length-zip g.totals prices.totals in
    let size = priced.totals in
    s.is ∙ ap (λ q. get_or p g.start 0 + origin_worth g prices g.origin + sum_by total_worth q) (take_all i (zip g.totals prices.totals) (omega arith))
