-- The choice of totals, turn by turn.
use Rattle.std.proofs.Common.{◌≡◌, ℕ, zero, suc, ◌+◌, ◌-◌, ◌<◌, ◌≤◌, Bool, true, false, cond, not, List, [], ◌∷◌, ◌++◌, take, set, replicate, length, get_or, refl, sym, ap, subst, ◌∙◌, inl, inr, get_or-set_same, get_or-set_other, arith}
use Rattle.std.specs.Prelude.{Result, Ok, Err, IsTrue, ◌↔◌}
use Rattle.std.proofs.Math.ListN.{length-set}
use Rattle.std.proofs.lemmas.Bool.{cases_lt, false≢true}
use Rattle.std.proofs.lemmas.List.{take-set-le, set-set, set-get_or, get_or-replicate, get_or_past}
use Rattle.path_problem.specs.declared.choice.Choice.{Choice}
use Rattle.path_graph.specs.declared.graph.Graph.{Graph}
use Rattle.path_graph.specs.declared.graph.LoopPrices.{LoopPrices}
use Rattle.path_problem.specs.declared.path_error.PathError.{PathError}
use Rattle.path_problem.specs.declared.solution.Outcome.{Outcome}
use Rattle.path_problem.specs.declared.solution.Outcome.TheVariants.{Solved, TooLarge}
use Rattle.path_problem.specs.declared.solution.Solution.{Solution}
use Rattle.path_problem.specs.Choice.{ComesTo, IsLess, with_next, IsTurn, IsChoice, IsChosen, IsTooLarge}
use Rattle.path_problem.specs.Solution.{number, worth_of, IsOutcome, TurnsSoFar}

-- ---- the totals that are tried in a turn

all_true : (xs : List Bool) → ((j : ℕ) → get_or xs j true ≡ true) → replicate (length xs) true ≡ xs
all_true [] h = refl
all_true (x ∷ xs) h = ap (λ b. b ∷ replicate (length xs) true) (sym (h 0)) ∙ ap (λ ys. x ∷ ys) (all_true xs (λ j. h (suc j)))

next_is : (chosen : List Bool) (k : ℕ) (b : Bool) → k < length chosen → ((j : ℕ) → k < j → get_or chosen j true ≡ true) → take k chosen ++ b ∷ replicate (length chosen - (k + 1)) true ≡ set chosen k b
next_is [] k b h behind = absurd (omega arith)
next_is (x ∷ xs) zero b h behind =
    let n : length (x ∷ xs) - (0 + 1) ≡ length xs = omega arith in
    ap (λ m. b ∷ replicate m true) n ∙ ap (λ ys. b ∷ ys) (all_true xs (λ j. behind (suc j) (omega arith)))
next_is (x ∷ xs) (suc k) b h behind =
    let n : length (x ∷ xs) - (suc k + 1) ≡ length xs - (k + 1) = omega arith in
    ap (λ m. x ∷ (take k xs ++ b ∷ replicate m true)) n ∙ ap (λ ys. x ∷ ys) (next_is xs k b (omega arith) (λ j l. behind (suc j) (omega arith)))

-- ---- one turn

pub comes : (g : Graph) (chosen : List Bool) (o : Outcome) → IsOutcome g chosen o → ComesTo g chosen (worth_of o)
comes g chosen (Solved s) is = record {
  prices = s.prices;
  needs = is.prices;
  potentials = s.potentials.items;
  are = is.potentials;
  is = is.value;
}
comes g chosen (TooLarge refusal) is = is

module _ (g : Graph) (k : ℕ) (chosen : List Bool) (best without : Outcome) (less : Bool) (h : k < length chosen) (s : TurnsSoFar g k chosen best) (is : IsOutcome g (set chosen k false) without) (test : IsTrue less ↔ IsLess (worth_of without) (worth_of best)) where
  abbrev after : List Bool
  after = set (set chosen k false) k (not less)

  once : set (set chosen k false) k (not less) ≡ set chosen k (not less)
  once = set-set chosen k false (not less)

  here : get_or (set (set chosen k false) k (not less)) k true ≡ not less
  here = ap (λ xs. get_or xs k true) once ∙ get_or-set_same chosen k (not less) true h

  same : set chosen k true ≡ chosen
  same = ap (λ b. set chosen k b) (sym (s.behind k (omega arith))) ∙ set-get_or chosen k true

  tried : (b : Bool) → with_next (set (set chosen k false) k (not less)) (length g.totals) k b ≡ set chosen k b
  tried b =
      let front = ap (take k) once ∙ take-set-le k chosen k (not less) (omega arith) in
      ap (λ xs. xs ++ b ∷ replicate (length g.totals - (k + 1)) true) front
      ∙ ap (λ n. take k chosen ++ b ∷ replicate (n - (k + 1)) true) (sym s.count)
      ∙ next_is chosen k b h (λ j l. s.behind j (omega arith))

  turn_now : IsTurn g (set (set chosen k false) k (not less)) k
  turn_now = record {
    kept = worth_of best;
    kept_is =
        let F : List Bool → Type 0 = λ xs. ComesTo g xs (worth_of best) in
        subst F (sym (tried true ∙ same)) (comes g chosen best s.best_is);
    given = worth_of without;
    given_is =
        let F : List Bool → Type 0 = λ xs. ComesTo g xs (worth_of without) in
        subst F (sym (tried false)) (comes g (set chosen k false) without is);
    given_up = (λ e. test.0 (opposite less (sym here ∙ e)), λ l. here ∙ ap not (test.1 l));
  }
    where
      opposite : (b : Bool) → not b ≡ false → b ≡ true
      opposite true e = refl
      opposite false e = absurd (false≢true (sym e))

  turn_before : (j : ℕ) → j < k → IsTurn g chosen j → IsTurn g (set (set chosen k false) k (not less)) j
  turn_before j b t =
      let front = ap (take j) once ∙ take-set-le j chosen k (not less) (omega arith) in
      let own = ap (λ xs. get_or xs j true) once ∙ get_or-set_other chosen k j (not less) true (λ e. omega arith) in
      let tries : (c : Bool) → with_next chosen (length g.totals) j c ≡ with_next (set (set chosen k false) k (not less)) (length g.totals) j c = λ c. ap (λ xs. xs ++ c ∷ replicate (length g.totals - (j + 1)) true) (sym front) in
      record {
        kept = t.kept;
        kept_is =
            let F : List Bool → Type 0 = λ xs. ComesTo g xs t.kept in
            subst F (tries true) t.kept_is;
        given = t.given;
        given_is =
            let F : List Bool → Type 0 = λ xs. ComesTo g xs t.given in
            subst F (tries false) t.given_is;
        given_up = (λ e. t.given_up.0 (sym own ∙ e), λ l. own ∙ t.given_up.1 l);
      }

  outcome_now : IsOutcome g (set (set chosen k false) k (not less)) (cond less without best)
  outcome_now =
      let F : List Bool → Type 0 = λ xs. IsOutcome g xs (cond less without best) in
      subst F (sym once) (by_less less)
    where
      by_less : (b : Bool) → IsOutcome g (set chosen k (not b)) (cond b without best)
      by_less true = is
      by_less false =
          let F : List Bool → Type 0 = λ xs. IsOutcome g xs best in
          subst F (sym same) s.best_is

  pub turn_taken : TurnsSoFar g (k + 1) (set (set chosen k false) k (not less)) (cond less without best)
  turn_taken = record {
    count = ap length once ∙ length-set chosen k (not less) ∙ s.count;
    behind = λ j b. ap (λ xs. get_or xs j true) once ∙ get_or-set_other chosen k j (not less) true (λ e. omega arith) ∙ s.behind j (omega arith);
    turns = λ j b l. elim (cases_lt j k) [
      | inl below ↦ turn_before j below (s.turns j below l)
      | inr above ↦
          let e : k ≡ j = omega arith in
          subst (IsTurn g (set (set chosen k false) k (not less))) e turn_now
    ];
    best_is = outcome_now;
  }

pub no_turns : (g : Graph) (chosen : List Bool) (best : Outcome) → chosen ≡ replicate (length g.totals) true → IsOutcome g chosen best → TurnsSoFar g 0 chosen best
no_turns g chosen best e is = record {
  count = ap length e ∙ long (length g.totals);
  behind = λ j b. ap (λ xs. get_or xs j true) e ∙ true_at (length g.totals) j;
  turns = λ j b l. absurd (omega arith);
  best_is = is;
}
  where
    long : (n : ℕ) → length (replicate n true) ≡ n
    long zero = refl
    long (suc n) = let rest = long n in omega arith

    true_at : (n j : ℕ) → get_or (replicate n true) j true ≡ true
    true_at n j = elim (cases_lt j n) [
      | inl b ↦ get_or-replicate n j true true b
      | inr b ↦ get_or_past (replicate n true) j true (let l = long n in omega arith)
    ]

-- ---- the choice

choice_made : (g : Graph) (chosen : List Bool) (best : Outcome) → TurnsSoFar g (length g.totals) chosen best → IsChoice g chosen
choice_made g chosen best s = record { count = s.count; turns = λ k h. s.turns k h h }

pub is_chosen_now : (g : Graph) (chosen : List Bool) (s : Solution) → TurnsSoFar g (length g.totals) chosen (Solved s) → IsChosen g (record { chosen = chosen; prices = s.prices; potentials = s.potentials.items })
is_chosen_now g chosen s t = record {
  choice = choice_made g chosen (Solved s) t;
  prices = t.best_is.prices;
  potentials = t.best_is.potentials;
}

pub is_too_large : (g : Graph) (chosen : List Bool) (refusal : PathError) → TurnsSoFar g (length g.totals) chosen (TooLarge refusal) → IsTooLarge g refusal
is_too_large g chosen refusal t = record {
  chosen = chosen;
  choice = choice_made g chosen (TooLarge refusal) t;
  large = t.best_is;
}
