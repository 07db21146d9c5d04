-- Numbers that are chosen one after the other.
use Rattle.std.proofs.Common.{◌≡◌, ℕ, zero, suc, ◌+◌, ◌<◌, ◌≤◌, ◌⊎◌, Bool, true, false, List, [], ◌∷◌, ◌++◌, length, get_or, refl, sym, ap, ◌∙◌, subst, inl, inr, arith}
use Rattle.std.specs.List.{All, AllPairs, Contains}
use Rattle.std.proofs.lemmas.Bool.{cases_lt}
use Rattle.std.proofs.lemmas.List.Elements.{Contains-append_left, Contains-get_or, Contains-push, Contains-push_cases}
use Rattle.std.proofs.lemmas.List.Quantifiers.{all_pairs_push}
use Rattle.flow_ctx.specs.Chosen.{AreChosen}

module _ (P : ℕ → Type 0) where
  -- those among the first i
  abbrev pub To : ℕ → ℕ → Type 0
  To i n = (n < i) × P n

  pub chosen_none : AreChosen (To 0) []
  chosen_none = record {
    ascending = λ i j d less within. absurd (omega (arith, within));
    exact = λ n. (λ c. absurd (omega (arith, c.1)), λ h. absurd (omega (arith, h.0)));
  }

  pub chosen_yes : (i : ℕ) (list : List ℕ) → AreChosen (To i) list → P i → AreChosen (To (i + 1)) (list ++ i ∷ [])
  chosen_yes i list a p = record {
    ascending = all_pairs_push (λ x y. x < y) list i a.ascending (λ k d within. ((a.exact (get_or list k d)).0 (Contains-get_or list k d within)).0);
    exact = λ n. (
      λ c. elim (Contains-push_cases list i n c) [
        | inl b ↦ let h = (a.exact n).0 b in (omega (arith, h.0), h.1)
        | inr e ↦ (omega (arith, e), subst P e p)
      ],
      λ h. elim (cases_lt n i) [
        | inl less ↦ Contains-append_left list (i ∷ []) n ((a.exact n).1 (less, h.1))
        | inr more ↦ let e : i ≡ n = omega (arith, h.0) in subst (λ (x : ℕ). Contains (list ++ i ∷ []) x) e (Contains-push list i)
      ],
    );
  }

  pub chosen_no : (i : ℕ) (list : List ℕ) → AreChosen (To i) list → (P i → ⊥) → AreChosen (To (i + 1)) list
  chosen_no i list a none = record {
    ascending = a.ascending;
    exact = λ n. (
      λ c. let h = (a.exact n).0 c in (omega (arith, h.0), h.1),
      λ h. elim (cases_lt n i) [
        | inl less ↦ (a.exact n).1 (less, h.1)
        | inr more ↦ let e : n ≡ i = omega (arith, h.0) in absurd (none (subst P e h.1))
      ],
    );
  }

  pub chosen_all : (i : ℕ) (list : List ℕ) → AreChosen (To i) list → ((n : ℕ) → P n → n < i) → AreChosen P list
  chosen_all i list a within = record { ascending = a.ascending; exact = λ n. (λ c. ((a.exact n).0 c).1, λ p. (a.exact n).1 (within n p, p)) }
