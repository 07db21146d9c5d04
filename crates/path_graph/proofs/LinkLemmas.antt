-- The arcs of each vertex, as they are linked.
use Rattle.std.proofs.Common.{◌≡◌, ℕ, zero, suc, ◌+◌, ◌<◌, ◌≤◌, List, [], ◌∷◌, ◌++◌, set, replicate, length, get_or, refl, sym, ap, subst, ◌∙◌, inl, inr, get_or-set_same, get_or-set_other, arith}
use Rattle.std.specs.Prelude.{Option, Some, None, MatchOption}
use Rattle.std.specs.List.{All, Contains}
use Rattle.std.proofs.Math.ListN.{length-set}
use Rattle.std.proofs.lemmas.Bool.{cases_lt}
use Rattle.std.proofs.lemmas.List.{length-replicate, get_or-replicate, get_or_default, get_or_past}
use Rattle.std.proofs.lemmas.List.Elements.{All-push, All-from_get_or, Contains-append_left, Contains-push}
use Rattle.path_graph.specs.declared.graph.Graph.{Graph}
use Rattle.path_graph.specs.Graph.{arc_at}
use Rattle.path_graph.specs.Sources.{AreSources, NoneFrom, IsLastFrom, LastFrom, AreArcsBelow, AreArcsFrom, HasArcsOf, AreAdded, AreSame}
use Rattle.path_graph.proofs.Cases.{by_same}

-- ---- arcs are linked

pub nothing_linked : (g : Graph) (last previous : List (Option ℕ)) → last ≡ replicate (length g.finish) None → length previous ≡ length g.arcs → AreArcsBelow g 0 last previous
nothing_linked g last previous e long = record {
  last_count = ap length e ∙ length-replicate (length g.finish) None;
  previous_count = long;
  vertices = λ v h.
      let is : get_or last v None ≡ None = ap (λ xs. get_or xs v None) e ∙ get_or-replicate (length g.finish) v None None h in
      subst (LastFrom g v 0) (sym is) (record { none = λ a k q. absurd (omega arith) });
  arcs = λ a h. absurd (omega arith);
}

module _ (g : Graph) (n : ℕ) (last previous : List (Option ℕ)) (s : AreArcsBelow g n last previous) (h : n < length g.arcs) (b : (arc_at g n).from < length g.finish) where
  abbrev source : ℕ
  source = (arc_at g n).from

  kept_none : (u : ℕ) → (u ≡ source → ⊥) → NoneFrom g u n → NoneFrom g u (n + 1)
  kept_none u apart f = record {
    none = λ a k q. elim (cases_lt a n) [
      | inl m ↦ f.none a m q
      | inr m ↦ let is : a ≡ n = omega arith in absurd (apart (sym q ∙ ap (λ j. (arc_at g j).from) is))
    ];
  }

  kept_last : (u a : ℕ) → (u ≡ source → ⊥) → IsLastFrom g u n a → IsLastFrom g u (n + 1) a
  kept_last u a apart f = record {
    below = (let m = f.below in omega arith);
    from = f.from;
    last = λ c above k q. elim (cases_lt c n) [
      | inl m ↦ f.last c above m q
      | inr m ↦ let is : c ≡ n = omega arith in absurd (apart (sym q ∙ ap (λ j. (arc_at g j).from) is))
    ];
  }

  kept : (u : ℕ) (o : Option ℕ) → (u ≡ source → ⊥) → LastFrom g u n o → LastFrom g u (n + 1) o
  kept u None apart f = kept_none u apart f
  kept u (Some a) apart f = kept_last u a apart f

  here : IsLastFrom g source (n + 1) n
  here = record { below = omega arith; from = refl; last = λ c above k q. absurd (omega arith) }

  pub one_linked : AreArcsBelow g (n + 1) (set last source (Some n)) (set previous n (get_or last source None))
  one_linked = record {
    last_count = length-set last source (Some n) ∙ s.last_count;
    previous_count = length-set previous n (get_or last source None) ∙ s.previous_count;
    vertices = λ u k. by_same u source
        (λ e.
        let is : get_or (set last source (Some n)) u None ≡ Some n = ap (λ w. get_or (set last source (Some n)) w None) e ∙ get_or-set_same last source (Some n) None (subst (λ (m : ℕ). source < m) (sym s.last_count) b) in
        let F : ℕ → Type 0 = λ w. LastFrom g w (n + 1) (Some n) in
        subst (LastFrom g u (n + 1)) (sym is) (subst F (sym e) here))
        (λ apart. subst (LastFrom g u (n + 1)) (sym (get_or-set_other last source u (Some n) None apart)) (kept u (get_or last u None) apart (s.vertices u k)));
    arcs = λ a k. elim (cases_lt a n) [
      | inl m ↦
          let apart : a ≡ n → ⊥ = λ e. absurd (omega arith) in
          subst (LastFrom g (arc_at g a).from a) (sym (get_or-set_other previous n a (get_or last source None) None apart)) (s.arcs a m)
      | inr m ↦
          let e : n ≡ a = omega arith in
          let is : get_or (set previous n (get_or last source None)) n None ≡ get_or last source None = get_or-set_same previous n (get_or last source None) None (subst (λ (j : ℕ). n < j) (sym s.previous_count) h) in
          let F : ℕ → Type 0 = λ j. LastFrom g (arc_at g j).from j (get_or (set previous n (get_or last source None)) j None) in
          subst F e (subst (LastFrom g source n) (sym is) (s.vertices source b))
    ];
  }
