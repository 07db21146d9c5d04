-- The greatest difference of two diagrams, from those of their branches.
use Rattle.std.proofs.Common.{◌≡◌, ℕ, ◌-◌, ◌≤◌, inl, inr, Bool, true, false, List, Some, Option, refl, sym, ◌∙◌, arith, if◌then◌else◌, max, cond, nat_eq, ◌&&◌}
use Rattle.std.proofs.lemmas.Bool.{cases_lt}
use Rattle.std.proofs.lemmas.Bool.Decides.{nat_tests}
use Rattle.xdd_table.specs.declared.node.Dd.{Dd}
use Rattle.xdd_table.specs.declared.node.Node.{Node}
use Rattle.xdd_table.specs.Diagram.{Combination, with_event, time}
use Rattle.xdd_ops.specs.Cofactors.{IsSplit, AreLeaves}
use Rattle.xdd_ops.specs.Given.{IsGreatestDifference, AreDifferences, same_places}

pub leaves_difference : (nodes : List Node) (a b t u : ℕ) → AreLeaves nodes a b t u → IsGreatestDifference nodes a b (t - u)
leaves_difference nodes a b t u l = let f : Combination = λ e. false in record {
  bound = λ f. rw (l.first f, l.second f) (omega arith);
  attained = (f, rw (l.first f, l.second f) refl);
}

either_bound : (b : Bool) (x y m m' h h' n k : ℕ) → x ≡ (if b then m else h) → y ≡ (if b then m' else h') → m - m' ≤ n → h - h' ≤ k → x - y ≤ max k n
either_bound true x y m m' h h' n k e e' l l' = rw (e, e') (omega arith)
either_bound false x y m m' h h' n k e e' l l' = rw (e, e') (omega arith)

module _ (nodes : List Node) (a b event : ℕ) (hits misses : Dd × Dd) (s : IsSplit nodes a b event hits misses) (k n : ℕ)
    (x : IsGreatestDifference nodes hits.0.place hits.1.place k) (y : IsGreatestDifference nodes misses.0.place misses.1.place n) where
  split_attained : (f : Combination) × (max k n ≡ time nodes f a - time nodes f b)
  split_attained = elim (cases_lt k n) [
    | inl l ↦
        let f : Combination = y.attained.0 in
        let e : max k n ≡ n = omega arith in
        (with_event f event true, rw (← s.first.miss_time f, ← s.second.miss_time f) (e ∙ y.attained.1))
    | inr g ↦
        let f : Combination = x.attained.0 in
        let e : max k n ≡ k = omega arith in
        (with_event f event false, rw (← s.first.hit_time f, ← s.second.hit_time f) (e ∙ x.attained.1))
  ]

  pub split_difference : IsGreatestDifference nodes a b (max k n)
  split_difference = record {
    bound = λ f. either_bound (f event) (time nodes f a) (time nodes f b) (time nodes f misses.0.place) (time nodes f misses.1.place) (time nodes f hits.0.place) (time nodes f hits.1.place) n k
        (s.first.times f) (s.second.times f) (y.bound f) (x.bound f);
    attained = split_attained;
  }

one_more : (nodes : List Node) (t u : Bool) (a b p q m n : ℕ) (before : Option ℕ) → t ≡ nat_eq a p → u ≡ nat_eq b q → IsGreatestDifference nodes a b m
    → (before ≡ Some n → IsGreatestDifference nodes p q n) → cond (t && u) (Some m) before ≡ Some n → IsGreatestDifference nodes p q n
one_more nodes true true a b p q m n before same same' x y is =
    let e : a ≡ p = grind (arith, nat_tests) in
    let e' : b ≡ q = grind (arith, nat_tests) in
    let e'' : m ≡ n = cc in
    rw (← e, ← e', ← e'') x
one_more nodes true false a b p q m n before same same' x y is = y is
one_more nodes false u a b p q m n before same same' x y is = y is

pub all_differences_more : (nodes : List Node) (a b n : ℕ) (kept next : ℕ × ℕ → Option ℕ) → AreDifferences nodes kept → IsGreatestDifference nodes a b n
    → ((q : ℕ × ℕ) → next q ≡ cond (same_places (a, b) q) (Some n) (kept q)) → AreDifferences nodes next
all_differences_more nodes a b n kept next all x updates = record {
  each = λ p q m is. one_more nodes (nat_eq a p) (nat_eq b q) a b p q n m (kept (p, q)) refl refl x (all.each p q m) (sym (updates (p, q)) ∙ is);
}
