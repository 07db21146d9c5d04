-- The inequalities of arcs, one after the other and window by window.
use Rattle.std.proofs.Common.{◌≡◌, ℕ, false, ◌+◌, ◌*◌, ◌^◌, ◌<◌, List, length, get_or, sym, ap, subst, ◌∙◌, inl, inr, arith}
use Rattle.std.specs.Prelude.{ℤ, pos, ◌+ℤ◌, ◌≤ℤ◌}
use Rattle.std.specs.Int.{w128}
use Rattle.std.specs.Int.{w64}
use mir.Val.{to_z, of_z, Fits}
use lib.Signed.{lt_z}
use Rattle.std.proofs.lemmas.Int.{ints}
use Rattle.std.proofs.lemmas.Bool.{cases_lt}
use Rattle.path_graph.specs.Conditions.{IsWithin}
use Rattle.path_graph.specs.declared.graph.Graph.{Graph}
use Rattle.path_graph.specs.declared.graph.LoopPrices.{LoopPrices}
use Rattle.path_graph.specs.Graph.{arc_at}
use Rattle.path_problem.specs.Weight.{full_weight}
use Rattle.path_problem.specs.Potential.{CoversArc, AreCovered}

-- the inequalities of the arcs below a number hold
pub record CoveredSoFar (g : Graph) (prices : LoopPrices) (p : List ℕ) (end : ℕ) : Type 0 where
  pub each : (a : ℕ) → a < end → a < length g.arcs → CoversArc g prices p a

module _ (g : Graph) (prices : LoopPrices) (p : List ℕ) where
  pub covered_more : (first at : ℕ) → AreCovered g prices p first (first + at) → CoversArc g prices p (first + at) → AreCovered g prices p first (first + (at + 1))
  covered_more first at so here = record {
    each = λ a l h. elim (cases_lt a (first + at)) [
      | inl b ↦ so.each a l b
      | inr b ↦ let e : first + at ≡ a = omega arith in subst (CoversArc g prices p) e here
    ];
  }

  pub next_window : (w size : ℕ) → CoveredSoFar g prices p (w * 8192) → AreCovered g prices p (w * 8192) (w * 8192 + size) → ((a : ℕ) → a < (w + 1) * 8192 → a < length g.arcs → a < w * 8192 + size) → CoveredSoFar g prices p ((w + 1) * 8192)
  next_window w size so more short = record {
    each = λ a h l. elim (cases_lt a (w * 8192)) [
      | inl b ↦ so.each a b l
      | inr b ↦ more.each a b (short a h l)
    ];
  }

  -- the inequality of an arc, as the code tests it
  pub covers : (a : ℕ) (weight : ℤ) (source target : ℕ) → weight ≡ full_weight g prices a → target ≡ get_or p (arc_at g a).to 0 → source ≡ get_or p (arc_at g a).from 0 → (weight +ℤ pos target) ≤ℤ pos source → CoversArc g prices p a
  covers a weight source target e t s h =
      let F : ℤ → Type 0 = λ z. (z +ℤ pos (get_or p (arc_at g a).to 0)) ≤ℤ pos (get_or p (arc_at g a).from 0) in
      let G : ℕ → Type 0 = λ n. (weight +ℤ pos n) ≤ℤ pos (get_or p (arc_at g a).from 0) in
      let H : ℕ → Type 0 = λ n. (weight +ℤ pos target) ≤ℤ pos n in
      subst F e (subst G t (subst H s h))

not_below : (a b : ℤ) → lt_z b a ≡ false → a ≤ℤ b
not_below a b h = grind (arith, ints)

-- what a test of a sum against a number says
pub tested : (bound m n : ℕ) (w x y : ℤ) → IsWithin bound w → bound < 2 ^ 126 → m < 2 ^ 64 → n < 2 ^ 64 → x ≡ pos m → y ≡ pos n → lt_z (to_z w128 (of_z w128 y)) (to_z w128 (of_z w128 (to_z w128 (of_z w128 w) +ℤ to_z w128 (of_z w128 x)))) ≡ false → (w +ℤ pos m) ≤ℤ pos n
tested bound m n w x y within small a b e q test =
    let l = within.low in
    let h = within.high in
    let u : to_z w128 (of_z w128 y) ≡ pos n = omega (arith, ints) in
    let v : to_z w128 (of_z w128 x) ≡ pos m = omega (arith, ints) in
    let s : to_z w128 (of_z w128 w) ≡ w = omega (arith, ints) in
    let r : to_z w128 (of_z w128 (w +ℤ pos m)) ≡ (w +ℤ pos m) = omega (arith, ints) in
    let t : lt_z (pos n) (w +ℤ pos m) ≡ false =
    ap (λ z. lt_z z (w +ℤ pos m)) (sym u) ∙ ap (λ z. lt_z (to_z w128 (of_z w128 y)) z) (sym r ∙ ap (λ z. to_z w128 (of_z w128 (w +ℤ z))) (sym v) ∙ ap (λ z. to_z w128 (of_z w128 (z +ℤ to_z w128 (of_z w128 x)))) (sym s)) ∙ test in
    not_below (w +ℤ pos m) (pos n) t

pub fits64 : (n : ℕ) → Fits w64 n → n < 2 ^ 64
fits64 n h = omega arith
