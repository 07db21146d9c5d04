-- Walks: what inequalities along arcs say of a whole walk, and the members on a closed walk.
use Rattle.std.proofs.Common.{ℕ, ◌<◌, List, [], ◌∷◌, length, sym, subst, arith}
use Rattle.std.specs.Prelude.{ℤ, pos, ◌+ℤ◌, ◌≤ℤ◌}
use Rattle.std.specs.List.{All}
use Rattle.std.proofs.lemmas.Int.{ints}
use Rattle.std.proofs.lemmas.List.Elements.{All-head, All-tail}
use Rattle.path_graph.specs.declared.graph.Graph.{Graph}
use Rattle.path_graph.specs.Graph.{arc_at, IsWalk, weight_along}

module _ (g : Graph) where
  -- the inequality of each arc, summed up along a walk
  pub telescope : (weight val : ℕ → ℤ) (P : ℕ → Type 0) → ((a : ℕ) → a < length g.arcs → P a → (weight a +ℤ val (arc_at g a).to) ≤ℤ val (arc_at g a).from) → (walk : List ℕ) (v w : ℕ) → IsWalk g v walk w → All P walk → (weight_along weight walk +ℤ val w) ≤ℤ val v
  telescope weight val P each [] v w is all =
      let F : ℕ → Type 0 = λ u. (pos 0 +ℤ val w) ≤ℤ val u in
      subst F (sym is) (omega (arith, ints))
  telescope weight val P each (a ∷ walk) v w is all =
      let F : ℕ → Type 0 = λ u. (weight_along weight (a ∷ walk) +ℤ val w) ≤ℤ val u in
      let here = each a is.0 (All-head P a walk all) in
      let rest = telescope weight val P each walk (arc_at g a).to w is.2 (All-tail P a walk all) in
      subst F is.1 (omega (arith, ints))

  -- a walk from a vertex ends at a vertex
  pub walk_end : ((a : ℕ) → a < length g.arcs → (arc_at g a).to < length g.finish) → (walk : List ℕ) (v w : ℕ) → v < length g.finish → IsWalk g v walk w → w < length g.finish
  walk_end targets [] v w h is = subst (λ (u : ℕ). u < length g.finish) is h
  walk_end targets (a ∷ walk) v w h is = walk_end targets walk (arc_at g a).to w (targets a is.0) is.2
