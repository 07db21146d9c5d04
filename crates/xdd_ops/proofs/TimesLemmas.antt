-- Places that have one text have the same time at every combination, in whatever tables.
use Rattle.std.proofs.Common.{◌≡◌, ℕ, zero, suc, ◌-◌, ◌<◌, ◌≤◌, Bool, List, length, slice_get, get_or, Some, refl, sym, ap, ◌∙◌, arith, inl, inr, if◌then◌else◌}
use Rattle.std.proofs.lemmas.Bool.{cases_lt}
use Rattle.std.proofs.lemmas.Option.{slice_get-get_or}
use Rattle.xdd_table.specs.declared.node.Node.{Node}
use Rattle.xdd_table.specs.declared.node.Node.TheVariants.{Leaf, Branch}
use Rattle.xdd_table.specs.Diagram.{Combination, time, IsTable}
use Rattle.xdd_table.proofs.Canonical.{leaf_time, branch_time}
use Rattle.xdd_ops.specs.Text.{IsTextOf}
use Rattle.xdd_ops.specs.Read.{IsLineAt, AreLines, placed, ArePlaced}
use Rattle.xdd_ops.proofs.AnswerLemmas.{placed_in}
use Rattle.xdd_ops.proofs.GrammarLemmas.{one_reading}
use Rattle.xdd_ops.proofs.PrintedLemmas.{printed_lines, count, proper, all, last_is, has_lines}

either_same : (c : Bool) (x y u v : ℕ) → x ≡ u → y ≡ v → (if c then x else y) ≡ (if c then u else v)
either_same c x y u v e e' = rw (e, e') refl

-- the same lines at places of two tables
module _ (a b lines : List Node) (ps qs : List ℕ) (first : IsTable a) (second : IsTable b) (lawful : AreLines lines) (xs : ArePlaced a lines ps) (ys : ArePlaced b lines qs)
    (n : length ps ≡ length lines) (m : length qs ≡ length lines) (f : Combination) where
  same_time : (i p q : ℕ) (x : Node) → slice_get a p ≡ Some (placed ps x) → slice_get b q ≡ Some (placed qs x) → IsLineAt lines i x
      → ((j : ℕ) → j < i → time a f (get_or ps j 0) ≡ time b f (get_or qs j 0)) → time a f p ≡ time b f q
  same_time i p q (Leaf t) is is' w before = leaf_time a first f p t is ∙ sym (leaf_time b second f q t is')
  same_time i p q (Branch e hit miss) is is' w before =
      branch_time a first f p e (record { place = get_or ps hit.place 0 }) (record { place = get_or ps miss.place 0 }) is
      ∙ (either_same (f e) (time a f (get_or ps miss.place 0)) (time a f (get_or ps hit.place 0)) (time b f (get_or qs miss.place 0)) (time b f (get_or qs hit.place 0))
      (before miss.place w.miss_earlier) (before hit.place w.hit_earlier)
      ∙ sym (branch_time b second f q e (record { place = get_or qs hit.place 0 }) (record { place = get_or qs miss.place 0 }) is'))

  same_times : (k : ℕ) → k ≤ length lines → (i : ℕ) → i < k → time a f (get_or ps i 0) ≡ time b f (get_or qs i 0)
  same_times zero most i h = absurd (omega arith)
  same_times (suc k) most i h = elim (cases_lt i k) [
    | inl l ↦ same_times k (omega arith) i l
    | inr g ↦
        let l : slice_get lines i ≡ Some (get_or lines i (Leaf 0)) = slice_get-get_or lines i (Leaf 0) (omega arith) in
        same_time i (get_or ps i 0) (get_or qs i 0) (get_or lines i (Leaf 0))
        (xs.each i (get_or ps i 0) (get_or lines i (Leaf 0)) (slice_get-get_or ps i 0 (omega arith)) l)
        (ys.each i (get_or qs i 0) (get_or lines i (Leaf 0)) (slice_get-get_or qs i 0 (omega arith)) l)
        (lawful.each i (get_or lines i (Leaf 0)) l) (λ j less. same_times k (omega arith) j (omega arith))
  ]

pub text_times : (a b : List Node) (p q : ℕ) (text : List ℕ) → IsTextOf a p text → IsTextOf b q text → (f : Combination) → time a f p ≡ time b f q
text_times a b p q text t u f =
    let s = one_reading text (printed_lines a p text t) (has_lines a p text t) (printed_lines b q text u) (has_lines b q text u) in
    let c = count a p text t in
    let d : length u.places ≡ length (printed_lines a p text t) = count b q text u ∙ ap length s in
    let some = (has_lines a p text t).some in
    let i : length t.places - 1 ≡ length u.places - 1 = omega (arith, c, d) in
    let e = same_times a b (printed_lines a p text t) t.places u.places t.table u.table (proper a p text t) (all a p text t)
    (placed_in b (printed_lines b q text u) (printed_lines a p text t) u.places s (all b q text u)) c d f (length (printed_lines a p text t)) (omega arith) (length t.places - 1) (omega (arith, c, some)) in
    sym (ap (time a f) (last_is a p text t)) ∙ (e ∙ (ap (λ k. time b f (get_or u.places k 0)) i ∙ ap (time b f) (last_is b q text u)))
