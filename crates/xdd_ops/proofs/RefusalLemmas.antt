-- Lines that are not needed, told by their places in a table.
use Rattle.std.proofs.Common.{◌≡◌, ◌≢◌, ℕ, ◌+◌, ◌<◌, ◌≤◌, Bool, true, false, List, [], ◌∷◌, ◌++◌, length, slice_get, get_or, Some, refl, sym, ap, ◌∙◌, arith, inl, inr, if◌then◌else◌, eqb}
use Rattle.std.proofs.lemmas.Bool.{false≢true}
use Rattle.std.proofs.lemmas.Bool.Decides.{nat_tests}
use Rattle.std.proofs.lemmas.Option.{slice_get_within, slice_get-get_or}
use Rattle.std.specs.List.{list_any}
use Rattle.xdd_table.specs.declared.node.Dd.{Dd}
use Rattle.xdd_table.specs.declared.node.Node.{Node}
use Rattle.xdd_table.specs.declared.node.Node.TheVariants.{Leaf, Branch}
use Rattle.xdd_table.specs.Diagram.{Keeps, IsTable, IsBranchAt}
use Rattle.xdd_ops.specs.Read.{IsLineAt, AreLines, placed, ArePlaced, IsPlaceOf}
use Rattle.xdd_ops.specs.Refusal.{IsUnreduced, alike, repeated, IsFirstUnreduced}
use Rattle.xdd_ops.proofs.LineLemmas.{dd_same, hit_place, miss_place}
use Rattle.xdd_ops.proofs.PlaceLemmas.{spot, listed, one_index}

-- a place that was taken at another position stood there before
record Known (places : List ℕ) (p : ℕ) : Type 0 where
  at : ℕ
  is : slice_get places at ≡ Some p

known_by : (b : Bool) (places new : List ℕ) (p k position : ℕ) → list_any (eqb p) places ≡ b → new ≡ (if b then places else places ++ p ∷ []) → slice_get new position ≡ Some k
    → eqb p k ≡ true → position ≢ length places → Known places p
known_by true places new p k position e is at same other =
    let s : k ≡ p = grind (arith, nat_tests) in
    record { at = position; is = rw (is, s) at at }
known_by false places new p k position e is at same other =
    let s : k ≡ p = grind (arith, nat_tests) in
    elim (spot places p position k (rw is at at)) [
      | inl a ↦ absurd (false≢true (sym e ∙ listed places position p (rw s at a)))
      | inr a ↦ absurd (other a.0)
    ]

module _ (nodes lines : List Node) (places : List ℕ) (all : ArePlaced nodes lines places) (proper : AreLines lines) where
  -- lines of one place are one
  one_line : (j k : ℕ) → j < length places → k < length places → get_or places j 0 ≡ get_or places k 0 → j ≡ k
  one_line = one_index places (record { each = all.apart })

  same_line : (j : ℕ) (x y : Node) → IsLineAt lines (length places) x → j < length places → IsLineAt lines j y → placed places y ≡ placed places x → y ≡ x
  same_line j (Leaf t) (Leaf u) w h v e = e
  same_line j (Leaf t) (Branch e' hit' miss') w h v e = cc
  same_line j (Branch e hit miss) (Leaf u) w h v e' = cc
  same_line j (Branch e hit miss) (Branch e' hit' miss') w h v is =
      let event : e' ≡ e = cc in
      let hits : get_or places hit'.place 0 ≡ get_or places hit.place 0 = ap hit_place is in
      let misses : get_or places miss'.place 0 ≡ get_or places miss.place 0 = ap miss_place is in
      let a = dd_same hit' hit (one_line hit'.place hit.place (omega (arith, v.hit_earlier)) w.hit_earlier hits) in
      let b = dd_same miss' miss (one_line miss'.place miss.place (omega (arith, v.miss_earlier)) w.miss_earlier misses) in
      rw (event, a, b) refl

  module _ (later : List Node) (keeps : Keeps nodes later) (i p : ℕ) (count : length places ≡ i) (h : i < length lines) (known : Known places p) where
    -- the line that stands at the place
    earlier : Node
    earlier = get_or lines known.at (Leaf 0)

    known_in : known.at < length places
    known_in = slice_get_within places known.at p known.is

    earlier_is : slice_get lines known.at ≡ Some (get_or lines known.at (Leaf 0))
    earlier_is = let k = known_in in slice_get-get_or lines known.at (Leaf 0) (omega arith)

    node_is : slice_get later p ≡ Some (placed places (get_or lines known.at (Leaf 0)))
    node_is = keeps.nodes p (all.within known.at p known.is) ∙ all.each known.at p (get_or lines known.at (Leaf 0)) known.is earlier_is

    repeats : (x : Node) → slice_get lines i ≡ Some x → IsLineAt lines (length places) x → slice_get later p ≡ Some (placed places x) → IsUnreduced lines i
    repeats x at w is =
        let e : placed places (get_or lines known.at (Leaf 0)) ≡ placed places x = (let n = node_is in cc) in
        let s = same_line known.at x (get_or lines known.at (Leaf 0)) w known_in (proper.each known.at (get_or lines known.at (Leaf 0)) earlier_is) e in
        let k = known_in in
        repeated {i = i} {j = known.at} (omega arith) (earlier_is ∙ (ap Some s ∙ sym at))

    by_branch : (e : ℕ) (hit miss : Dd) (b : Bool) → eqb (get_or places hit.place 0) (get_or places miss.place 0) ≡ b → slice_get lines i ≡ Some (Branch e hit miss)
        → IsLineAt lines (length places) (Branch e hit miss) → IsPlaceOf later places (Branch e hit miss) p → IsUnreduced lines i
    by_branch e hit miss true t at w is =
        let same : get_or places hit.place 0 ≡ get_or places miss.place 0 = grind (arith, nat_tests) in
        let d = dd_same miss hit (sym (one_line hit.place miss.place w.hit_earlier w.miss_earlier same)) in
        alike {i = i} {e = e} {d = hit} (at ∙ ap (λ m. Some (Branch e hit m)) d)
    by_branch e hit miss false t at w is =
        let other : get_or places hit.place 0 ≢ get_or places miss.place 0 = (λ s. let t' : eqb (get_or places hit.place 0) (get_or places miss.place 0) ≡ true = grind (arith, nat_tests) in false≢true (sym t ∙ t')) in
        repeats (Branch e hit miss) at w (is.1 other)

    unreduced_line : (x : Node) → slice_get lines i ≡ Some x → IsLineAt lines (length places) x → IsPlaceOf later places x p → IsUnreduced lines i
    unreduced_line (Leaf t) at w is = repeats (Leaf t) at w is
    unreduced_line (Branch e hit miss) at w is = by_branch e hit miss (eqb (get_or places hit.place 0) (get_or places miss.place 0)) refl at w is

  -- lines that have places of their own are needed
  pub needed : (later : List Node) → Keeps nodes later → IsTable later → length places ≤ length lines → (k : ℕ) → k < length places → IsUnreduced lines k → ⊥
  needed later keeps table most k h (alike {i} {e} {d} at) =
      let q : ℕ = get_or places i 0 in
      let n : slice_get later (get_or places i 0) ≡ Some (placed places (Branch e d d)) =
      keeps.nodes (get_or places i 0) (all.within i (get_or places i 0) (slice_get-get_or places i 0 h)) ∙ all.each i (get_or places i 0) (Branch e d d) (slice_get-get_or places i 0 h) at in
      let w : IsBranchAt later (get_or places i 0) e (get_or places d.place 0) (get_or places d.place 0) = table.each (get_or places i 0) (placed places (Branch e d d)) n in
      w.differ refl
  needed later keeps table most k h (repeated {i} {j} less same) =
      let x : Node = get_or lines i (Leaf 0) in
      let at : slice_get lines i ≡ Some (get_or lines i (Leaf 0)) = slice_get-get_or lines i (Leaf 0) (omega arith) in
      let n = all.each i (get_or places i 0) (get_or lines i (Leaf 0)) (slice_get-get_or places i 0 h) at in
      let m = all.each j (get_or places j 0) (get_or lines i (Leaf 0)) (slice_get-get_or places j 0 (omega arith)) (same ∙ at) in
      let n' = keeps.nodes (get_or places i 0) (all.within i (get_or places i 0) (slice_get-get_or places i 0 h)) ∙ n in
      let m' = keeps.nodes (get_or places j 0) (all.within j (get_or places j 0) (slice_get-get_or places j 0 (omega arith))) ∙ m in
      let e = table.once (get_or places j 0) (get_or places i 0) (placed places (get_or lines i (Leaf 0))) m' n' in
      let s = one_line j i (omega arith) h e in
      omega arith

  pub first_unreduced : (later : List Node) (new : List ℕ) (i p k position line : ℕ) → Keeps nodes later → IsTable later → length places ≡ i → i < length lines
      → IsPlaceOf later places (get_or lines i (Leaf 0)) p → new ≡ (if list_any (eqb p) places then places else places ++ p ∷ []) → slice_get new position ≡ Some k → eqb p k ≡ true
      → position ≢ i → line ≡ i + 2 → IsFirstUnreduced lines line
  first_unreduced later new i p k position line keeps table count h is keys stored same other counted =
      let known = known_by (list_any (eqb p) places) places new p k position refl keys stored same (λ e. other (e ∙ count)) in
      let at = slice_get-get_or lines i (Leaf 0) h in
      record {
        index = i;
        counted = counted;
        within = h;
        unreduced = unreduced_line later keeps i p count h known (get_or lines i (Leaf 0)) at (rw count (proper.each i (get_or lines i (Leaf 0)) at)) is;
        first = λ n l u. needed later keeps table (omega arith) n (omega arith) u;
      }
