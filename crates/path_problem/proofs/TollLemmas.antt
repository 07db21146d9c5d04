-- Weights under the tolls of the first loops.
use Rattle.std.proofs.Common.{◌≡◌, ℕ, ◌+◌, ◌*◌, ◌^◌, ◌<◌, ◌≤◌, cond, List, [], ◌∷◌, ◌++◌, take, length, get_or, sym, ap, subst, ◌∙◌, arith}
use Rattle.std.specs.Prelude.{ℤ, pos, ◌+ℤ◌, ◌-ℤ◌, ◌*ℤ◌, neg_ℤ, FitsSigned}
use Rattle.std.specs.Int.{w128}
use Rattle.std.specs.List.{All, zip}
use mir.Val.{to_z, of_z}
use Rattle.std.proofs.lemmas.Int.{ints, to_z-of_z}
use Rattle.std.proofs.Math.Nat.{mul-le-mul_left}
use Rattle.path_graph.specs.declared.graph.TheConstants.{LARGEST}
use Rattle.std.proofs.lemmas.List.{take_more, length-map, get_or-map, take_all}
use Rattle.std.proofs.lemmas.Slice.Zip.{length-zip, get_or-zip}
use Rattle.std.specs.Prelude.{None}
use Rattle.path_graph.specs.declared.graph.LoopArcs.{LoopArcs}
use Rattle.std.proofs.lemmas.List.Sums.{sum_by_push}
use Rattle.std.proofs.lemmas.List.Elements.{All-from_get_or}
use Rattle.path_graph.specs.declared.graph.Graph.{Graph}
use Rattle.path_graph.specs.declared.graph.LoopPrices.{LoopPrices}
use Rattle.path_graph.specs.Graph.{has, loop_at}
use Rattle.path_graph.specs.Conditions.{IsWithin, HasPrices}
use Rattle.path_problem.specs.Weight.{Toll, gain_of, loss_of, total_price, price_toll, price_tolls}
use Rattle.path_problem.specs.Window.{IsAdded, AreWeights, toll_of, weight_limit}
use Rattle.path_graph.proofs.Cases.{by_test}

-- the weights with the tolls of the first loops
pub record WeightsSoFar (g : Graph) (prices : LoopPrices) (first count : ℕ) (weights : List ℤ) (stamps : List ℕ) : Type 0 where
  pub weights_are : AreWeights g (take count (price_tolls g prices)) first weights
  pub small : All (IsWithin (weight_limit count)) weights
  pub used : All (λ s. s ≤ 2 * count) stamps

pub fits_within : (n : ℕ) (z : ℤ) → IsWithin n z → n < 2 ^ 127 → FitsSigned w128 z
fits_within n z h b = omega (arith, ints)

pub within_sum : (m n k : ℕ) (y z : ℤ) → IsWithin m y → IsWithin n z → m + n ≤ k → IsWithin k (y +ℤ z)
within_sum m n k y z h j e = record { low = omega (arith, ints); high = omega (arith, ints) }

pub within_more : (m k : ℕ) (z : ℤ) → IsWithin m z → m ≤ k → IsWithin k z
within_more m k z h e = record { low = omega (arith, ints); high = omega (arith, ints) }

-- an amount that is added leaves weights within a bound greater by it
pub added_within : (listed : List ℕ) (first : ℕ) (amount : ℤ) (old new : List ℤ) (m n k : ℕ) → IsAdded listed first amount old new → length new ≡ length old → All (IsWithin m) old → IsWithin n amount → m + n ≤ k → All (IsWithin k) new
added_within listed first amount old new m n k added long all small e =
    All-from_get_or (IsWithin k) new (pos 0) (λ i h.
    let inside : i < length old = omega (arith, long) in
    let before = all i (pos 0) inside in
    let is = added.each i inside in
    by_test (has listed (first + i))
    (λ t. subst (IsWithin k) (sym (is ∙ ap (λ b. cond b (get_or old i (pos 0) +ℤ amount) (get_or old i (pos 0))) t)) (within_sum m n k _ _ before small e))
    (λ t. subst (IsWithin k) (sym (is ∙ ap (λ b. cond b (get_or old i (pos 0) +ℤ amount) (get_or old i (pos 0))) t)) (within_more m k _ before (omega arith))))

-- the sum still fits when a further amount is added
pub added_fits : (listed : List ℕ) (first : ℕ) (amount other : ℤ) (old new : List ℤ) (m n k : ℕ) → IsAdded listed first amount old new → length new ≡ length old → All (IsWithin m) old → IsWithin n amount → IsWithin k other → m + n + k < 2 ^ 127 → All (λ z. FitsSigned w128 (z +ℤ other)) new
added_fits listed first amount other old new m n k added long all small less e = λ i d h.
    let within = added_within listed first amount old new m n (m + n) added long all small (omega arith) i d h in
    fits_within (m + n + k) _ (within_sum (m + n) k (m + n + k) _ _ within less (omega arith)) e

-- both amounts of a toll together are the weights with the toll
pub with_toll : (g : Graph) (tolls : List Toll) (t : Toll) (first : ℕ) (amount other : ℤ) (old mid new : List ℤ) (es bs : List ℕ) → es ≡ t.arcs.entries → bs ≡ t.arcs.back → amount ≡ pos t.gain → other ≡ neg_ℤ (pos t.loss) → length mid ≡ length old → length new ≡ length mid → IsAdded es first amount old mid → IsAdded bs first other mid new → AreWeights g tolls first old → AreWeights g (tolls ++ t ∷ []) first new
with_toll g tolls t first amount other old mid new es bs ens bens e q long longer one' two' w =
    let one = subst (λ (l : List ℕ). IsAdded l first amount old mid) ens one' in
    let two = subst (λ (l : List ℕ). IsAdded l first other mid new) bens two' in
    record {
      each = λ k h.
          let b : k < length mid = omega (arith, longer) in
          let a : k < length old = omega (arith, long) in
          let is = w.each k a in
          let l = one.each k a in
          let m = two.each k b in
          let gains = sum_by_push (gain_of (first + k)) tolls t in
          let losses = sum_by_push (loss_of (first + k)) tolls t in
          by_test (has t.arcs.entries (first + k))
          (λ u.
          let l' = l ∙ ap (λ v. cond v (get_or old k (pos 0) +ℤ amount) (get_or old k (pos 0))) u in
          let gain : gain_of (first + k) t ≡ t.gain = ap (λ v. cond v t.gain 0) u in
          by_test (has t.arcs.back (first + k))
          (λ v.
          let m' = m ∙ ap (λ x. cond x (get_or mid k (pos 0) +ℤ other) (get_or mid k (pos 0))) v in
          let loss : loss_of (first + k) t ≡ t.loss = ap (λ x. cond x t.loss 0) v in
          omega (arith, ints))
          (λ v.
          let m' = m ∙ ap (λ x. cond x (get_or mid k (pos 0) +ℤ other) (get_or mid k (pos 0))) v in
          let loss : loss_of (first + k) t ≡ 0 = ap (λ x. cond x t.loss 0) v in
          omega (arith, ints)))
          (λ u.
          let l' = l ∙ ap (λ v. cond v (get_or old k (pos 0) +ℤ amount) (get_or old k (pos 0))) u in
          let gain : gain_of (first + k) t ≡ 0 = ap (λ v. cond v t.gain 0) u in
          by_test (has t.arcs.back (first + k))
          (λ v.
          let m' = m ∙ ap (λ x. cond x (get_or mid k (pos 0) +ℤ other) (get_or mid k (pos 0))) v in
          let loss : loss_of (first + k) t ≡ t.loss = ap (λ x. cond x t.loss 0) v in
          omega (arith, ints))
          (λ v.
          let m' = m ∙ ap (λ x. cond x (get_or mid k (pos 0) +ℤ other) (get_or mid k (pos 0))) v in
          let loss : loss_of (first + k) t ≡ 0 = ap (λ x. cond x t.loss 0) v in
          omega (arith, ints)));
    }

-- the amounts as the code works them out
pub gain_is : (x y : ℤ) (a b : ℕ) → x ≡ pos a → y ≡ pos b → a < 2 ^ 32 → b ≤ LARGEST → to_z w128 (of_z w128 (to_z w128 (of_z w128 x) *ℤ to_z w128 (of_z w128 y))) ≡ pos (a * b)
gain_is x y a b e q small less =
    let t = mul-le-mul_left a less in
    let f : FitsSigned w128 (pos (a * b)) = omega (arith, ints) in
    let one : to_z w128 (of_z w128 x) ≡ pos a = omega (arith, ints) in
    let two : to_z w128 (of_z w128 y) ≡ pos b = omega (arith, ints) in
    ap (λ z. to_z w128 (of_z w128 (z *ℤ to_z w128 (of_z w128 y)))) one ∙ ap (λ z. to_z w128 (of_z w128 (pos a *ℤ z))) two ∙ to_z-of_z w128 (pos (a * b)) f

pub loss_is : (x : ℤ) (a : ℕ) → x ≡ pos a → a ≤ 2 * LARGEST → to_z w128 (of_z w128 (pos 0 -ℤ to_z w128 (of_z w128 x))) ≡ neg_ℤ (pos a)
loss_is x a e small = omega (arith, ints)

pub gain_within : (z : ℤ) (a b : ℕ) → z ≡ pos (a * b) → a < 2 ^ 32 → b ≤ LARGEST → IsWithin (2 ^ 32 * LARGEST) z
gain_within z a b e small less =
    let t = mul-le-mul_left a less in
    record { low = omega (arith, ints); high = omega (arith, ints) }

pub loss_within : (z : ℤ) (a : ℕ) → z ≡ neg_ℤ (pos a) → a ≤ 2 * LARGEST → IsWithin (2 * LARGEST) z
loss_within z a e small = record { low = omega (arith, ints); high = omega (arith, ints) }

-- ---- the tolls of prices, loop by loop

pub toll_is : (g : Graph) (prices : LoopPrices) (arcs : LoopArcs) (price total l : ℕ) → arcs ≡ loop_at g l → price ≡ get_or prices.loops l 0 → total ≡ total_price prices.totals arcs.total → toll_of arcs (record { turns = arcs.maxcount; price = price; loss = price + total }) ≡ price_toll prices.totals (loop_at g l, get_or prices.loops l 0)
toll_is g prices arcs price total l e p t =
    let F : ℕ → Toll = λ n. toll_of arcs (record { turns = arcs.maxcount; price = price; loss = price + n }) in
    let G : ℕ → Toll = λ n. price_toll prices.totals (arcs, n) in
    let H : LoopArcs → Toll = λ a. price_toll prices.totals (a, get_or prices.loops l 0) in
    ap F t ∙ ap G p ∙ ap H e

pub one_toll : (g : Graph) (prices : LoopPrices) (l : ℕ) → HasPrices g prices → l < length g.loops → take (l + 1) (price_tolls g prices) ≡ take l (price_tolls g prices) ++ price_toll prices.totals (loop_at g l, get_or prices.loops l 0) ∷ []
one_toll g prices l priced h =
    let pairs = zip g.loops prices.loops in
    let none : LoopArcs = record { members = []; back = []; entries = []; maxcount = 0; total = None } in
    let long = length-zip g.loops prices.loops in
    let inside : l < length pairs = omega (arith, long, priced.loops) in
    let mapped = length-map pairs (price_toll prices.totals) in
    let here = get_or-map (price_toll prices.totals) pairs l (none, 0) (price_toll prices.totals (none, 0)) inside ∙ ap (price_toll prices.totals) (get_or-zip g.loops prices.loops l (none, 0) h (omega (arith, priced.loops))) in
    take_more (price_tolls g prices) l (price_toll prices.totals (none, 0)) (omega (arith, mapped)) ∙ ap (λ t. take l (price_tolls g prices) ++ t ∷ []) here

pub all_tolls : (g : Graph) (prices : LoopPrices) (l : ℕ) → HasPrices g prices → length g.loops ≤ l → take l (price_tolls g prices) ≡ price_tolls g prices
all_tolls g prices l priced h =
    let long = length-zip g.loops prices.loops in
    let mapped = length-map (zip g.loops prices.loops) (price_toll prices.totals) in
    take_all l (price_tolls g prices) (omega (arith, priced.loops))
