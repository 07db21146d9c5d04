-- The law on walks: what loops and totals allow pays for all that back arcs take.
use Rattle.std.proofs.Common.{◌≡◌, ℕ, ◌+◌, ◌*◌, ◌<◌, ◌≤◌, Bool, true, false, cond, List, [], ◌∷◌, length, get_or, refl, sym, ap, ◌∙◌, arith}
use Rattle.std.specs.Prelude.{ℤ, pos, ◌+ℤ◌, ◌≤ℤ◌, Option, Some, None, IfSome}
use Rattle.std.specs.List.{All, sum_by, zip}
use Rattle.std.proofs.lemmas.Int.{ints}
use Rattle.std.proofs.lemmas.Bool.{eq-eqb, ne_eqb}
use Rattle.std.proofs.lemmas.List.Sums.{sum_by-cons}
use Rattle.std.proofs.lemmas.List.Elements.{All-head, All-tail, All-from_get_or}
use Rattle.std.proofs.lemmas.Slice.Zip.{firsts-zip}
use Rattle.std.proofs.Math.Nat.{mul-le-mul_left}
use Rattle.path_graph.specs.declared.graph.Graph.{Graph}
use Rattle.path_graph.specs.declared.graph.LoopArcs.{LoopArcs}
use Rattle.path_graph.specs.declared.graph.LoopPrices.{LoopPrices}
use Rattle.path_graph.specs.Graph.{has, arc_at, loop_at, finish_at, weight_along}
use Rattle.path_problem.specs.Weight.{Toll, gain_of, loss_of, weight_under, total_price, price_toll, price_tolls, full_weight}
use Rattle.path_graph.specs.Conditions.{IsGraph, IsLoop, HasPrices}
use Rattle.path_problem.specs.Law.{turns, is_total, KeepsCount, KeepsCounts, loops_worth, totals_worth, PricesBoundWalks}
use Rattle.path_problem.proofs.Sums.{sum_by-both, sum_by-less, sum_by-none, sum_by-map, sum_below, sum_below-both, sum_below-none, sum_below-less, sum_below-one, products_below, All-zip}
use Rattle.path_graph.proofs.Cases.{by_test}
use Rattle.path_problem.proofs.CountLemmas.{count_by-cons, entries_of, turns-le}
use Rattle.path_problem.proofs.WalkLemmas.{telescope, walk_end}

-- all that a walk gains and loses by tolls
abbrev pub gains : List Toll → List ℕ → ℕ
gains tolls walk = sum_by (λ t. t.gain * entries_of walk t.arcs) tolls

abbrev pub losses : List Toll → List ℕ → ℕ
losses tolls walk = sum_by (λ t. t.loss * turns walk t.arcs) tolls

-- one more arc, for one toll
more_times : (n k : ℕ) (b : Bool) → n * (cond b 1 0 + k) ≡ cond b n 0 + n * k
more_times n k true = omega arith
more_times n k false = omega arith

pub gains-cons : (tolls : List Toll) (a : ℕ) (walk : List ℕ) → gains tolls (a ∷ walk) ≡ sum_by (gain_of a) tolls + gains tolls walk
gains-cons tolls a walk =
    sum_by-both (gain_of a) (λ t. t.gain * entries_of walk t.arcs) (λ t. t.gain * entries_of (a ∷ walk) t.arcs)
    (λ t. ap (λ n. t.gain * n) (count_by-cons (has t.arcs.entries) a walk) ∙ more_times t.gain (entries_of walk t.arcs) (has t.arcs.entries a)) tolls

pub losses-cons : (tolls : List Toll) (a : ℕ) (walk : List ℕ) → losses tolls (a ∷ walk) ≡ sum_by (loss_of a) tolls + losses tolls walk
losses-cons tolls a walk =
    sum_by-both (loss_of a) (λ t. t.loss * turns walk t.arcs) (λ t. t.loss * turns (a ∷ walk) t.arcs)
    (λ t. ap (λ n. t.loss * n) (count_by-cons (has t.arcs.back) a walk) ∙ more_times t.loss (turns walk t.arcs) (has t.arcs.back a)) tolls

abbrev pub own : Graph → ℕ → ℤ
own g a = (arc_at g a).weight

-- the weights along a walk are its own, with what it gains and loses
pub total-weight_under : (g : Graph) (tolls : List Toll) (walk : List ℕ) → (weight_along (weight_under g tolls) walk +ℤ pos (losses tolls walk)) ≡ (weight_along (own g) walk +ℤ pos (gains tolls walk))
total-weight_under g tolls [] =
    let l = sum_by-none (λ (t : Toll). t.loss * 0) (λ t. omega arith) tolls in
    let m = sum_by-none (λ (t : Toll). t.gain * 0) (λ t. omega arith) tolls in
    omega (arith, ints)
total-weight_under g tolls (a ∷ walk) =
    let rest = total-weight_under g tolls walk in
    let l = gains-cons tolls a walk in
    let m = losses-cons tolls a walk in
    omega (arith, ints)

-- ---- what totals allow

-- what a walk takes at the price of its loops' totals
abbrev pub at_totals : List ℕ → (LoopArcs → ℕ) → List LoopArcs → ℕ
at_totals prices f loops = sum_by (λ l. total_price prices l.total * f l) loops

-- the part of one total
abbrev pub of_total : (LoopArcs → ℕ) → List LoopArcs → ℕ → ℕ
of_total f loops k = sum_by (λ l. cond (is_total k l.total) (f l) 0) loops

one_loop : (prices : List ℕ) (o : Option ℕ) (n count : ℕ) → IfSome o (λ k. k < count) → sum_below count (λ k. get_or prices k 0 * cond (is_total k o) n 0) ≡ total_price prices o * n
one_loop prices None n count h = sum_below-none count (λ k. get_or prices k 0 * cond (is_total k None) n 0) (λ k. omega arith) ∙ none
  where
    none : 0 ≡ 0 * n
    none = omega arith
one_loop prices (Some j) n count h =
    let f : ℕ → ℕ = λ k. get_or prices k 0 * cond (is_total k (Some j)) n 0 in
    let none : (k : ℕ) → (k ≡ j → ⊥) → f k ≡ 0 = λ k q.
    let e = ne_eqb j k (λ r. q (sym r)) in
    let c : cond (is_total k (Some j)) n 0 ≡ 0 = ap (λ b. cond b n 0) e in
    ap (λ m. get_or prices k 0 * m) c ∙ (omega arith) in
    let here : f j ≡ get_or prices j 0 * n = ap (λ b. get_or prices j 0 * cond b n 0) (eq-eqb j j refl) in
    sum_below-one count f j h none ∙ here

pub at_totals-is : (prices : List ℕ) (f : LoopArcs → ℕ) (count : ℕ) (loops : List LoopArcs) → All (λ l. IfSome l.total (λ k. k < count)) loops → at_totals prices f loops ≡ sum_below count (λ k. get_or prices k 0 * of_total f loops k)
at_totals-is prices f count [] h = sym (sum_below-none count (λ k. get_or prices k 0 * 0) (λ k. omega arith))
at_totals-is prices f count (l ∷ loops) h =
    let rest = at_totals-is prices f count loops (All-tail (λ (m : LoopArcs). IfSome m.total (λ k. k < count)) l loops h) in
    let here = one_loop prices l.total (f l) count (All-head (λ (m : LoopArcs). IfSome m.total (λ k. k < count)) l loops h) in
    let c = sum_by-cons (λ (m : LoopArcs). total_price prices m.total * f m) l loops in
    let parts : (k : ℕ) → get_or prices k 0 * of_total f (l ∷ loops) k ≡ get_or prices k 0 * cond (is_total k l.total) (f l) 0 + get_or prices k 0 * of_total f loops k = λ k.
    let d = sum_by-cons (λ (m : LoopArcs). cond (is_total k m.total) (f m) 0) l loops in
    ap (λ n. get_or prices k 0 * n) d ∙ (omega arith) in
    let sums = sum_below-both count (λ k. get_or prices k 0 * cond (is_total k l.total) (f l) 0) (λ k. get_or prices k 0 * of_total f loops k) (λ k. get_or prices k 0 * of_total f (l ∷ loops) k) parts in
    omega arith

-- ---- the law

module _ (g : Graph) (prices : LoopPrices) (graph : IsGraph g) (priced : HasPrices g prices) (v : ℕ) (walk : List ℕ) (keeps : KeepsCounts g v walk) where
  loops_of : All (λ l. IfSome l.total (λ k. k < length g.totals)) g.loops
  loops_of = All-from_get_or (λ (l : LoopArcs). IfSome l.total (λ k. k < length g.totals)) g.loops _ (λ i h. (graph.loops i h).total)

  pub totals_pay : at_totals prices.totals (turns walk) g.loops ≤ totals_worth g prices
  totals_pay =
      let is = at_totals-is prices.totals (turns walk) (length g.totals) g.loops loops_of in
      let worth = products_below g.totals prices.totals (sym priced.totals) in
      let less = sum_below-less (length g.totals) (λ k. get_or prices.totals k 0 * of_total (turns walk) g.loops k) (λ k. get_or g.totals k 0 * get_or prices.totals k 0)
      (λ k h. let t = mul-le-mul_left (get_or prices.totals k 0) (keeps.totals k h) in omega arith) in
      omega arith

  -- what one loop's back arcs take is what its entries and its begin bring, and what its total pays
  Within : LoopArcs → ℕ → Type 0
  Within l p = (p + total_price prices.totals l.total) * turns walk l ≤ (l.maxcount * p * entries_of walk l + cond (has l.members v) (l.maxcount * p) 0) + total_price prices.totals l.total * turns walk l

  one_within : (l : LoopArcs) (p : ℕ) → IsLoop g l → KeepsCount v walk l → Within l p
  unfolding Within
  one_within l p is k =
      let apart : (a : ℕ) → has l.entries a ≡ true → has l.back a ≡ false = λ a e. by_test (has l.back a) (λ b. absurd (is.from_outside a e (is.back_from a b))) (λ b. b) in
      let t = mul-le-mul_left p (turns-le l apart v walk k) in
      let c : p * cond (has l.members v) l.maxcount 0 ≡ cond (has l.members v) (l.maxcount * p) 0 =
      by_test (has l.members v) (λ e. ap (λ b. p * cond b l.maxcount 0) e ∙ (omega arith) ∙ sym (ap (λ b. cond b (l.maxcount * p) 0) e)) (λ e. ap (λ b. p * cond b l.maxcount 0) e ∙ (omega arith) ∙ sym (ap (λ b. cond b (l.maxcount * p) 0) e)) in
      omega arith

  each_within : All (λ q. Within q.0 q.1) (zip g.loops prices.loops)
  each_within =
      All-zip Within (record { members = []; back = []; entries = []; maxcount = 0; total = None }) 0 g.loops prices.loops priced.loops
      (λ i h. one_within (loop_at g i) (get_or prices.loops i 0) (graph.loops i h) (keeps.loops i h))

  pub loops_pay : losses (price_tolls g prices) walk ≤ (gains (price_tolls g prices) walk + loops_worth g prices v) + totals_worth g prices
  unfolding Within
  loops_pay =
      let pairs = zip g.loops prices.loops in
      let lossy = sum_by-map (λ (t : Toll). t.loss * turns walk t.arcs) (price_toll prices.totals) pairs in
      let gainy = sum_by-map (λ (t : Toll). t.gain * entries_of walk t.arcs) (price_toll prices.totals) pairs in
      let by_loops = sum_by-map (λ (l : LoopArcs). total_price prices.totals l.total * turns walk l) (λ (p : LoopArcs × ℕ). p.0) pairs in
      let first = ap (λ ls. at_totals prices.totals (turns walk) ls) (firsts-zip g.loops prices.loops priced.loops) in
      let less = sum_by-less
      (λ (q : LoopArcs × ℕ). (q.1 + total_price prices.totals q.0.total) * turns walk q.0)
      (λ (q : LoopArcs × ℕ). (q.0.maxcount * q.1 * entries_of walk q.0 + cond (has q.0.members v) (q.0.maxcount * q.1) 0) + total_price prices.totals q.0.total * turns walk q.0)
      pairs each_within in
      let two = sum_by-both
      (λ (q : LoopArcs × ℕ). q.0.maxcount * q.1 * entries_of walk q.0 + cond (has q.0.members v) (q.0.maxcount * q.1) 0)
      (λ (q : LoopArcs × ℕ). total_price prices.totals q.0.total * turns walk q.0)
      (λ (q : LoopArcs × ℕ). (q.0.maxcount * q.1 * entries_of walk q.0 + cond (has q.0.members v) (q.0.maxcount * q.1) 0) + total_price prices.totals q.0.total * turns walk q.0)
      (λ q. refl) pairs in
      let three = sum_by-both
      (λ (q : LoopArcs × ℕ). q.0.maxcount * q.1 * entries_of walk q.0)
      (λ (q : LoopArcs × ℕ). cond (has q.0.members v) (q.0.maxcount * q.1) 0)
      (λ (q : LoopArcs × ℕ). q.0.maxcount * q.1 * entries_of walk q.0 + cond (has q.0.members v) (q.0.maxcount * q.1) 0)
      (λ q. refl) pairs in
      let pay = totals_pay in
      omega arith

pub law : PricesBoundWalks
law g prices p graph priced cover v w walk vertex is keeps =
    let pays = loops_pay g prices graph priced v walk keeps in
    let sum = total-weight_under g (price_tolls g prices) walk in
    let along = telescope g (full_weight g prices) (λ u. pos (get_or p u 0)) (λ _. Unit {0}) (λ a h _. cover.arcs a h) walk v w is (λ k d h. tt) in
    let last : finish_at g w ≤ℤ pos (get_or p w 0) = cover.vertices w (walk_end g graph.targets walk v w vertex is) in
    omega (arith, ints)
