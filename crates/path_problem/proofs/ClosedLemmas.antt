-- No closed walk gains at the prices that follow from needs: each lies in a loop, whose need pays for it.
use Rattle.std.proofs.Common.{◌≡◌, ℕ, zero, suc, ◌+◌, ◌-◌, ◌*◌, ◌<◌, ◌≤◌, max, Bool, true, false, cond, List, [], ◌∷◌, ◌++◌, map, take, length, get_or, refl, sym, ap, subst, ◌∙◌, inl, inr, arith}
use Rattle.std.specs.Prelude.{ℤ, pos, ◌+ℤ◌, ◌≤ℤ◌, Option, Some, None, IsTrue, IfSome}
use Rattle.std.specs.List.{All, fold, zip, sum_by}
use Rattle.std.proofs.lemmas.Int.{ints}
use Rattle.std.proofs.lemmas.Bool.{cases_lt, false≢true, eq-eqb}
use Rattle.std.proofs.lemmas.List.{length-map, take_more, length-take-le}
use Rattle.std.proofs.lemmas.List.Sums.{sum_by-cons}
use Rattle.std.proofs.lemmas.List.Elements.{All-head, All-tail, All-nil, All-cons}
use Rattle.std.proofs.lemmas.Slice.Zip.{length-zip}
use Rattle.std.proofs.Math.Nat.{mul-le-mul_left}
use Rattle.path_graph.specs.declared.graph.Graph.{Graph}
use Rattle.path_graph.specs.declared.graph.LoopArcs.{LoopArcs}
use Rattle.path_graph.specs.declared.graph.LoopPrices.{LoopPrices}
use Rattle.path_graph.specs.Graph.{has, arc_at, loop_at, IsWalk, IsInside, weight_along}
use Rattle.path_problem.specs.Law.{turns, is_total}
use Rattle.path_problem.specs.Weight.{Toll, weight_under, total_price, price_toll, price_tolls, full_weight}
use Rattle.path_problem.specs.Need.{is_chosen, need_toll, need_tolls, IsNeed, loop_price, greatest_need, price_of_total, HasNeeds, ArePrices}
use Rattle.path_graph.specs.Conditions.{IsGraph, IsLoop, HasPrices}
use Rattle.path_problem.specs.Potential.{NoClosedGain}
use Rattle.path_graph.proofs.Cases.{by_test}
use Rattle.path_problem.proofs.CountLemmas.{entries_of, count_by-cons}
use Rattle.path_problem.proofs.LawLemmas.{gains, losses, total-weight_under}
use Rattle.path_problem.proofs.PartLemmas.{closed_both, Both}
use Rattle.path_problem.proofs.NeedLemmas.{worth_for}

-- ---- the tolls of needs against those of prices, loop by loop

-- the price of a loop's total is enough for its need, or the loop pays itself
abbrev pub Enough : List Bool → List ℕ → LoopArcs → ℕ → Type 0
Enough chosen totals l n = n ≤ loop_price chosen (l, n) + total_price totals l.total

module _ (chosen : List Bool) (totals : List ℕ) (walk : List ℕ) where
  same_gain : (l : LoopArcs) (n : ℕ) → (price_toll totals (l, loop_price chosen (l, n))).gain ≡ (need_toll chosen (l, n)).gain
  same_gain l n = by_test (is_chosen chosen l.total)
      (λ e. ap (λ b. l.maxcount * cond {A = ℕ} b 0 n) e ∙ none l.maxcount ∙ sym (ap (λ b. cond {A = ℕ} b 0 (l.maxcount * n)) e))
      (λ e. ap (λ b. l.maxcount * cond {A = ℕ} b 0 n) e ∙ sym (ap (λ b. cond {A = ℕ} b 0 (l.maxcount * n)) e))
    where
      none : (m : ℕ) → m * 0 ≡ 0
      none m = omega arith

  -- the first `count` loops have their needs; the walk enters no other one
  pub compare : (loops : List LoopArcs) (needs : List ℕ) (count : ℕ) → length needs ≡ length loops
      → ((i : ℕ) → i < length loops → Enough chosen totals (get_or loops i (record { members = []; back = []; entries = []; maxcount = 0; total = None })) (get_or needs i 0))
      → ((i : ℕ) → count ≤ i → i < length loops → entries_of walk (get_or loops i (record { members = []; back = []; entries = []; maxcount = 0; total = None })) ≡ 0)
      → gains (map (price_toll totals) (zip loops (map (loop_price chosen) (zip loops needs)))) walk + losses (map (need_toll chosen) (zip loops (take count needs))) walk
      ≤ gains (map (need_toll chosen) (zip loops (take count needs))) walk + losses (map (price_toll totals) (zip loops (map (loop_price chosen) (zip loops needs)))) walk
  compare [] needs count size enough none = omega arith
  compare (l ∷ loops) [] count size enough none = absurd (omega arith)
  compare (l ∷ loops) (n ∷ needs) zero size enough none =
      let rest = compare loops needs 0 (omega arith) (λ i h. enough (suc i) (omega arith)) (λ i b h. none (suc i) (omega arith) (omega arith)) in
      let t = price_toll totals (l, loop_price chosen (l, n)) in
      let more = map (price_toll totals) (zip loops (map (loop_price chosen) (zip loops needs))) in
      let g = sum_by-cons (λ (t : Toll). t.gain * entries_of walk t.arcs) t more in
      let h = sum_by-cons (λ (t : Toll). t.loss * turns walk t.arcs) t more in
      let e : t.gain * entries_of walk l ≡ t.gain * 0 = ap (λ k. t.gain * k) (none 0 (omega arith) (omega arith)) in
      let nothing : zip loops (take 0 needs) ≡ [] = zip_nothing loops in
      let u = ap (λ z. gains (map (need_toll chosen) z) walk) nothing in
      let v = ap (λ z. losses (map (need_toll chosen) z) walk) nothing in
      omega arith
    where
      zip_nothing : (xs : List LoopArcs) → let none : List ℕ = [] in zip xs none ≡ []
      zip_nothing [] = refl
      zip_nothing (x ∷ xs) = refl
  compare (l ∷ loops) (n ∷ needs) (suc count) size enough none =
      let rest = compare loops needs count (omega arith) (λ i h. enough (suc i) (omega arith)) (λ i b h. none (suc i) (omega arith) (omega arith)) in
      let t = price_toll totals (l, loop_price chosen (l, n)) in
      let s = need_toll chosen (l, n) in
      let more = map (price_toll totals) (zip loops (map (loop_price chosen) (zip loops needs))) in
      let less = map (need_toll chosen) (zip loops (take count needs)) in
      let g = sum_by-cons (λ (t : Toll). t.gain * entries_of walk t.arcs) t more in
      let h = sum_by-cons (λ (t : Toll). t.loss * turns walk t.arcs) t more in
      let i = sum_by-cons (λ (t : Toll). t.gain * entries_of walk t.arcs) s less in
      let j = sum_by-cons (λ (t : Toll). t.loss * turns walk t.arcs) s less in
      let e : t.gain * entries_of walk l ≡ s.gain * entries_of walk l = ap (λ k. k * entries_of walk l) (same_gain l n) in
      let first = enough 0 (omega arith) in
      let d = mul-le-mul_left (turns walk l) first in
      omega arith

-- ---- the greatest need of a total

greatest_more : (k : ℕ) (loops : List LoopArcs) (needs : List ℕ) (m : ℕ) → m ≤ fold max m (map (worth_for k) (zip loops needs))
greatest_more k [] needs m = omega arith
greatest_more k (l ∷ loops) [] m = omega arith
greatest_more k (l ∷ loops) (n ∷ needs) m = let rest = greatest_more k loops needs (max m (worth_for k (l, n))) in omega arith

greatest_least : (k : ℕ) (loops : List LoopArcs) (needs : List ℕ) (m i : ℕ) (d : LoopArcs) → i < length loops → i < length needs → is_total k (get_or loops i d).total ≡ true → get_or needs i 0 ≤ fold max m (map (worth_for k) (zip loops needs))
greatest_least k [] needs m i d h j e = absurd (omega arith)
greatest_least k (l ∷ loops) [] m i d h j e = absurd (omega arith)
greatest_least k (l ∷ loops) (n ∷ needs) m zero d h j e =
    let rest = greatest_more k loops needs (max m (worth_for k (l, n))) in
    let w : worth_for k (l, n) ≡ n = ap (λ b. cond {A = ℕ} b n 0) e in
    omega arith
greatest_least k (l ∷ loops) (n ∷ needs) m (suc i) d h j e = greatest_least k loops needs (max m (worth_for k (l, n))) i d (omega arith) (omega arith) e

-- ---- no closed walk gains

module _ (g : Graph) (chosen : List Bool) (prices : LoopPrices) (graph : IsGraph g) (needs : List ℕ) (are : ArePrices g chosen needs prices) where
  enough : (i : ℕ) → i < length g.loops → Enough chosen prices.totals (loop_at g i) (get_or needs i 0)
  enough i h = by_total (loop_at g i).total refl (graph.loops i h).total
    where
      by_total : (o : Option ℕ) → (loop_at g i).total ≡ o → IfSome (loop_at g i).total (λ k. k < length g.totals) → get_or needs i 0 ≤ cond {A = ℕ} (is_chosen chosen (loop_at g i).total) 0 (get_or needs i 0) + total_price prices.totals (loop_at g i).total
      by_total None e w =
          let b : cond {A = ℕ} (is_chosen chosen (loop_at g i).total) 0 (get_or needs i 0) ≡ get_or needs i 0 = ap (λ o. cond {A = ℕ} (is_chosen chosen o) 0 (get_or needs i 0)) e in
          omega arith
      by_total (Some k) e w =
          let within : k < length g.totals = subst (λ (o : Option ℕ). IfSome o (λ j. j < length g.totals)) e w in
          by_test (get_or chosen k false)
          (λ c.
          let p : total_price prices.totals (loop_at g i).total ≡ get_or prices.totals k 0 = ap (total_price prices.totals) e in
          let q : price_of_total g chosen needs k ≡ greatest_need g needs k = ap (λ b. cond {A = ℕ} b (greatest_need g needs k) 0) c in
          let r = are.totals k within in
          let a = are.all in
          let t : is_total k (loop_at g i).total ≡ true = ap (is_total k) e ∙ eq-eqb k k refl in
          let s = greatest_least k g.loops needs 0 i _ h (omega arith) t in
          omega arith)
          (λ c.
          let b : cond {A = ℕ} (is_chosen chosen (loop_at g i).total) 0 (get_or needs i 0) ≡ get_or needs i 0 = ap (λ o. cond {A = ℕ} (is_chosen chosen o) 0 (get_or needs i 0)) e ∙ ap (λ b. cond {A = ℕ} b 0 (get_or needs i 0)) c in
          omega arith)

  -- a walk with both ends of each arc inside a loop enters no later loop
  enters_none : (i m : ℕ) → i < m → m < length g.loops → (walk : List ℕ) → All (Both g (loop_at g i)) walk → entries_of walk (loop_at g m) ≡ 0
  enters_none i m less h [] all = refl
  enters_none i m less h (a ∷ walk) all =
      let both = All-head (Both g (loop_at g i)) a walk all in
      let rest = enters_none i m less h walk (All-tail (Both g (loop_at g i)) a walk all) in
      let c = count_by-cons (has (loop_at g m).entries) a walk in
      let is = graph.loops m h in
      let out : has (loop_at g m).entries a ≡ false = by_test (has (loop_at g m).entries a)
      (λ e. absurd (is.from_outside a e (graph.nested i m (arc_at g a).to (arc_at g a).from less h both.1 (is.into a e) both.0)))
      (λ e. e) in
      let d : cond {A = ℕ} (has (loop_at g m).entries a) 1 0 ≡ 0 = ap (λ b. cond {A = ℕ} b 1 0) out in
      omega arith

  in_loop : (i : ℕ) → i < length g.loops → (v : ℕ) (walk : List ℕ) → IsWalk g v walk v → IsInside g (loop_at g i) walk → weight_along (full_weight g prices) walk ≤ℤ pos 0
  in_loop i h v walk is inside =
      let all = are.all in
      let short : i < length needs = omega arith in
      let need = are.made.each i short in
      let front : take (i + 1) needs ≡ take i needs ++ get_or needs i 0 ∷ [] = take_more needs i 0 short in
      let size : length (take i needs) ≡ i = length-take-le i needs (omega arith) in
      let serves = need.serves.none v walk is (subst (λ (m : ℕ). IsInside g (loop_at g m) walk) (sym size) inside) in
      let low : weight_along (weight_under g (need_tolls g chosen (take (i + 1) needs))) walk ≤ℤ pos 0 =
      subst (λ (ns : List ℕ). weight_along (weight_under g (need_tolls g chosen ns)) walk ≤ℤ pos 0) (sym front) serves in
      let one = total-weight_under g (need_tolls g chosen (take (i + 1) needs)) walk in
      let two = total-weight_under g (price_tolls g prices) walk in
      let both = closed_both g (loop_at g i) walk v is inside in
      let less = compare chosen prices.totals walk g.loops needs (i + 1) are.all enough (λ m b k. enters_none i m (omega arith) k walk both) in
      let tolls : price_tolls g prices ≡ map (price_toll prices.totals) (zip g.loops (map (loop_price chosen) (zip g.loops needs))) = ap (λ ps. map (price_toll prices.totals) (zip g.loops ps)) are.loops in
      let gain = ap (λ ts. gains ts walk) tolls in
      let loss = ap (λ ts. losses ts walk) tolls in
      omega (arith, ints)

  closed_gains_none : NoClosedGain g prices
  closed_gains_none = record {
    none = λ v walk is. by_walk v walk is;
  }
    where
      by_walk : (v : ℕ) (walk : List ℕ) → IsWalk g v walk v → weight_along (full_weight g prices) walk ≤ℤ pos 0
      by_walk v [] is = omega (arith, ints)
      by_walk v (a ∷ walk) is =
          let l = graph.closed v a walk is in
          in_loop l.loop l.within v (a ∷ walk) is l.inside

  pub priced_well : HasPrices g prices
  priced_well = record {
    loops = ap length are.loops ∙ length-map (zip g.loops needs) (loop_price chosen) ∙ (let z = length-zip g.loops needs in let a = are.all in omega arith);
    totals = are.count;
  }

pub no_closed_gain : (g : Graph) (chosen : List Bool) (prices : LoopPrices) → IsGraph g → HasNeeds g chosen prices → NoClosedGain g prices
no_closed_gain g chosen prices graph n = closed_gains_none g chosen prices graph n.needs n.follow

pub has_prices : (g : Graph) (chosen : List Bool) (prices : LoopPrices) → IsGraph g → HasNeeds g chosen prices → HasPrices g prices
has_prices g chosen prices graph n = priced_well g chosen prices graph n.needs n.follow
