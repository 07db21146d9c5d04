-- The needs of loops, one after the other, and the prices that follow.
use Rattle.std.proofs.Common.{◌≡◌, ℕ, ◌+◌, ◌*◌, ◌<◌, ◌≤◌, max, Bool, true, false, cond, List, [], ◌∷◌, ◌++◌, map, take, length, get_or, refl, sym, ap, subst, ◌∙◌, inl, inr, length-append, arith}
use Rattle.std.specs.Prelude.{ℤ, Option}
use Rattle.std.specs.List.{All, zip, fold}
use Rattle.std.proofs.lemmas.Bool.{cases_lt}
use Rattle.std.proofs.lemmas.List.{get_or_append_left, get_or_push, take-append-le, take_more, take_all, map-append}
use Rattle.std.proofs.lemmas.List.Elements.{All-push, All-nil}
use Rattle.std.proofs.lemmas.Slice.Zip.{length-zip, get_or-zip}
use Rattle.path_graph.specs.declared.graph.Graph.{Graph}
use Rattle.path_graph.specs.declared.graph.LoopArcs.{LoopArcs}
use Rattle.path_graph.specs.declared.graph.TheConstants.{LARGEST}
use Rattle.path_graph.specs.Conditions.{IsWithin, AreBounded}
use Rattle.path_graph.specs.Graph.{loop_at}
use Rattle.path_problem.specs.Law.{is_total}
use Rattle.path_problem.specs.Need.{is_chosen, need_toll, need_tolls, IsNeed, AreNeeds, IsLoopLarge, loop_price, price_of_total, HasNeeds, AreAllNeeds, AreTotalPrices, IsRaised}
use Rattle.path_problem.specs.Part.{IsSmallNeed, NoneServes}
use Rattle.path_problem.specs.Weight.{Toll}
use Rattle.path_problem.specs.Window.{AreWeights, toll_of, weight_limit}
use Rattle.std.proofs.lemmas.List.Sums.{fold-append}
use Rattle.std.proofs.lemmas.List.Elements.{All-head, All-tail, All-cons, All-from_get_or}
use Rattle.path_problem.proofs.PartLemmas.{tolls_push}

-- the needs of the first loops, and the weights at them
pub record NeedsSoFar (g : Graph) (chosen : List Bool) (number : ℕ) (needs : List ℕ) (weights : List ℤ) (stamps : List ℕ) : Type 0 where
  pub count : length needs ≡ number
  pub made : AreNeeds g chosen needs
  pub weights_are : AreWeights g (need_tolls g chosen needs) 0 weights
  pub small : All (IsWithin (weight_limit number)) weights
  pub used : All (λ s. s ≤ 2 * number) stamps

zip_none : (xs : List LoopArcs) → let none : List ℕ = [] in zip xs none ≡ []
zip_none [] = refl
zip_none (x ∷ xs) = refl

pub no_needs : (g : Graph) (chosen : List Bool) (weights : List ℤ) (stamps : List ℕ) → AreWeights g [] 0 weights → All (IsWithin (weight_limit 0)) weights → All (λ s. s ≤ 0) stamps → NeedsSoFar g chosen 0 [] weights stamps
no_needs g chosen weights stamps are small fresh = record {
  count = refl;
  made = record { few = omega arith; each = λ l h. absurd (omega arith); small = All-nil (λ n. n ≤ LARGEST) };
  weights_are =
      let F : List Toll → Type 0 = λ ts. AreWeights g ts 0 weights in
      subst F (sym (ap (map (need_toll chosen)) (zip_none g.loops))) are;
  small = small;
  used = fresh;
}

-- the toll that the code adds
pub need_toll_is : (g : Graph) (chosen : List Bool) (arcs : LoopArcs) (turns n l : ℕ) → arcs ≡ loop_at g l → turns ≡ cond (is_chosen chosen arcs.total) 0 arcs.maxcount → toll_of arcs (record { turns = turns; price = n; loss = n }) ≡ need_toll chosen (loop_at g l, n)
need_toll_is g chosen arcs turns n l is t =
    let F : ℕ → Toll = λ k. record { arcs = arcs; gain = k; loss = n } in
    let H : LoopArcs → Toll = λ a. need_toll chosen (a, n) in
    ap F (ap (λ k. k * n) t ∙ times_test (is_chosen chosen arcs.total)) ∙ ap H is
  where
    times_test : (b : Bool) → cond {A = ℕ} b 0 arcs.maxcount * n ≡ cond {A = ℕ} b 0 (arcs.maxcount * n)
    times_test true = omega arith
    times_test false = refl

pub needs_more : (g : Graph) (chosen : List Bool) (number : ℕ) (needs : List ℕ) (n : ℕ) → AreNeeds g chosen needs → length needs ≡ number → number < length g.loops → IsSmallNeed g chosen needs n → AreNeeds g chosen (needs ++ n ∷ [])
needs_more g chosen number needs n made count h new = record {
  few = (let l = length-append needs (n ∷ []) in omega arith);
  each = λ l b. elim (cases_lt l (length needs)) [
    | inl below ↦
        let front = take-append-le l needs (n ∷ []) (omega arith) in
        let is = get_or_append_left needs (n ∷ []) 0 l below in
        let F : List ℕ → Type 0 = λ ns. IsNeed g chosen ns (get_or (needs ++ n ∷ []) l 0) in
        subst F (sym front) (subst (IsNeed g chosen (take l needs)) (sym is) (made.each l below))
    | inr above ↦
        let e : length needs ≡ l = (let k = length-append needs (n ∷ []) in omega arith) in
        let front = take-append-le l needs (n ∷ []) (omega arith) ∙ take_all l needs (omega arith) in
        let is = get_or_push needs n 0 l e in
        let F : List ℕ → Type 0 = λ ns. IsNeed g chosen ns (get_or (needs ++ n ∷ []) l 0) in
        subst F (sym front) (subst (IsNeed g chosen needs) (sym is) new.need)
  ];
  small = All-push (λ k. k ≤ LARGEST) needs n made.small new.small;
}

pub need_added : (g : Graph) (chosen : List Bool) (number : ℕ) (needs : List ℕ) (n : ℕ) (arcs : LoopArcs) (turns : ℕ) (weights weights' : List ℤ) (stamps stamps' : List ℕ) → NeedsSoFar g chosen number needs weights stamps → number < length g.loops → IsSmallNeed g chosen needs n → arcs ≡ loop_at g number → turns ≡ cond (is_chosen chosen arcs.total) 0 arcs.maxcount → AreWeights g (need_tolls g chosen needs ++ toll_of arcs (record { turns = turns; price = n; loss = n }) ∷ []) 0 weights' → All (IsWithin (weight_limit (number + 1))) weights' → All (λ s. s ≤ 2 * (number + 1)) stamps' → NeedsSoFar g chosen (number + 1) (needs ++ n ∷ []) weights' stamps'
need_added g chosen number needs n arcs turns weights weights' stamps stamps' s h new is t are small used =
    let F : List Toll → Type 0 = λ ts. AreWeights g ts 0 weights' in
    let G : Toll → Type 0 = λ toll. AreWeights g (need_tolls g chosen needs ++ toll ∷ []) 0 weights' in
    let inside : length needs < length g.loops = (let c = s.count in omega arith) in
    let toll = need_toll_is g chosen arcs turns n (length needs) (is ∙ ap (loop_at g) (sym s.count)) t in
    record {
      count = length-append needs (n ∷ []) ∙ (let c = s.count in omega arith);
      made = needs_more g chosen number needs n s.made s.count h new;
      weights_are = subst F (sym (tolls_push g chosen needs n inside)) (subst G toll are);
      small = small;
      used = used;
    }

pub loop_large : (g : Graph) (chosen : List Bool) (number : ℕ) (needs : List ℕ) → AreNeeds g chosen needs → length needs ≡ number → number < length g.loops → NoneServes g chosen needs → IsLoopLarge g chosen number
loop_large g chosen number needs made count h none = record {
  needs = needs;
  made = made;
  here = count;
  within = h;
  none = none.each;
}

pub all_needs : (g : Graph) (chosen : List Bool) (number : ℕ) (needs : List ℕ) (weights : List ℤ) (stamps : List ℕ) → NeedsSoFar g chosen number needs weights stamps → length g.loops ≤ number → AreAllNeeds g chosen needs
all_needs g chosen number needs weights stamps s h = record {
  made = s.made;
  all = (let c = s.count in let f = s.made.few in omega arith);
}

-- ---- prices

-- one pair more
pub pairs_more : (loops : List LoopArcs) (needs : List ℕ) (i : ℕ) (d : LoopArcs) → i < length loops → i < length needs → take (i + 1) (zip loops needs) ≡ take i (zip loops needs) ++ (get_or loops i d, get_or needs i 0) ∷ []
pairs_more loops needs i d h k =
    let long = length-zip loops needs in
    take_more (zip loops needs) i (d, 0) (omega arith) ∙ ap (λ (p : LoopArcs × ℕ). take i (zip loops needs) ++ p ∷ []) (get_or-zip loops needs i (d, 0) h k)

pub prices_more : {X Y : Type 0} (f : X → Y) (ps : List X) (p : X) (ys : List Y) → ys ≡ map f ps → ys ++ f p ∷ [] ≡ map f (ps ++ p ∷ [])
prices_more f ps p ys e = ap (λ zs. zs ++ f p ∷ []) e ∙ sym (map-append f ps (p ∷ []))

-- what a loop counts for in the price of a total
abbrev pub worth_for : ℕ → LoopArcs × ℕ → ℕ
worth_for k (l, need) = cond {A = ℕ} (is_total k l.total) need 0

-- the prices of totals that the first loops make
pub record TotalsSoFar (g : Graph) (chosen : List Bool) (needs : List ℕ) (i : ℕ) (prices : List ℕ) : Type 0 where
  pub count : length prices ≡ length g.totals
  pub each : (k : ℕ) → k < length g.totals → get_or prices k 0 ≡ cond {A = ℕ} (get_or chosen k false) (fold max 0 (map (worth_for k) (take i (zip g.loops needs)))) 0

pub totals_more : (g : Graph) (chosen : List Bool) (needs : List ℕ) (i : ℕ) (prices prices' : List ℕ) → TotalsSoFar g chosen needs i prices → i < length g.loops → i < length needs → length prices' ≡ length prices → IsRaised chosen (loop_at g i).total (get_or needs i 0) prices prices' → TotalsSoFar g chosen needs (i + 1) prices'
totals_more g chosen needs i prices prices' s h k size raised = record {
  count = size ∙ s.count;
  each = λ t b.
      let old = fold max 0 (map (worth_for t) (take i (zip g.loops needs))) in
      let pair = pairs_more g.loops needs i _ h k in
      let one = ap (map (worth_for t)) pair ∙ map-append (worth_for t) (take i (zip g.loops needs)) ((loop_at g i, get_or needs i 0) ∷ []) in
      let more = ap (fold max 0) one ∙ fold-append max 0 (map (worth_for t) (take i (zip g.loops needs))) (worth_for t (loop_at g i, get_or needs i 0) ∷ []) in
      raised.each t (subst (λ (m : ℕ). t < m) (sym s.count) b) ∙ ap (λ m. max m (cond {A = ℕ} (is_total t (loop_at g i).total) (cond {A = ℕ} (get_or chosen t false) (get_or needs i 0) 0) 0)) (s.each t b)
      ∙ by_bits (get_or chosen t false) (is_total t (loop_at g i).total) old (get_or needs i 0) ∙ ap (λ m. cond {A = ℕ} (get_or chosen t false) m 0) (sym more);
}
  where
    by_bits : (b c : Bool) (m n : ℕ) → max (cond {A = ℕ} b m 0) (cond {A = ℕ} c (cond {A = ℕ} b n 0) 0) ≡ cond {A = ℕ} b (max m (cond {A = ℕ} c n 0)) 0
    by_bits true c m n = refl
    by_bits false true m n = refl
    by_bits false false m n = refl

pub all_totals : (g : Graph) (chosen : List Bool) (needs : List ℕ) (i : ℕ) (prices : List ℕ) → TotalsSoFar g chosen needs i prices → length needs ≡ length g.loops → length needs ≤ i → AreTotalPrices g chosen needs prices
all_totals g chosen needs i prices s size h = record {
  count = s.count;
  each = λ k b.
      let long = length-zip g.loops needs in
      let all = take_all i (zip g.loops needs) (omega arith) in
      s.each k b ∙ ap (λ ps. cond {A = ℕ} (get_or chosen k false) (fold max 0 (map (worth_for k) ps)) 0) all;
}

-- ---- prices are small

pub price_small : (chosen : List Bool) (loops : List LoopArcs) (needs : List ℕ) → All (λ n. n ≤ LARGEST) needs → All (λ n. n ≤ LARGEST) (map (loop_price chosen) (zip loops needs))
price_small chosen [] needs h = All-nil (λ n. n ≤ LARGEST)
price_small chosen (l ∷ loops) [] h = All-nil (λ n. n ≤ LARGEST)
price_small chosen (l ∷ loops) (n ∷ needs) h =
    All-cons (λ k. k ≤ LARGEST) (loop_price chosen (l, n)) (map (loop_price chosen) (zip loops needs))
    (at_most (is_chosen chosen l.total) n (All-head (λ k. k ≤ LARGEST) n needs h)) (price_small chosen loops needs (All-tail (λ k. k ≤ LARGEST) n needs h))
  where
    at_most : (b : Bool) (m : ℕ) → m ≤ LARGEST → cond {A = ℕ} b 0 m ≤ LARGEST
    at_most true m e = omega arith
    at_most false m e = e

greatest_small : (k : ℕ) (loops : List LoopArcs) (needs : List ℕ) (m : ℕ) → m ≤ LARGEST → All (λ n. n ≤ LARGEST) needs → fold max m (map (worth_for k) (zip loops needs)) ≤ LARGEST
greatest_small k [] needs m b h = b
greatest_small k (l ∷ loops) [] m b h = b
greatest_small k (l ∷ loops) (n ∷ needs) m b h =
    let here = at_most (is_total k l.total) n (All-head (λ j. j ≤ LARGEST) n needs h) in
    greatest_small k loops needs (max m (worth_for k (l, n))) (omega arith) (All-tail (λ j. j ≤ LARGEST) n needs h)
  where
    at_most : (b : Bool) (m : ℕ) → m ≤ LARGEST → cond {A = ℕ} b m 0 ≤ LARGEST
    at_most true m e = e
    at_most false m e = omega arith

total_small : (g : Graph) (chosen : List Bool) (needs : List ℕ) (k : ℕ) → All (λ n. n ≤ LARGEST) needs → price_of_total g chosen needs k ≤ LARGEST
total_small g chosen needs k h = at_most (get_or chosen k false) _ (greatest_small k g.loops needs 0 (omega arith) h)
  where
    at_most : (b : Bool) (m : ℕ) → m ≤ LARGEST → cond {A = ℕ} b m 0 ≤ LARGEST
    at_most true m e = e
    at_most false m e = omega arith

module _ (g : Graph) (chosen : List Bool) (needs a b loops totals : List ℕ) (all : AreAllNeeds g chosen needs) (e : a ≡ needs) (q : b ≡ needs) (loops_are : loops ≡ map (loop_price chosen) (zip g.loops a)) (totals_are : AreTotalPrices g chosen b totals) where
  pub has_needs : HasNeeds g chosen (record { loops = loops; totals = totals })
  has_needs = record {
    needs = needs;
    follow = record {
      made = all.made;
      all = all.all;
      loops = loops_are ∙ ap (λ ns. map (loop_price chosen) (zip g.loops ns)) e;
      count = totals_are.count;
      totals = λ k h. totals_are.each k h ∙ ap (λ ns. price_of_total g chosen ns k) q;
    };
  }

  pub has_bounds : AreBounded (record { loops = loops; totals = totals })
  has_bounds = record {
    loops =
        let F : List ℕ → Type 0 = λ ps. All (λ p. p ≤ LARGEST) ps in
        subst F (sym (loops_are ∙ ap (λ ns. map (loop_price chosen) (zip g.loops ns)) e)) (price_small chosen g.loops needs all.made.small);
    totals = All-from_get_or (λ p. p ≤ LARGEST) totals 0 (λ k h.
        let is = totals_are.each k (subst (λ (n : ℕ). k < n) totals_are.count h) ∙ ap (λ ns. price_of_total g chosen ns k) q in
        subst (λ (n : ℕ). n ≤ LARGEST) (sym is) (total_small g chosen needs k all.made.small));
  }

pub raised_same : {chosen : List Bool} {total total' : Option ℕ} {need : ℕ} {old old' new : List ℕ} → total ≡ total' → old ≡ old' → IsRaised chosen total need old new → IsRaised chosen total' need old' new
raised_same {chosen} {total} {total'} {need} {old} {old'} {new} e q r =
    let F : Option ℕ → Type 0 = λ t. IsRaised chosen t need old' new in
    let G : List ℕ → Type 0 = λ o. IsRaised chosen total need o new in
    subst F e (subst G q r)
