-- An event given at the root, below it, and in tables that grow.
use Rattle.std.proofs.Common.{◌≡◌, ℕ, ◌<◌, ◌≤◌, Bool, true, false, List, length, slice_get, Some, Option, Result, Ok, Err, IfOk, refl, sym, ◌∙◌, arith, if◌then◌else◌, eqb, cond, nat_eq}
use Rattle.std.proofs.lemmas.Bool.Decides.{nat_tests}
use Rattle.wx_text.specs.declared.memory.NoMemory.{NoMemory}
use Rattle.std.proofs.lemmas.Option.{slice_get_within}
use Rattle.xdd_table.specs.declared.node.Dd.{Dd}
use Rattle.xdd_table.specs.declared.node.Node.{Node}
use Rattle.xdd_table.specs.declared.node.Node.TheVariants.{Branch}
use Rattle.xdd_table.specs.Diagram.{Combination, with_event, time, BeginsAfter, EventsLess, IsBelow, itself, by_hit, by_miss, IsBranchAt, IsTable, Keeps}
use Rattle.xdd_table.proofs.Canonical.{hit_time, miss_time, branch_time, begins_after_less}
use Rattle.xdd_ops.specs.Given.{IsFixed, AreFixed}

-- what is below a place of the old table is so in the new one
module _ (old new : List Node) (table : IsTable old) (k : Keeps old new) where
  pub below_kept : {p q : ℕ} → p < length old → IsBelow old p q → IsBelow new p q
  below_kept h itself = itself
  below_kept h (by_hit {p} {q} {e} {hit} {miss} is b) =
      let w : IsBranchAt old p e hit.place miss.place = table.each p (Branch e hit miss) is in
      by_hit (k.nodes p h ∙ is) (below_kept (omega (arith, w.hit_before)) b)
  below_kept h (by_miss {p} {q} {e} {hit} {miss} is b) =
      let w : IsBranchAt old p e hit.place miss.place = table.each p (Branch e hit miss) is in
      by_miss (k.nodes p h ∙ is) (below_kept (omega (arith, w.miss_before)) b)

  -- and the other way round
  pub below_back : {p q : ℕ} → p < length old → IsBelow new p q → IsBelow old p q
  below_back h itself = itself
  below_back h (by_hit {p} {q} {e} {hit} {miss} is b) =
      let is' : slice_get old p ≡ Some (Branch e hit miss) = sym (k.nodes p h) ∙ is in
      let w : IsBranchAt old p e hit.place miss.place = table.each p (Branch e hit miss) is' in
      by_hit is' (below_back (omega (arith, w.hit_before)) b)
  below_back h (by_miss {p} {q} {e} {hit} {miss} is b) =
      let is' : slice_get old p ≡ Some (Branch e hit miss) = sym (k.nodes p h) ∙ is in
      let w : IsBranchAt old p e hit.place miss.place = table.each p (Branch e hit miss) is' in
      by_miss is' (below_back (omega (arith, w.miss_before)) b)

  pub events_back : (p bound : ℕ) → p < length old → EventsLess new p bound → EventsLess old p bound
  events_back p bound h less q e hit miss b at =
      less q e hit miss (below_kept h b) (k.nodes q (slice_get_within old q (Branch e hit miss) at) ∙ at)

  pub begins_back : (p e : ℕ) → p < length old → BeginsAfter new e p → BeginsAfter old e p
  begins_back p e h after = rw (k.nodes p h) at after

  pub fixed_kept : (event p r : ℕ) (m : Bool) → IsFixed old event m p r → IsFixed new event m p r
  fixed_kept event p r m x = let g : length old ≤ length new = k.grows in record {
    source = omega (arith, x.source);
    within = omega (arith, x.within);
    times = λ f. k.times f r x.within ∙ (x.times f ∙ sym (k.times (with_event f event m) p x.source));
    after = λ e a. k.begins e r x.within (x.after e (begins_back p e x.source a));
    events = λ bound less. k.events r bound x.within (x.events bound (events_back p bound x.source less));
  }

  pub all_fixed_kept : (event : ℕ) (m : Bool) (kept : ℕ → Option Dd) → AreFixed old event m kept → AreFixed new event m kept
  all_fixed_kept event m kept all = record { each = λ p r is. fixed_kept event p r.place m (all.each p r is) }

-- one more answer is kept
one_more : (nodes : List Node) (event : ℕ) (m b : Bool) (p q : ℕ) (answer r : Dd) (before : Option Dd) → b ≡ nat_eq p q → IsFixed nodes event m p answer.place
    → (before ≡ Some r → IsFixed nodes event m q r.place) → cond b (Some answer) before ≡ Some r → IsFixed nodes event m q r.place
one_more nodes event m true p q answer r before same x y is =
    let e : p ≡ q = grind (arith, nat_tests) in
    let e' : answer ≡ r = cc in
    rw (← e, ← e') x
one_more nodes event m false p q answer r before same x y is = y is

pub all_fixed_more : (nodes : List Node) (event : ℕ) (m : Bool) (p : ℕ) (answer : Dd) (kept next : ℕ → Option Dd) → AreFixed nodes event m kept → IsFixed nodes event m p answer.place
    → ((q : ℕ) → next q ≡ cond (nat_eq p q) (Some answer) (kept q)) → AreFixed nodes event m next
all_fixed_more nodes event m p answer kept next all x updates = record {
  each = λ q r is. one_more nodes event m (nat_eq p q) p q answer r (kept q) refl x (all.each q r) (sym (updates q) ∙ is);
}

-- the event stands at the root
module _ (nodes : List Node) (table : IsTable nodes) (p e : ℕ) (hit miss : Dd) (h : p < length nodes) (is : slice_get nodes p ≡ Some (Branch e hit miss)) where
  later_root : (x d : ℕ) → BeginsAfter nodes e d → BeginsAfter nodes x p → BeginsAfter nodes x d
  later_root x d after a = let l : x < e = rw is at a in begins_after_less nodes table x e d l after

  pub miss_fixed : IsFixed nodes e true p miss.place
  miss_fixed = let w : IsBranchAt nodes p e hit.place miss.place = table.each p (Branch e hit miss) is in record {
    source = h;
    within = omega (arith, w.miss_before);
    times = λ f. miss_time nodes table f p e hit miss h is;
    after = λ x a. later_root x miss.place w.miss_after a;
    events = λ bound less q e' hit' miss' below at. less q e' hit' miss' (by_miss is below) at;
  }

  pub hit_fixed : IsFixed nodes e false p hit.place
  hit_fixed = let w : IsBranchAt nodes p e hit.place miss.place = table.each p (Branch e hit miss) is in record {
    source = h;
    within = omega (arith, w.hit_before);
    times = λ f. hit_time nodes table f p e hit miss h is;
    after = λ x a. later_root x hit.place w.hit_after a;
    events = λ bound less q e' hit' miss' below at. less q e' hit' miss' (by_hit is below) at;
  }

-- one combination takes the same branch before and after
same_branch : (b b' : Bool) (x y m m' h h' : ℕ) → b' ≡ b → x ≡ (if b then m else h) → y ≡ (if b' then m' else h') → m ≡ m' → h ≡ h' → x ≡ y
same_branch true b' x y m m' h h' e is is' s s' = is ∙ (s ∙ sym (rw e at is'))
same_branch false b' x y m m' h h' e is is' s s' = is ∙ (s' ∙ sym (rw e at is'))

other_event : (f : Combination) (event root : ℕ) (m : Bool) → root < event → with_event f event m root ≡ f root
other_event f event root m l = let t : eqb root event ≡ false = grind (arith, nat_tests) in rw t refl

-- the event comes after the root
module _ (t0 t1 t2 t3 : List Node) (table : IsTable t0) (k1 : Keeps t0 t1) (k2 : Keeps t1 t2) (k3 : Keeps t0 t3) (p root event : ℕ) (m : Bool) (hit miss : Dd) (hit' miss' r : ℕ)
    (h : p < length t0) (is : slice_get t0 p ≡ Some (Branch root hit miss)) (less : root < event)
    (x : IsFixed t1 event m hit.place hit') (y : IsFixed t2 event m miss.place miss') where
  hit_less : hit.place < length t0
  hit_less = let w : IsBranchAt t0 p root hit.place miss.place = table.each p (Branch root hit miss) is in omega (arith, w.hit_before)

  miss_less : miss.place < length t0
  miss_less = let w : IsBranchAt t0 p root hit.place miss.place = table.each p (Branch root hit miss) is in omega (arith, w.miss_before)

  below_times : ((f : Combination) → time t3 f r ≡ (if f root then time t2 f miss' else time t2 f hit')) → (f : Combination) → time t3 f r ≡ time t3 (with_event f event m) p
  below_times t f =
      let g : Combination = with_event f event m in
      let n : length t0 ≤ length t1 = k1.grows in
      let missed : time t2 f miss' ≡ time t0 g miss.place = y.times f ∙ (k2.times g miss.place (omega (arith, miss_less)) ∙ k1.times g miss.place miss_less) in
      let passed : time t2 f hit' ≡ time t0 g hit.place = k2.times f hit' x.within ∙ (x.times f ∙ k1.times g hit.place hit_less) in
      let old : time t3 g p ≡ (if g root then time t0 g miss.place else time t0 g hit.place) = k3.times g p h ∙ branch_time t0 table g p root hit miss is in
      same_branch (f root) (g root) (time t3 f r) (time t3 g p) (time t2 f miss') (time t0 g miss.place) (time t2 f hit') (time t0 g hit.place)
      (other_event f event root m less) (t f) old missed passed

  pub below_fixed : r < length t3
      → ((f : Combination) → time t3 f r ≡ (if f root then time t2 f miss' else time t2 f hit'))
      → ((e : ℕ) → e < root → BeginsAfter t3 e r)
      → ((bound : ℕ) → root < bound → EventsLess t2 hit' bound → EventsLess t2 miss' bound → EventsLess t3 r bound)
      → IsFixed t3 event m p r
  below_fixed within t a e = let g : length t0 ≤ length t3 = k3.grows in record {
    source = omega (arith, h);
    within = within;
    times = below_times t;
    after = λ n b. let b' = begins_back t0 t3 table k3 p n h b in let l : n < root = rw is at b' in a n l;
    events = λ n b.
        let b' : EventsLess t0 p n = events_back t0 t3 table k3 p n h b in
        let l : root < n = b' p root hit miss itself is in
        let eh : EventsLess t0 hit.place n = λ q e' hit' miss' below at. b' q e' hit' miss' (by_hit is below) at in
        let em : EventsLess t0 miss.place n = λ q e' hit' miss' below at. b' q e' hit' miss' (by_miss is below) at in
        let n' : length t0 ≤ length t1 = k1.grows in
        e n l (k2.events hit' n x.within (x.events n (k1.events hit.place n hit_less eh)))
        (y.events n (k2.events miss.place n (omega (arith, miss_less)) (k1.events miss.place n miss_less em)));
  }

  pub hit_after : BeginsAfter t2 root hit'
  hit_after = let w : IsBranchAt t0 p root hit.place miss.place = table.each p (Branch root hit miss) is in
      k2.begins root hit' x.within (x.after root (k1.begins root hit.place hit_less w.hit_after))

  pub miss_after : BeginsAfter t2 root miss'
  miss_after = let w : IsBranchAt t0 p root hit.place miss.place = table.each p (Branch root hit miss) is in
      let n : length t0 ≤ length t1 = k1.grows in
      y.after root (k2.begins root miss.place (omega (arith, miss_less)) (k1.begins root miss.place miss_less w.miss_after))

-- what begins after an event in the old table does so with its event given
pub fixed_after : (t0 t1 : List Node) (event p : ℕ) (m : Bool) (r : Result Dd NoMemory) → p < length t0 → Keeps t0 t1 → IfOk r (λ d. IsFixed t1 event m p d.place)
    → IfOk r (λ d. (e : ℕ) → BeginsAfter t0 e p → BeginsAfter t1 e d.place)
fixed_after t0 t1 event p m (Ok d) h k x = λ e a. x.after e (k.begins e p h a)
fixed_after t0 t1 event p m (Err y) h k x = tt

pub fixed_events : (t0 t1 : List Node) (event p : ℕ) (m : Bool) (r : Result Dd NoMemory) → p < length t0 → Keeps t0 t1 → IfOk r (λ d. IsFixed t1 event m p d.place)
    → IfOk r (λ d. (bound : ℕ) → EventsLess t0 p bound → EventsLess t1 d.place bound)
fixed_events t0 t1 event p m (Ok d) h k x = λ n less. x.events n (k.events p n h less)
fixed_events t0 t1 event p m (Err y) h k x = tt
