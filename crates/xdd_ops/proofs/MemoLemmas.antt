-- Answers kept for pairs of places: in tables that grow, and from the two halves of a pair.
use Rattle.std.proofs.Common.{◌≡◌, ℕ, ◌+◌, ◌<◌, ◌≤◌, Bool, true, false, List, length, Option, Some, None, Result, Ok, Err, IfOk, OnOk, refl, sym, ◌∙◌, arith, if◌then◌else◌, inl, inr, ◌⊎◌, cond, nat_eq, ◌&&◌}
use Rattle.wx_text.specs.declared.memory.NoMemory.{NoMemory}
use Rattle.std.proofs.lemmas.Bool.Decides.{nat_tests}
use Rattle.xdd_table.specs.declared.node.Dd.{Dd}
use Rattle.xdd_table.specs.declared.node.Node.{Node}
use Rattle.xdd_table.specs.Diagram.{Combination, with_event, time, BeginsAfter, EventsLess, IsBelow, itself, by_hit, by_miss, IsTable, Keeps}
use Rattle.xdd_ops.specs.Cofactors.{HasRoot, IsCofactors, IsSplit, AreLeaves}
use Rattle.xdd_ops.specs.Given.{same_places}
use Rattle.xdd_ops.specs.Answers.{IsAnswer, AreAnswers, IsPairBelow, KeepsBelow, Stays, Passes}
use Rattle.xdd_ops.proofs.ApplyLemmas.{keeps_twice, one_branch}
use Rattle.xdd_ops.proofs.GivenLemmas.{below_kept, below_back, events_back, begins_back}

-- places below places
pub below_twice : (nodes : List Node) {p q r : ℕ} → IsBelow nodes p q → IsBelow nodes q r → IsBelow nodes p r
below_twice nodes itself c = c
below_twice nodes (by_hit is b) c = by_hit is (below_twice nodes b c)
below_twice nodes (by_miss is b) c = by_miss is (below_twice nodes b c)

-- what is said of a table holds of a later one
module _ (old new : List Node) (table : IsTable old) (k : Keeps old new) where
  pub answer_kept : (gives : ℕ → ℕ → ℕ → Type 0) (a b d : ℕ) → IsAnswer old gives a b d → IsAnswer new gives a b d
  answer_kept gives a b d x = let g : length old ≤ length new = k.grows in record {
    first = omega (arith, x.first);
    second = omega (arith, x.second);
    within = omega (arith, x.within);
    times = λ f. rw (k.times f a x.first, k.times f b x.second, k.times f d x.within) (x.times f);
    after = λ e p q. k.begins e d x.within (x.after e (begins_back old new table k a e x.first p) (begins_back old new table k b e x.second q));
    events = λ n p q. k.events d n x.within (x.events n (events_back old new table k a n x.first p) (events_back old new table k b n x.second q));
  }

  pub answers_kept : (gives : ℕ → ℕ → ℕ → Type 0) (kept : ℕ × ℕ → Option Dd) → AreAnswers old gives kept → AreAnswers new gives kept
  answers_kept gives kept all = record { each = λ a b d is. answer_kept gives a b d.place (all.each a b d is) }

  root_back : (p e : ℕ) → p < length old → HasRoot new e p → HasRoot old e p
  root_back p e h r = record { hit = r.hit; miss = r.miss; at = sym (k.nodes p h) ∙ r.at }

  cofactors_kept : (p e hit miss : ℕ) → p < length old → IsCofactors old p e hit miss → IsCofactors new p e hit miss
  cofactors_kept p e hit miss h x = let g : length old ≤ length new = k.grows in record {
    hit_in = omega (arith, x.hit_in);
    miss_in = omega (arith, x.miss_in);
    hit_after = k.begins e hit x.hit_in x.hit_after;
    miss_after = k.begins e miss x.miss_in x.miss_after;
    hit_before = x.hit_before;
    miss_before = x.miss_before;
    hit_less = λ r. x.hit_less (root_back p e h r);
    miss_less = λ r. x.miss_less (root_back p e h r);
    hit_below = below_kept old new table k h x.hit_below;
    miss_below = below_kept old new table k h x.miss_below;
    hit_time = λ f. k.times f hit x.hit_in ∙ (x.hit_time f ∙ sym (k.times (with_event f e false) p h));
    miss_time = λ f. k.times f miss x.miss_in ∙ (x.miss_time f ∙ sym (k.times (with_event f e true) p h));
    times = λ f. rw (k.times f p h, k.times f miss x.miss_in, k.times f hit x.hit_in) (x.times f);
    hit_events = λ n l. k.events hit n x.hit_in (x.hit_events n (events_back old new table k p n h l));
    miss_events = λ n l. k.events miss n x.miss_in (x.miss_events n (events_back old new table k p n h l));
  }

  pub split_kept : (a b event : ℕ) (hits misses : Dd × Dd) → a < length old → b < length old → IsSplit old a b event hits misses → IsSplit new a b event hits misses
  split_kept a b event hits misses h h' s = record {
    first = cofactors_kept a event hits.0.place misses.0.place h s.first;
    second = cofactors_kept b event hits.1.place misses.1.place h' s.second;
    hits_less = s.hits_less;
    misses_less = s.misses_less;
    root = λ e p q. s.root e (begins_back old new table k a e h p) (begins_back old new table k b e h' q);
    bound = λ n p q. s.bound n (events_back old new table k a n h p) (events_back old new table k b n h' q);
  }

-- what is said of an operation holds of it later
pub answer_stays : (nodes : List Node) (gives given : ℕ → ℕ → ℕ → Type 0) (a b d : ℕ) → Stays gives given → IsAnswer nodes gives a b d → IsAnswer nodes given a b d
answer_stays nodes gives given a b d s x = record {
  first = x.first;
  second = x.second;
  within = x.within;
  times = λ f. s.given (time nodes f a) (time nodes f b) (time nodes f d) (x.times f);
  after = x.after;
  events = x.events;
}

pub answers_stay : (nodes : List Node) (gives given : ℕ → ℕ → ℕ → Type 0) (kept : ℕ × ℕ → Option Dd) → Stays gives given → AreAnswers nodes gives kept → AreAnswers nodes given kept
answers_stay nodes gives given kept s all = record { each = λ a b d is. answer_stays nodes gives given a b d.place s (all.each a b d is) }

-- an answer that is one of the two diagrams
pub answer_first : (nodes : List Node) (gives : ℕ → ℕ → ℕ → Type 0) (a b : ℕ) → a < length nodes → b < length nodes
    → ((f : Combination) → gives (time nodes f a) (time nodes f b) (time nodes f a)) → IsAnswer nodes gives a b a
answer_first nodes gives a b h h' t = record { first = h; second = h'; within = h; times = t; after = λ e p q. p; events = λ n p q. p }

pub answer_second : (nodes : List Node) (gives : ℕ → ℕ → ℕ → Type 0) (a b : ℕ) → a < length nodes → b < length nodes
    → ((f : Combination) → gives (time nodes f a) (time nodes f b) (time nodes f b)) → IsAnswer nodes gives a b b
answer_second nodes gives a b h h' t = record { first = h; second = h'; within = h'; times = t; after = λ e p q. q; events = λ n p q. q }

-- an answer that is a new leaf
pub answer_leaf : (old new : List Node) (gives : ℕ → ℕ → ℕ → Type 0) (a b t u r d : ℕ) → Keeps old new → a < length old → b < length old → AreLeaves old a b t u → gives t u r → d < length new
    → ((f : Combination) → time new f d ≡ r) → ((e : ℕ) → BeginsAfter new e d) → ((bound : ℕ) → EventsLess new d bound) → IsAnswer new gives a b d
answer_leaf old new gives a b t u r d k h h' l g within is after events = let n : length old ≤ length new = k.grows in record {
  first = omega (arith, h);
  second = omega (arith, h');
  within = within;
  times = λ f. let e = k.times f a h ∙ l.first f in let e' = k.times f b h' ∙ l.second f in rw (e, e', is f) g;
  after = λ e p q. after e;
  events = λ m p q. events m;
}

-- the answer for a pair, from those for its halves
module _ (old new : List Node) (table : IsTable old) (k : Keeps old new) (gives : ℕ → ℕ → ℕ → Type 0) (a b event hit miss d : ℕ) (hits misses : Dd × Dd)
    (s : IsSplit old a b event hits misses) (h : a < length old) (h' : b < length old)
    (x : IsAnswer old gives hits.0.place hits.1.place hit) (y : IsAnswer old gives misses.0.place misses.1.place miss) where
  pub answer_branch : d < length new → ((f : Combination) → time new f d ≡ (if f event then time old f miss else time old f hit)) → ((e : ℕ) → e < event → BeginsAfter new e d)
      → ((bound : ℕ) → event < bound → EventsLess old hit bound → EventsLess old miss bound → EventsLess new d bound) → IsAnswer new gives a b d
  answer_branch within t after events = let g : length old ≤ length new = k.grows in record {
    first = omega (arith, h);
    second = omega (arith, h');
    within = within;
    times = λ f. one_branch gives (f event) (time new f a) (time new f b) (time new f d) (time old f misses.0.place) (time old f misses.1.place) (time old f miss)
        (time old f hits.0.place) (time old f hits.1.place) (time old f hit)
        (k.times f a h ∙ s.first.times f) (k.times f b h' ∙ s.second.times f) (t f) (y.times f) (x.times f);
    after = λ e p q. after e (s.root e (begins_back old new table k a e h p) (begins_back old new table k b e h' q));
    events = λ n p q.
        let p' = events_back old new table k a n h p in
        let q' = events_back old new table k b n h' q in
        events n (s.bound n p' q') (x.events n (s.first.hit_events n p') (s.second.hit_events n q')) (y.events n (s.first.miss_events n p') (s.second.miss_events n q'));
  }

-- which answers are kept
pub below_none : (nodes : List Node) (a b limit : ℕ) (kept : ℕ × ℕ → Option Dd) → KeepsBelow nodes a b limit kept kept
below_none nodes a b limit kept = record { added = λ p q d is. inl is }

pub below_then : (nodes : List Node) (a b limit : ℕ) (x y z : ℕ × ℕ → Option Dd) → KeepsBelow nodes a b limit x y → KeepsBelow nodes a b limit y z → KeepsBelow nodes a b limit x z
below_then nodes a b limit x y z k l = record { added = λ p q d is. elim (l.added p q d is) [ inl g ↦ k.added p q d g | inr g ↦ inr g ] }

pub below_more : (nodes : List Node) (a b limit : ℕ) (x y : ℕ × ℕ → Option Dd) → KeepsBelow nodes a b limit x y → KeepsBelow nodes a b (limit + 1) x y
below_more nodes a b limit x y k = record {
  added = λ p q d is. elim (k.added p q d is) [ inl g ↦ inl g | inr g ↦ inr (record { first = g.first; second = g.second; less = omega (arith, g.less) }) ];
}

module _ (old new : List Node) (table : IsTable old) (k : Keeps old new) (a b event : ℕ) (hits misses : Dd × Dd) (s : IsSplit old a b event hits misses) (x y : ℕ × ℕ → Option Dd) where
  pub below_hits : KeepsBelow old hits.0.place hits.1.place (hits.0.place + hits.1.place + 1) x y → KeepsBelow old a b (a + b) x y
  below_hits w = record {
    added = λ p q d is. elim (w.added p q d is) [
      | inl g ↦ inl g
      | inr g ↦ inr (record { first = below_twice old s.first.hit_below g.first; second = below_twice old s.second.hit_below g.second; less = omega (arith, g.less, s.hits_less) })
    ];
  }

  pub below_misses : KeepsBelow new misses.0.place misses.1.place (misses.0.place + misses.1.place + 1) x y → KeepsBelow old a b (a + b) x y
  below_misses w = record {
    added = λ p q d is. elim (w.added p q d is) [
      | inl g ↦ inl g
      | inr g ↦ inr (record {
        first = below_twice old s.first.miss_below (below_back old new table k s.first.miss_in g.first);
        second = below_twice old s.second.miss_below (below_back old new table k s.second.miss_in g.second);
        less = omega (arith, g.less, s.misses_less);
      })
    ];
  }

-- a pair that was not kept is kept
not_less : (nodes : List Node) (a b : ℕ) → IsPairBelow nodes a b (a + b) a b → ⊥
not_less nodes a b w = omega (arith, w.less)

pub still_absent : (nodes : List Node) (a b : ℕ) (x y : ℕ × ℕ → Option Dd) → KeepsBelow nodes a b (a + b) x y → x (a, b) ≡ None → y (a, b) ≡ None
still_absent nodes a b x y w none = at (y (a, b)) refl
  where
    at : (o : Option Dd) → y (a, b) ≡ o → y (a, b) ≡ None
    at None is = is
    at (Some d) is = elim (w.added a b d is) [ inl g ↦ let e : None ≡ Some d = sym none ∙ g in cc | inr g ↦ absurd (not_less nodes a b g) ]

one_below : (nodes : List Node) (a b p q : ℕ) (t u : Bool) (d n : Dd) (x y : ℕ × ℕ → Option Dd) → t ≡ nat_eq a p → u ≡ nat_eq b q → KeepsBelow nodes a b (a + b) x y
    → cond (t && u) (Some n) (y (p, q)) ≡ Some d → (x (p, q) ≡ Some d) ⊎ IsPairBelow nodes a b (a + b + 1) p q
one_below nodes a b p q true true d n x y same same' w is =
    let e : a ≡ p = grind (arith, nat_tests) in
    let e' : b ≡ q = grind (arith, nat_tests) in
    inr (record { first = rw (← e) itself; second = rw (← e') itself; less = rw (← e, ← e') (omega arith) })
one_below nodes a b p q true false d n x y same same' w is = (below_more nodes a b (a + b) x y w).added p q d is
one_below nodes a b p q false u d n x y same same' w is = (below_more nodes a b (a + b) x y w).added p q d is

pub below_insert : (nodes : List Node) (a b : ℕ) (n : Dd) (x y z : ℕ × ℕ → Option Dd) → KeepsBelow nodes a b (a + b) x y
    → ((q : ℕ × ℕ) → z q ≡ cond (same_places (a, b) q) (Some n) (y q)) → KeepsBelow nodes a b (a + b + 1) x z
below_insert nodes a b n x y z w updates = record { added = λ p q d is. one_below nodes a b p q (nat_eq a p) (nat_eq b q) d n x y refl refl w (sym (updates (p, q)) ∙ is) }

one_answer : (nodes : List Node) (gives : ℕ → ℕ → ℕ → Type 0) (t u : Bool) (a b p q : ℕ) (m n : Dd) (before : Option Dd) → t ≡ nat_eq a p → u ≡ nat_eq b q → IsAnswer nodes gives a b m.place
    → (before ≡ Some n → IsAnswer nodes gives p q n.place) → cond (t && u) (Some m) before ≡ Some n → IsAnswer nodes gives p q n.place
one_answer nodes gives true true a b p q m n before same same' x y is =
    let e : a ≡ p = grind (arith, nat_tests) in
    let e' : b ≡ q = grind (arith, nat_tests) in
    let e'' : m ≡ n = cc in
    rw (← e, ← e', ← e'') x
one_answer nodes gives true false a b p q m n before same same' x y is = y is
one_answer nodes gives false u a b p q m n before same same' x y is = y is

pub answers_more : (nodes : List Node) (gives : ℕ → ℕ → ℕ → Type 0) (a b : ℕ) (n : Dd) (kept next : ℕ × ℕ → Option Dd) → AreAnswers nodes gives kept → IsAnswer nodes gives a b n.place
    → ((q : ℕ × ℕ) → next q ≡ cond (same_places (a, b) q) (Some n) (kept q)) → AreAnswers nodes gives next
answers_more nodes gives a b n kept next all x updates = record {
  each = λ p q m is. one_answer nodes gives (nat_eq a p) (nat_eq b q) a b p q n m (kept (p, q)) refl refl x (all.each p q m) (sym (updates (p, q)) ∙ is);
}

-- the two halves, once both are answered
module _ (t0 t1 t2 : List Node) (table : IsTable t0) (g0 g1 g2 : ℕ → ℕ → ℕ → Type 0) (c0 c1 c2 : ℕ → ℕ → Type 0) (a b event hit miss : ℕ) (hits misses : Dd × Dd)
    (s : IsSplit t0 a b event hits misses) (h : a < length t0) (h' : b < length t0)
    (v : Passes t0 t1 g0 g1 c0 c1 hits.0.place hits.1.place) (w : Passes t1 t2 g1 g2 c1 c2 misses.0.place misses.1.place)
    (x : IsAnswer t1 g1 hits.0.place hits.1.place hit) (y : IsAnswer t2 g2 misses.0.place misses.1.place miss) where
  split_now : IsSplit t2 a b event hits misses
  split_now = split_kept t0 t2 table (keeps_twice t0 t1 t2 v.kept w.kept) a b event hits misses h h' s

  hit_now : IsAnswer t2 g2 hits.0.place hits.1.place hit
  hit_now = answer_kept t1 t2 v.table w.kept g2 hits.0.place hits.1.place hit (answer_stays t1 g1 g2 hits.0.place hits.1.place hit w.stays x)

  pub hit_after : BeginsAfter t2 event hit
  hit_after = let n = hit_now in let m = split_now in n.after event m.first.hit_after m.second.hit_after

  pub miss_after : BeginsAfter t2 event miss
  miss_after = let m = split_now in y.after event m.first.miss_after m.second.miss_after

  pub halves_answer : (new : List Node) (d : ℕ) → Keeps t2 new → d < length new → ((f : Combination) → time new f d ≡ (if f event then time t2 f miss else time t2 f hit))
      → ((e : ℕ) → e < event → BeginsAfter new e d) → ((bound : ℕ) → event < bound → EventsLess t2 hit bound → EventsLess t2 miss bound → EventsLess new d bound)
      → IsAnswer new g2 a b d
  halves_answer new d k within t after events =
      let g : length t0 ≤ length t1 = v.kept.grows in
      let g' : length t1 ≤ length t2 = w.kept.grows in
      answer_branch t2 new w.table k g2 a b event hit miss d hits misses split_now (omega (arith, h)) (omega (arith, h')) hit_now y within t after events

-- what holds in any case holds on an answer
pub on_ok : (r : Result Dd NoMemory) (P : Type 0) → P → OnOk r P
on_ok (Ok d) P p = p
on_ok (Err e) P p = tt

-- an answer, told by the times of the table before
module _ (old new : List Node) (k : Keeps old new) (gives : ℕ → ℕ → ℕ → Type 0) (a b : ℕ) (h : a < length old) (h' : b < length old) where
  pub old_times : (r : Result Dd NoMemory) → IfOk r (λ d. IsAnswer new gives a b d.place) → IfOk r (λ d. (f : Combination) → gives (time old f a) (time old f b) (time new f d.place))
  old_times (Ok d) x = λ f. rw (← k.times f a h, ← k.times f b h') (x.times f)
  old_times (Err e) x = tt

  pub old_after : (r : Result Dd NoMemory) → IfOk r (λ d. IsAnswer new gives a b d.place) → IfOk r (λ d. (e : ℕ) → BeginsAfter old e a → BeginsAfter old e b → BeginsAfter new e d.place)
  old_after (Ok d) x = λ e p q. x.after e (k.begins e a h p) (k.begins e b h' q)
  old_after (Err e) x = tt

  pub old_events : (r : Result Dd NoMemory) → IfOk r (λ d. IsAnswer new gives a b d.place)
      → IfOk r (λ d. (bound : ℕ) → EventsLess old a bound → EventsLess old b bound → EventsLess new d.place bound)
  old_events (Ok d) x = λ n p q. x.events n (k.events a n h p) (k.events b n h' q)
  old_events (Err e) x = tt
