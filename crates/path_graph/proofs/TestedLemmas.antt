-- The tests of what the path problem asks of a graph: what each loop of the code has found so far, and that it is enough.
use Rattle.std.proofs.Common.{◌≡◌, ℕ, zero, suc, ◌+◌, ◌<◌, ◌≤◌, Bool, true, false, cond, ◌||◌, List, [], ◌∷◌, ◌++◌, take, set, replicate, length, get_or, refl, sym, ap, subst, ◌∙◌, inl, inr, get_or-set_same, get_or-set_other, arith}
use Rattle.std.specs.Prelude.{IsTrue, IfSome, nat_eq, ◌⊎◌}
use Rattle.std.specs.List.{All, list_any}
use Rattle.std.proofs.Math.ListN.{length-set}
use Rattle.std.proofs.lemmas.Bool.{cases_lt, cases_eq, false≢true, eqb-true, eq-eqb, ne_eqb}
use Rattle.std.proofs.lemmas.List.{get_or-replicate, get_or_past, take_more, take_all}
use Rattle.std.proofs.lemmas.List.Elements.{All-head, All-tail, All-cons, All-from_get_or}
use Rattle.path_graph.specs.declared.graph.Graph.{Graph}
use Rattle.path_graph.specs.declared.graph.LoopArcs.{LoopArcs}
use Rattle.path_graph.specs.Conditions.{IsGraph, IsLoop, HasLoop}
use Rattle.path_graph.specs.Graph.{has, arc_at, loop_at, IsWalk, IsInside}
use Rattle.path_graph.specs.Tested.{HasEnds, AreMarks, HasHead, IsNestedIn, IsSound, AreOwners, AreFalling}
use Rattle.path_graph.proofs.Cases.{by_test, by_same}
use Rattle.path_graph.proofs.Cases.{has_at, place_in}

-- ---- what is asked of one arc or loop

pub record EndsBelow (g : Graph) (a : ℕ) : Type 0 where
  pub source : (arc_at g a).from < length g.finish
  pub target : (arc_at g a).to < length g.finish

pub record Leads (g : Graph) (marks : List Bool) (from : Bool) (a : ℕ) : Type 0 where
  pub within : a < length g.arcs
  pub source : get_or marks (arc_at g a).from false ≡ from
  pub target : IsTrue (get_or marks (arc_at g a).to false)

abbrev pub Enters : Graph → List Bool → ℕ → ℕ → Type 0
Enters g marks head a = get_or marks (arc_at g a).from false ≡ false → IsTrue (get_or marks (arc_at g a).to false) → (arc_at g a).to ≡ head

abbrev pub Falls : Graph → List ℕ → List ℕ → ℕ → Type 0
Falls g owners ranks a = get_or owners a 0 ≡ 0 → get_or ranks (arc_at g a).to 0 < get_or ranks (arc_at g a).from 0

abbrev pub IsAlike : List Bool → List ℕ → Type 0
IsAlike marks vertices = (u v : ℕ) → IsTrue (has vertices u) → IsTrue (get_or marks u false) → IsTrue (has vertices v) → IsTrue (get_or marks v false)

-- ---- marks

pub record MarksSoFar (listed : List ℕ) (count i : ℕ) (marks : List Bool) : Type 0 where
  pub size : length marks ≡ count
  pub below : (k : ℕ) → k < i → get_or listed k 0 < count
  pub each : (v : ℕ) → get_or marks v false ≡ has (take i listed) v

has_push : (xs : List ℕ) (x v : ℕ) → has (xs ++ x ∷ []) v ≡ has xs v || nat_eq x v
has_push [] x v = by_test (nat_eq x v) (λ e. ap (λ b. b || false) e ∙ sym e) (λ e. ap (λ b. b || false) e ∙ sym e)
has_push (y ∷ xs) x v = by_test (nat_eq y v)
    (λ e. ap (λ b. b || has (xs ++ x ∷ []) v) e ∙ sym (ap (λ b. (b || has xs v) || nat_eq x v) e))
    (λ e. ap (λ b. b || has (xs ++ x ∷ []) v) e ∙ has_push xs x v ∙ sym (ap (λ b. (b || has xs v) || nat_eq x v) e))

pub no_marks : (listed : List ℕ) (count : ℕ) (marks : List Bool) → marks ≡ replicate count false → MarksSoFar listed count 0 marks
no_marks listed count marks e = record {
  size = ap length e ∙ long count;
  below = λ k h. absurd (omega arith);
  each = λ v. ap (λ xs. get_or xs v false) e ∙ none count v;
}
  where
    long : (n : ℕ) → length (replicate n false) ≡ n
    long zero = refl
    long (suc n) = let rest = long n in omega arith

    none : (n v : ℕ) → get_or (replicate n false) v false ≡ false
    none n v = elim (cases_lt v n) [
      | inl b ↦ get_or-replicate n v false false b
      | inr b ↦ get_or_past (replicate n false) v false (let l = long n in omega arith)
    ]

pub marks_more : (listed : List ℕ) (count i : ℕ) (marks : List Bool) → MarksSoFar listed count i marks → i < length listed → get_or listed i 0 < count → MarksSoFar listed count (i + 1) (set marks (get_or listed i 0) true)
marks_more listed count i marks s h b = record {
  size = length-set marks (get_or listed i 0) true ∙ s.size;
  below = λ k l. elim (cases_lt k i) [
    | inl m ↦ s.below k m
    | inr m ↦ let e : i ≡ k = omega arith in subst (λ (j : ℕ). get_or listed j 0 < count) e b
  ];
  each = λ v.
      let x = get_or listed i 0 in
      let more : has (take (i + 1) listed) v ≡ has (take i listed) v || nat_eq x v = ap (λ xs. has xs v) (take_more listed i 0 h) ∙ has_push (take i listed) x v in
      by_same v x
      (λ e.
      let t : nat_eq x v ≡ true = eq-eqb x v (sym e) in
      let here : get_or (set marks x true) v false ≡ true = ap (λ w. get_or (set marks x true) w false) e ∙ get_or-set_same marks x true false (subst (λ (n : ℕ). x < n) (sym s.size) b) in
      here ∙ sym (more ∙ ap (λ c. has (take i listed) v || c) t ∙ or_true (has (take i listed) v)))
      (λ n.
      let t : nat_eq x v ≡ false = ne_eqb x v (λ e. n (sym e)) in
      get_or-set_other marks x v true false n ∙ s.each v ∙ sym (more ∙ ap (λ c. has (take i listed) v || c) t ∙ or_false (has (take i listed) v)));
}
  where
    or_true : (b : Bool) → b || true ≡ true
    or_true true = refl
    or_true false = refl

    or_false : (b : Bool) → b || false ≡ b
    or_false true = refl
    or_false false = refl

pub are_marks : (listed : List ℕ) (count i : ℕ) (marks : List Bool) → MarksSoFar listed count i marks → length listed ≤ i → AreMarks listed marks × All (λ v. v < count) listed
are_marks listed count i marks s h = (
  record { each = λ v. s.each v ∙ ap (λ xs. has xs v) (take_all i listed h) },
  All-from_get_or (λ v. v < count) listed 0 (λ k b. s.below k (omega arith)),
)

-- ---- owners

pub record OwnsSoFar (g : Graph) (n i : ℕ) (owners : List ℕ) : Type 0 where
  pub before : (l a : ℕ) → l < n → IsTrue (has (loop_at g l).back a) → get_or owners a 0 ≡ l + 1
  pub here : (k : ℕ) → k < i → get_or owners (get_or (loop_at g n).back k 0) 0 ≡ n + 1
  pub only : (l a : ℕ) → get_or owners a 0 ≡ l + 1 → (l < n + 1) × IsTrue (has (loop_at g l).back a)

pub owns_begin : (g : Graph) (n : ℕ) (owners : List ℕ) → AreOwners g n owners → OwnsSoFar g n 0 owners
owns_begin g n owners s = record {
  before = s.each;
  here = λ k h. absurd (omega arith);
  only = λ l a e. let o = s.only l a e in let b = o.0 in (omega arith, o.1);
}

pub owns_more : (g : Graph) (n i : ℕ) (owners : List ℕ) → OwnsSoFar g n i owners → i < length (loop_at g n).back → get_or (loop_at g n).back i 0 < length owners → (get_or owners (get_or (loop_at g n).back i 0) 0 ≡ 0) ⊎ (get_or owners (get_or (loop_at g n).back i 0) 0 ≡ n + 1) → OwnsSoFar g n (i + 1) (set owners (get_or (loop_at g n).back i 0) (n + 1))
owns_more g n i owners s h b free =
    let x = get_or (loop_at g n).back i 0 in
    let own : get_or (set owners x (n + 1)) x 0 ≡ n + 1 = get_or-set_same owners x (n + 1) 0 b in
    record {
      before = λ l a m e. by_same a x
          (λ q.
          let old : get_or owners x 0 ≡ l + 1 = ap (λ w. get_or owners w 0) (sym q) ∙ s.before l a m e in
          elim free [ inl z ↦ absurd (omega arith) | inr z ↦ absurd (omega arith) ])
          (λ q. get_or-set_other owners x a (n + 1) 0 q ∙ s.before l a m e);
      here = λ k m. by_same (get_or (loop_at g n).back k 0) x
          (λ q. ap (λ w. get_or (set owners x (n + 1)) w 0) q ∙ own)
          (λ q.
          let less : k < i = elim (cases_lt k i) [ inl c ↦ c | inr c ↦ absurd (q (ap (λ j. get_or (loop_at g n).back j 0) (let e : k ≡ i = omega arith in e))) ] in
          get_or-set_other owners x (get_or (loop_at g n).back k 0) (n + 1) 0 q ∙ s.here k less);
      only = λ l a e. by_same a x
          (λ q.
          let is : n + 1 ≡ l + 1 = sym own ∙ ap (λ w. get_or (set owners x (n + 1)) w 0) (sym q) ∙ e in
          let same : n ≡ l = omega arith in
          let F : ℕ → Type 0 = λ w. IsTrue (has (loop_at g n).back w) in
          let G : ℕ → Type 0 = λ m. IsTrue (has (loop_at g m).back a) in
          (omega arith, subst G same (subst F (sym q) (has_at (loop_at g n).back i h))))
          (λ q. s.only l a (sym (get_or-set_other owners x a (n + 1) 0 q) ∙ e));
    }

pub owns_all : (g : Graph) (n i : ℕ) (owners : List ℕ) → OwnsSoFar g n i owners → length (loop_at g n).back ≤ i → AreOwners g (n + 1) owners
owns_all g n i owners s h = record {
  each = λ l a b e. elim (cases_lt l n) [
    | inl m ↦ s.before l a m e
    | inr m ↦
        let same : l ≡ n = omega arith in
        let F : ℕ → Type 0 = λ k. IsTrue (has (loop_at g k).back a) in
        let p = place_in (loop_at g n).back a (subst F same e) in
        let q = p.1 in
        sym (ap (λ w. get_or owners w 0) p.2) ∙ s.here p.0 (omega arith) ∙ ap (λ k. k + 1) (sym same)
  ];
  only = s.only;
}

pub no_owners : (g : Graph) (owners : List ℕ) (count : ℕ) → owners ≡ replicate count 0 → AreOwners g 0 owners
no_owners g owners count e = record {
  each = λ l a b. absurd (omega arith);
  only = λ l a q. absurd (let z = ap (λ xs. get_or xs a 0) e ∙ none count a in omega arith);
}
  where
    long : (n : ℕ) → length {A = ℕ} (replicate n 0) ≡ n
    long zero = refl
    long (suc n) = let rest = long n in omega arith

    none : (n v : ℕ) → get_or {A = ℕ} (replicate n 0) v 0 ≡ 0
    none n v = elim (cases_lt v n) [
      | inl b ↦ get_or-replicate n v 0 0 b
      | inr b ↦ get_or_past (replicate n 0) v 0 (let l = long n in omega arith)
    ]

-- in a graph no arc is a back arc of two loops
pub owner_free : (g : Graph) (n i : ℕ) (owners : List ℕ) → IsGraph g → OwnsSoFar g n i owners → n < length g.loops → i < length (loop_at g n).back → (get_or owners (get_or (loop_at g n).back i 0) 0 ≡ 0) ⊎ (get_or owners (get_or (loop_at g n).back i 0) 0 ≡ n + 1)
owner_free g n i owners graph s h k = by_owner (get_or owners (get_or (loop_at g n).back i 0) 0) refl
  where
    by_owner : (w : ℕ) → get_or owners (get_or (loop_at g n).back i 0) 0 ≡ w → (get_or owners (get_or (loop_at g n).back i 0) 0 ≡ 0) ⊎ (get_or owners (get_or (loop_at g n).back i 0) 0 ≡ n + 1)
    by_owner zero e = inl e
    by_owner (suc l) e =
        let x = get_or (loop_at g n).back i 0 in
        let is : get_or owners x 0 ≡ l + 1 = e ∙ (omega arith) in
        let o = s.only l x is in
        let below = o.0 in
        let same : l ≡ n = graph.back_once l n x (omega arith) h o.1 (has_at (loop_at g n).back i k) in
        inr (is ∙ ap (λ m. m + 1) same)

pub back_below : (g : Graph) (n i : ℕ) (listed : List ℕ) → IsGraph g → n < length g.loops → listed ≡ (loop_at g n).back → i < length listed → get_or listed i 0 < length g.arcs
back_below g n i listed graph h is k =
    subst (λ (xs : List ℕ). get_or xs i 0 < length g.arcs) (sym is) ((graph.loops n h).back i 0 (subst (λ (xs : List ℕ). i < length xs) is k))

pub listed_free : (g : Graph) (n i : ℕ) (listed owners : List ℕ) → IsGraph g → OwnsSoFar g n i owners → n < length g.loops → listed ≡ (loop_at g n).back → i < length listed → (get_or owners (get_or listed i 0) 0 ≡ 0) ⊎ (get_or owners (get_or listed i 0) 0 ≡ n + 1)
listed_free g n i listed owners graph s h is k =
    subst (λ (xs : List ℕ). (get_or owners (get_or xs i 0) 0 ≡ 0) ⊎ (get_or owners (get_or xs i 0) 0 ≡ n + 1)) (sym is) (owner_free g n i owners graph s h (subst (λ (xs : List ℕ). i < length xs) is k))

-- the owner of an arc tells whether it is a back arc of a loop
pub owner_tells : (g : Graph) (owners : List ℕ) (l a : ℕ) → AreOwners g (length g.loops) owners → l < length g.loops → nat_eq (get_or owners a 0) (l + 1) ≡ has (loop_at g l).back a
owner_tells g owners l a o h = by_test (has (loop_at g l).back a)
    (λ e. eq-eqb (get_or owners a 0) (l + 1) (o.each l a h e) ∙ sym e)
    (λ e. ne_eqb (get_or owners a 0) (l + 1) (λ q. false≢true (sym e ∙ (o.only l a q).1)) ∙ sym e)

-- ---- parts of a loop

module _ (g : Graph) (l : LoopArcs) (marks : List Bool) (are : AreMarks l.members marks) where
  pub is_loop : All (λ v. v < length g.finish) l.members → IfSome l.total (λ k. k < length g.totals) → All (Leads g marks false) l.entries → All (Leads g marks true) l.back → IsLoop g l
  is_loop members total entries back = record {
    members = members;
    entries = within false l.entries entries;
    back = within true l.back back;
    from_outside = λ a h k. let e = at_arc false l.entries entries a h in false≢true (sym e.source ∙ are.each (arc_at g a).from ∙ k);
    into = λ a h. let e = at_arc false l.entries entries a h in sym (are.each (arc_at g a).to) ∙ e.target;
    back_from = λ a h. let e = at_arc true l.back back a h in sym (are.each (arc_at g a).from) ∙ e.source;
    back_to = λ a h. let e = at_arc true l.back back a h in sym (are.each (arc_at g a).to) ∙ e.target;
    total = total;
  }
    where
      at_arc : (from : Bool) (xs : List ℕ) → All (Leads g marks from) xs → (a : ℕ) → IsTrue (has xs a) → Leads g marks from a
      at_arc from xs all a h =
          let p = place_in xs a h in
          subst (Leads g marks from) p.2 (all p.0 0 p.1)

      within : (from : Bool) (xs : List ℕ) → All (Leads g marks from) xs → All (λ a. a < length g.arcs) xs
      within from xs all = All-from_get_or (λ a. a < length g.arcs) xs 0 (λ k b. (all k 0 b).within)

  pub has_head_at : (head : ℕ) → All (λ a. (arc_at g a).to ≡ head) l.back → ((a : ℕ) → a < length g.arcs → Enters g marks head a) → HasHead g l
  has_head_at head back enter = record {
    entered = λ a b h k out in_.
        let p = place_in l.back b k in
        let to = subst (λ (c : ℕ). (arc_at g c).to ≡ head) p.2 (back p.0 0 p.1) in
        enter a h (are.each (arc_at g a).from ∙ out) (are.each (arc_at g a).to ∙ in_) ∙ sym to;
  }

pub alike_all : (marks : List Bool) (vertices : List ℕ) (marked : Bool) → All (λ v. get_or marks v false ≡ marked) vertices → IsAlike marks vertices
alike_all marks vertices marked all = λ u v h m k.
    let p = place_in vertices u h in
    let q = place_in vertices v k in
    let a = subst (λ (w : ℕ). get_or marks w false ≡ marked) p.2 (all p.0 0 p.1) in
    let b = subst (λ (w : ℕ). get_or marks w false ≡ marked) q.2 (all q.0 0 q.1) in
    b ∙ sym a ∙ m

pub nested_in : (g : Graph) (n : ℕ) (marks : List Bool) → AreMarks (loop_at g n).members marks → ((k : ℕ) → k < n → IsAlike marks (loop_at g k).members) → IsNestedIn g n
nested_in g n marks are alike = record {
  each = λ l u v b h m k. sym (are.each v) ∙ alike l b u v h (are.each u ∙ m) k;
}

-- ---- closed walks

-- an arc of a walk at which a number is greatest
pub record IsMost (key : ℕ → ℕ) (walk : List ℕ) : Type 0 where
  pub place : ℕ
  pub within : place < length walk
  pub all : All (λ b. key b ≤ key (get_or walk place 0)) walk

most : (key : ℕ → ℕ) (a : ℕ) (walk : List ℕ) → IsMost key (a ∷ walk)
most key a [] = record { place = 0; within = omega arith; all = All-cons (λ b. key b ≤ key a) a [] (omega arith) (λ k d h. absurd (omega arith)) }
most key a (b ∷ walk) =
    let rest = most key b walk in
    let top = get_or (b ∷ walk) rest.place 0 in
    let w = rest.within in
    elim (cases_lt (key top) (key a)) [
      | inl less ↦ record {
        place = 0;
        within = omega arith;
        all = All-cons (λ c. key c ≤ key a) a (b ∷ walk) (omega arith) (λ k d h. let r = rest.all k d h in omega arith);
      }
      | inr more ↦ record {
        place = suc rest.place;
        within = omega arith;
        all = All-cons (λ c. key c ≤ key top) a (b ∷ walk) more rest.all;
      }
    ]

module _ (g : Graph) (rank : ℕ → ℕ) where
  -- where targets are low, so are the ends of a walk
  end_low : (high a : ℕ) (walk : List ℕ) (u v : ℕ) → IsWalk g u (a ∷ walk) v → All (λ b. rank (arc_at g b).to ≤ high) (a ∷ walk) → rank v ≤ high
  end_low high a [] u v is all = subst (λ (w : ℕ). rank w ≤ high) is.2 (All-head (λ b. rank (arc_at g b).to ≤ high) a [] all)
  end_low high a (b ∷ walk) u v is all = end_low high b walk (arc_at g a).to v is.2 (All-tail (λ c. rank (arc_at g c).to ≤ high) a (b ∷ walk) all)

  sources_low : (high : ℕ) (walk : List ℕ) (u v : ℕ) → IsWalk g u walk v → rank u ≤ high → All (λ b. rank (arc_at g b).to ≤ high) walk → All (λ b. rank (arc_at g b).from ≤ high) walk
  sources_low high [] u v is low all = λ k d h. absurd (omega arith)
  sources_low high (a ∷ walk) u v is low all =
      All-cons (λ b. rank (arc_at g b).from ≤ high) a walk (subst (λ (w : ℕ). rank w ≤ high) (sym is.1) low)
      (sources_low high walk (arc_at g a).to v is.2 (All-head (λ b. rank (arc_at g b).to ≤ high) a walk all) (All-tail (λ b. rank (arc_at g b).to ≤ high) a walk all))

-- a walk that nowhere enters some vertices and ends in them has all its sources in them
module _ (g : Graph) (l : LoopArcs) where
  abbrev Stays : ℕ → Type 0
  Stays a = IsTrue (has l.members (arc_at g a).to) → IsTrue (has l.members (arc_at g a).from)

  backward : (walk : List ℕ) (u v : ℕ) → IsWalk g u walk v → All Stays walk → IsTrue (has l.members v) → IsTrue (has l.members u) × IsInside g l walk
  backward [] u v is all h = (subst (λ (w : ℕ). IsTrue (has l.members w)) (sym is) h, λ k d b. absurd (omega arith))
  backward (a ∷ walk) u v is all h =
      let rest = backward walk (arc_at g a).to v is.2 (All-tail Stays a walk all) h in
      let from = All-head Stays a walk all rest.0 in
      (subst (λ (w : ℕ). IsTrue (has l.members w)) is.1 from, All-cons (λ b. IsTrue (has l.members (arc_at g b).from)) a walk from rest.1)

  -- it begins in them if one of its sources is in them
  begins : (walk : List ℕ) (u v i : ℕ) → IsWalk g u walk v → All Stays walk → i < length walk → IsTrue (has l.members (arc_at g (get_or walk i 0)).from) → IsTrue (has l.members u)
  begins [] u v i is all b h = absurd (omega arith)
  begins (a ∷ walk) u v zero is all b h = subst (λ (w : ℕ). IsTrue (has l.members w)) is.1 h
  begins (a ∷ walk) u v (suc i) is all b h =
      let rest = begins walk (arc_at g a).to v i is.2 (All-tail Stays a walk all) (omega arith) h in
      subst (λ (w : ℕ). IsTrue (has l.members w)) is.1 (All-head Stays a walk all rest)

module _ (g : Graph) (owners ranks : List ℕ) (sound : (l : ℕ) → l < length g.loops → IsSound g l) (own : AreOwners g (length g.loops) owners) (fall : AreFalling g owners ranks) where
  abbrev rank : ℕ → ℕ
  rank v = get_or ranks v 0

  abbrev to_rank : ℕ → ℕ
  to_rank a = get_or ranks (arc_at g a).to 0

  all_within : (walk : List ℕ) (u v : ℕ) → IsWalk g u walk v → All (λ a. a < length g.arcs) walk
  all_within [] u v is = λ k d h. absurd (omega arith)
  all_within (a ∷ walk) u v is = All-cons (λ b. b < length g.arcs) a walk is.0 (all_within walk (arc_at g a).to v is.2)

  -- an arc that does not fall is a back arc of a loop
  owned : (a : ℕ) → a < length g.arcs → rank (arc_at g a).from ≤ to_rank a → (l : ℕ) × (get_or owners a 0 ≡ l + 1)
  owned a h low = by_owner (get_or owners a 0) refl
    where
      by_owner : (n : ℕ) → get_or owners a 0 ≡ n → (l : ℕ) × (get_or owners a 0 ≡ l + 1)
      by_owner zero e = absurd (let f = fall.each a h e in omega arith)
      by_owner (suc n) e = (n, e ∙ (omega arith))

  -- the owner of an arc that leads to a vertex of some rank; else 0
  abbrev owner_at : ℕ → ℕ → ℕ
  owner_at high a = cond {A = ℕ} (nat_eq (to_rank a) high) (get_or owners a 0) 0

  owner_here : (high a : ℕ) → to_rank a ≡ high → owner_at high a ≡ get_or owners a 0
  owner_here high a e = ap (λ b. cond {A = ℕ} b (get_or owners a 0) 0) (eq-eqb (to_rank a) high e)

  owner_some : (high a : ℕ) → 0 < owner_at high a → to_rank a ≡ high
  owner_some high a h = by_test (nat_eq (to_rank a) high)
      (λ e. eqb-true (to_rank a) high e)
      (λ e. absurd (let z : owner_at high a ≡ 0 = ap (λ b. cond {A = ℕ} b (get_or owners a 0) 0) e in omega arith))

  pub in_loop : (v a : ℕ) (walk : List ℕ) → IsWalk g v (a ∷ walk) v → HasLoop g (a ∷ walk)
  in_loop v a walk is =
      let w : List ℕ = a ∷ walk in
      let high_one = most to_rank a walk in
      let top = get_or w high_one.place 0 in
      let high = to_rank top in
      let within = all_within w v v is in
      let low = sources_low g rank high w v v is (end_low g rank high a walk v v is high_one.all) high_one.all in
      let last = most (owner_at high) a walk in
      let back = get_or w last.place 0 in
      let some = owned top (within high_one.place 0 high_one.within) (low high_one.place 0 high_one.within) in
      let one = owner_here high top refl in
      let own_top = some.1 in
      let less = last.all high_one.place 0 high_one.within in
      let here : to_rank back ≡ high = owner_some high back (omega arith) in
      let is_own = owner_here high back here in
      let back_low : rank (arc_at g back).from ≤ to_rank back = (let b = low last.place 0 last.within in omega arith) in
      let owner = owned back (within last.place 0 last.within) back_low in
      let l = owner.0 in
      let own_back = owner.1 in
      let known = own.only l back own_back in
      let found = sound l known.0 in
      let from = found.is.back_from back known.1 in
      let stays : All (Stays g (loop_at g l)) w = All-from_get_or (Stays g (loop_at g l)) w 0 (λ k h. stay w high l back k h here is_own own_back known.0 known.1 (within k 0 h) (low k 0 h) (last.all k 0 h)) in
      let start = begins g (loop_at g l) w v v last.place is stays last.within from in
      record {
        loop = l;
        within = known.0;
        inside = (backward g (loop_at g l) w v v is stays start).1;
      }
    where
      stay : (w : List ℕ) (high l back k : ℕ) → k < length w → to_rank back ≡ high → owner_at high back ≡ get_or owners back 0 → get_or owners back 0 ≡ l + 1 → l < length g.loops → IsTrue (has (loop_at g l).back back)
          → get_or w k 0 < length g.arcs → rank (arc_at g (get_or w k 0)).from ≤ high → owner_at high (get_or w k 0) ≤ owner_at high back → Stays g (loop_at g l) (get_or w k 0)
      stay w high l back k h here is_own own_back inside is_back b_within b_low b_less = λ to_in.
          let b = get_or w k 0 in
          let found = sound l inside in
          by_test (has (loop_at g l).members (arc_at g b).from)
          (λ e. e)
          (λ e.
          let same = found.head.entered b back b_within is_back e to_in in
          let rank_is : to_rank b ≡ high = ap rank same ∙ here in
          let own_b = owned b b_within (omega arith) in
          let m = own_b.0 in
          let own_is = own_b.1 in
          let at_b = owner_here high b rank_is in
          let known = own.only m b own_is in
          let other = sound m known.0 in
          elim (cases_lt m l) [
            | inl less ↦ found.nested.each m (arc_at g b).to (arc_at g b).from less (other.is.back_to b known.1) to_in (other.is.back_from b known.1)
            | inr more ↦
                let q : m ≡ l = omega arith in
                let F : ℕ → Type 0 = λ j. IsTrue (has (loop_at g j).members (arc_at g b).from) in
                subst F q (other.is.back_from b known.1)
          ])

  pub is_graph_now : HasEnds g → IsGraph g
  is_graph_now ends = record {
    sources = ends.sources;
    targets = ends.targets;
    loops = λ l h. (sound l h).is;
    closed = in_loop;
    back_once = λ l m a h k b c. let one = own.each l a h b in let two = own.each m a k c in omega arith;
    nested = λ l m u v less h b c d. (sound m h).nested.each l u v less b c d;
    start = ends.start;
    origin = ends.origin;
  }
