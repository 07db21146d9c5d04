-- The part of a graph inside a loop: its closed walks are those inside the loop, so its least price is the loop's need.
use Rattle.std.proofs.Common.{◌≡◌, ℕ, ◌+◌, ◌^◌, ◌<◌, ◌≤◌, Bool, true, false, cond, List, [], ◌∷◌, ◌++◌, map, length, get_or, refl, sym, ap, subst, ◌∙◌, zero-add, arith}
use Rattle.std.specs.Prelude.{ℤ, pos, ◌+ℤ◌, ◌-ℤ◌, ◌≤ℤ◌, IsTrue}
use Rattle.std.specs.List.{All, Contains, zip}
use Rattle.std.proofs.lemmas.Int.{ints}
use Rattle.std.proofs.lemmas.List.{map-append, get_or_default}
use Rattle.path_graph.specs.Sources.{HasArcsOf, AreSame}
use Rattle.std.proofs.lemmas.List.Sums.{sum_by_push}
use Rattle.std.proofs.lemmas.List.Elements.{All-head, All-tail, All-nil, All-cons}
use Rattle.path_graph.specs.declared.graph.Graph.{Graph}
use Rattle.path_graph.specs.declared.graph.LoopArcs.{LoopArcs}
use Rattle.path_graph.specs.declared.graph.TheConstants.{LARGEST}
use Rattle.path_problem.specs.declared.net.Link.{Link}
use Rattle.path_graph.specs.Conditions.{IsWithin, IsLoop, IsGraph}
use Rattle.path_graph.specs.Graph.{has, arc_at, loop_at, IsWalk, IsInside, weight_along}
use Rattle.path_problem.specs.Least.{IsPart, HasGain, GainsBelow, IsLeastPrice}
use Rattle.path_problem.specs.Need.{need_toll, need_tolls, Serves, IsNeed}
use Rattle.path_problem.specs.Net.{link_at, link_weight, IsLinked, IsSettled}
use Rattle.std.specs.List.{IsDistinct}
use Rattle.std.proofs.Math.Dec.{eqb}
use Rattle.path_problem.specs.Whole.{HasLink}
use Rattle.path_problem.specs.Part.{IsPlace, AreNames, IsInner, AreInner, IsInnerAt, IsSmallNeed, NoneServes, NeedGives}
use Rattle.path_problem.specs.Weight.{gain_of, loss_of, weight_under}
use Rattle.path_problem.specs.Window.{AreWeights, weight_limit}
use Rattle.std.proofs.Common.{inl, inr}
use Rattle.std.proofs.lemmas.Bool.{cases_lt}
use Rattle.path_graph.proofs.Cases.{by_test, has_at, place_in}
use Rattle.path_problem.proofs.WalkLemmas.{telescope}
use Rattle.std.specs.Prelude.{nat_eq}
use Rattle.std.proofs.Common.{suc, ◌||◌, set, get_or-set_same, get_or-set_other, length-append}
use Rattle.std.proofs.Math.ListN.{length-set}
use Rattle.std.specs.Prelude.{Option, Some, None, MatchOption}
use Rattle.std.specs.Option.{is_some}
use Rattle.std.specs.Prelude.{not}
use Rattle.std.specs.Cmp.{nat_eq_equiv}
use Rattle.std.specs.List.{list_any}
use Rattle.std.proofs.lemmas.Bool.{ne_eqb, eqb-true, eq-eqb, false≢true}
use Rattle.std.proofs.lemmas.List.{get_or_append_left, get_or_push}
use Rattle.std.proofs.lemmas.List.Elements.{All-push, All-from_get_or}
use Rattle.std.proofs.lemmas.List.Folds.{list_any_none, list_any_at}
use Rattle.std.proofs.lemmas.Map.Keys.{IsDistinct-push}
use Rattle.std.proofs.lemmas.Map.Views.{Contains-from_any}
use Rattle.std.proofs.lemmas.Map.Steps.{length-le_from_distinct_below}

-- ---- one toll more

zip_nothing : {A : Type 0} (x : A) (xs : List A) (y : ℕ) → zip (x ∷ xs) (y ∷ []) ≡ (x, y) ∷ []
zip_nothing x [] y = refl
zip_nothing x (z ∷ zs) y = refl

pub zip_push : {A : Type 0} (xs : List A) (ys : List ℕ) (y : ℕ) (d : A) → length ys < length xs → zip xs (ys ++ y ∷ []) ≡ zip xs ys ++ (get_or xs (length ys) d, y) ∷ []
zip_push [] ys y d h = absurd (omega arith)
zip_push (x ∷ xs) [] y d h = zip_nothing x xs y
zip_push (x ∷ xs) (z ∷ ys) y d h = ap (λ l. (x, z) ∷ l) (zip_push xs ys y d (omega arith))

pub tolls_push : (g : Graph) (chosen : List Bool) (needs : List ℕ) (n : ℕ) → length needs < length g.loops → need_tolls g chosen (needs ++ n ∷ []) ≡ need_tolls g chosen needs ++ need_toll chosen (loop_at g (length needs), n) ∷ []
tolls_push g chosen needs n h =
    ap (map (need_toll chosen)) (zip_push g.loops needs n _ h) ∙ map-append (need_toll chosen) (zip g.loops needs) ((loop_at g (length needs), n) ∷ [])

-- an arc that begins inside the loop does not enter it, so its toll is what a back arc loses
pub weight_inside : (g : Graph) (chosen : List Bool) (needs : List ℕ) (n a : ℕ) → length needs < length g.loops → IsLoop g (loop_at g (length needs)) → IsTrue (has (loop_at g (length needs)).members (arc_at g a).from) → weight_under g (need_tolls g chosen (needs ++ n ∷ [])) a ≡ (weight_under g (need_tolls g chosen needs) a -ℤ pos (cond {A = ℕ} (has (loop_at g (length needs)).back a) n 0))
weight_inside g chosen needs n a h is inside =
    let l = loop_at g (length needs) in
    let t = need_toll chosen (l, n) in
    let tolls = need_tolls g chosen needs in
    let outside : has l.entries a ≡ false = by_test (has l.entries a) (λ e. absurd (is.from_outside a e inside)) (λ e. e) in
    let gain : gain_of a t ≡ 0 = ap (λ b. cond {A = ℕ} b t.gain 0) outside in
    let gains = sum_by_push (gain_of a) tolls t in
    let losses = sum_by_push (loss_of a) tolls t in
    let loss : loss_of a t ≡ cond {A = ℕ} (has l.back a) n 0 = refl in
    ap (λ ts. weight_under g ts a) (tolls_push g chosen needs n h) ∙ (omega (arith, ints))

-- ---- closed walks inside a loop

module _ (g : Graph) (l : LoopArcs) where
  abbrev pub Both : ℕ → Type 0
  Both a = IsTrue (has l.members (arc_at g a).from) × IsTrue (has l.members (arc_at g a).to)

  inside_both : (walk : List ℕ) (u v : ℕ) → IsWalk g u walk v → IsInside g l walk → IsTrue (has l.members v) → All Both walk
  inside_both [] u v is inside h = All-nil Both
  inside_both (a ∷ []) u v is inside h =
      let to : IsTrue (has l.members (arc_at g a).to) = subst (λ (w : ℕ). IsTrue (has l.members w)) (sym is.2) h in
      All-cons Both a [] (All-head (λ b. IsTrue (has l.members (arc_at g b).from)) a [] inside, to) (All-nil Both)
  inside_both (a ∷ b ∷ walk) u v is inside h =
      let rest = All-tail (λ c. IsTrue (has l.members (arc_at g c).from)) a (b ∷ walk) inside in
      let next = All-head (λ c. IsTrue (has l.members (arc_at g c).from)) b walk rest in
      let to : IsTrue (has l.members (arc_at g a).to) = subst (λ (w : ℕ). IsTrue (has l.members w)) is.2.1 next in
      All-cons Both a (b ∷ walk) (All-head (λ c. IsTrue (has l.members (arc_at g c).from)) a (b ∷ walk) inside, to) (inside_both (b ∷ walk) (arc_at g a).to v is.2 rest h)

  pub closed_both : (walk : List ℕ) (v : ℕ) → IsWalk g v walk v → IsInside g l walk → All Both walk
  closed_both [] v is inside = All-nil Both
  closed_both (a ∷ walk) v is inside =
      let from = All-head (λ c. IsTrue (has l.members (arc_at g c).from)) a walk inside in
      inside_both (a ∷ walk) v v is inside (subst (λ (w : ℕ). IsTrue (has l.members w)) is.1 from)

-- ---- the part

module _ (g : Graph) (chosen : List Bool) (needs : List ℕ) (weights : List ℤ) (names places : List ℕ) (links : List Link) (graph : IsGraph g) (here : length needs < length g.loops) (size : length weights ≡ length g.arcs) (are : AreWeights g (need_tolls g chosen needs) 0 weights) (part : AreInner g (loop_at g (length needs)) weights names places links) where
  abbrev l : LoopArcs
  l = loop_at g (length needs)

  is_inner : (i : ℕ) → i < length links → IsInner g l weights names places (link_at links i)
  is_inner i h = part.each i _ h

  abbrev at_need : ℕ → ℕ → ℤ
  at_need n = weight_under g (need_tolls g chosen (needs ++ n ∷ []))

  inner_weight : (n i : ℕ) → i < length links → link_weight links n i ≡ at_need n (link_at links i).arc
  inner_weight n i h =
      let inner = is_inner i h in
      let a = (link_at links i).arc in
      let w = inner.weight in
      let r = are.each a (subst (λ (k : ℕ). a < k) (sym size) inner.within) in
      let z : weight_under g (need_tolls g chosen needs) (0 + a) ≡ weight_under g (need_tolls g chosen needs) a = ap (weight_under g (need_tolls g chosen needs)) (zero-add a) in
      let b : cond {A = ℕ} (link_at links i).back n 0 ≡ cond {A = ℕ} (has l.back a) n 0 = ap (λ t. cond {A = ℕ} t n 0) inner.back in
      let e = weight_inside g chosen needs n a here (graph.loops (length needs) here) inner.inside in
      omega (arith, ints)

  abbrev name : ℕ → ℕ
  name u = get_or names u 0

  abbrev arcs_along : List ℕ → List ℕ
  arcs_along walk = map (λ i. (link_at links i).arc) walk

  along_walk : (walk : List ℕ) (u v : ℕ) → IsLinked links u walk v → IsWalk g (name u) (arcs_along walk) (name v)
  along_walk [] u v h = ap name h
  along_walk (i ∷ walk) u v h =
      let inner = is_inner i h.0 in
      (inner.within, sym inner.from.name ∙ ap name h.1, subst (λ (w : ℕ). IsWalk g w (arcs_along walk) (name v)) inner.to.name (along_walk walk (link_at links i).to v h.2))

  along_inside : (walk : List ℕ) (u v : ℕ) → IsLinked links u walk v → IsInside g l (arcs_along walk)
  along_inside [] u v h = All-nil (λ a. IsTrue (has l.members (arc_at g a).from))
  along_inside (i ∷ walk) u v h =
      All-cons (λ a. IsTrue (has l.members (arc_at g a).from)) (link_at links i).arc (arcs_along walk) (is_inner i h.0).inside (along_inside walk (link_at links i).to v h.2)

  along_total : (n : ℕ) (walk : List ℕ) (u v : ℕ) → IsLinked links u walk v → weight_along (link_weight links n) walk ≡ weight_along (at_need n) (arcs_along walk)
  along_total n [] u v h = refl
  along_total n (i ∷ walk) u v h =
      ap (λ z. z +ℤ weight_along (link_weight links n) walk) (inner_weight n i h.0) ∙ ap (λ z. at_need n (link_at links i).arc +ℤ z) (along_total n walk (link_at links i).to v h.2)

  -- where a walk along links gains, one inside the loop does
  pub gain_serves_not : (n : ℕ) → HasGain links n → Serves g chosen needs n → ⊥
  gain_serves_not n has_gain s =
      let walk = has_gain.walk in
      let gain = has_gain.gain in
      let t = along_total n walk gain.first gain.first gain.closed in
      let none = s.none (name gain.first) (arcs_along walk) (along_walk walk gain.first gain.first gain.closed) (along_inside walk gain.first gain.first gain.closed) in
      let p = gain.gains in
      absurd (omega (arith, ints))

  -- values that no link betters: no walk inside the loop gains
  module _ (n : ℕ) (values : List ℤ) (s : IsSettled links n values) where
    abbrev val : ℕ → ℤ
    val u = get_or values (get_or places u 0) (pos 0)

    inner_covered : (a : ℕ) → a < length g.arcs → Both g l a → (at_need n a +ℤ val (arc_at g a).to) ≤ℤ val (arc_at g a).from
    inner_covered a h both =
        let link = part.all a h both.0 both.1 in
        let inner = is_inner link.place link.within in
        let each = s.each link.place link.within in
        let w = inner_weight n link.place link.within in
        let F : ℕ → Type 0 = λ b. (at_need n b +ℤ val (arc_at g b).to) ≤ℤ val (arc_at g b).from in
        let t = ap (λ u. get_or values u (pos 0)) inner.to.place in
        let f = ap (λ u. get_or values u (pos 0)) inner.from.place in
        subst F link.is (omega (arith, ints))

    pub settled_serves : Serves g chosen needs n
    settled_serves = record {
      none = λ v walk is inside.
          let along = telescope g (at_need n) val (Both g l) inner_covered walk v v is (closed_both g l walk v is inside) in
          omega (arith, ints);
    }

  pub least_is_need : (n : ℕ) → IsLeastPrice links n → IsNeed g chosen needs n
  least_is_need n least = record {
    serves = settled_serves n least.values least.settled;
    least = λ m s. not_below n m (λ h. gain_serves_not m (least.below.each m h) s);
  }
    where
      not_below : (a b : ℕ) → (b < a → ⊥) → a ≤ b
      not_below a b h = elim (cases_lt b a) [ inl k ↦ absurd (h k) | inr k ↦ k ]

  pub none_serves : GainsBelow links (LARGEST + 1) → (n : ℕ) → n ≤ LARGEST → Serves g chosen needs n → ⊥
  none_serves gains n h s = gain_serves_not n (gains.each n (omega arith)) s

  pub is_part : (limit : ℕ) → All (IsWithin (weight_limit limit)) weights → limit < 2 ^ 16 → IsPart links (length names)
  is_part limit small few = record {
    at_price = λ price low. record {
      from = λ i h. (is_inner i h).from.within;
      to = λ i h. (is_inner i h).to.within;
      weights = λ i h.
          let inner = is_inner i h in
          let w = inner.weight in
          let r = small (link_at links i).arc (pos 0) (subst (λ (k : ℕ). (link_at links i).arc < k) (sym size) inner.within) in
          let x = r.low in
          let y = r.high in
          let b = at_most_price (link_at links i).back price in
          record { low = omega (arith, ints); high = omega (arith, ints) };
    };
  }
    where
      at_most_price : (b : Bool) (price : ℕ) → cond {A = ℕ} b price 0 ≤ price
      at_most_price true price = omega arith
      at_most_price false price = omega arith

-- ---- the names of members

pub record NamesSoFar (members : List ℕ) (count : ℕ) (size : ℕ) (names places : List ℕ) : Type 0 where
  pub same : length places ≡ size
  pub each : (k : ℕ) → k < count → IsPlace names places (get_or members k 0) (get_or places (get_or members k 0) 0)
  pub placed : (n : ℕ) → n < length names → get_or places (get_or names n 0) 0 ≡ n
  pub only : (n : ℕ) → n < length names → IsTrue (has members (get_or names n 0))
  pub below : All (λ v. v < size) names
  pub distinct : IsDistinct eqb names

-- the links of the first of some arcs
pub record InnerSoFar (g : Graph) (l : LoopArcs) (weights : List ℤ) (names places arcs : List ℕ) (count : ℕ) (links : List Link) : Type 0 where
  pub each : All (IsInner g l weights names places) links
  pub all : (k : ℕ) → k < count → IsTrue (has l.members (arc_at g (get_or arcs k 0)).from) → IsTrue (has l.members (arc_at g (get_or arcs k 0)).to)
      → HasLink links (get_or arcs k 0)

-- one member more, that has a place already
pub named_already : (members : List ℕ) (i size : ℕ) (names places : List ℕ) (n : ℕ) → NamesSoFar members i size names places → IsPlace names places (get_or members i 0) n → NamesSoFar members (i + 1) size names places
named_already members i size names places n s p = record {
  same = s.same;
  each = λ k h. elim (cases_lt k i) [
    | inl b ↦ s.each k b
    | inr b ↦
        let e : i ≡ k = omega arith in
        let F : ℕ → Type 0 = λ j. IsPlace names places (get_or members j 0) (get_or places (get_or members j 0) 0) in
        subst F e (subst (IsPlace names places (get_or members i 0)) p.place p)
  ];
  placed = s.placed;
  only = s.only;
  below = s.below;
  distinct = s.distinct;
}

-- one member more, that gets the next place
module _ (members : List ℕ) (i size : ℕ) (names places : List ℕ) (s : NamesSoFar members i size names places) (h : i < length members) (new : (n : ℕ) → IsPlace names places (get_or members i 0) n → ⊥) (small : get_or members i 0 < size) where
  abbrev v : ℕ
  v = get_or members i 0

  abbrev after : List ℕ
  after = set places v (length names)

  longer : List ℕ
  longer = names ++ v ∷ []

  long : length (names ++ v ∷ []) ≡ length names + 1
  long = length-append names (v ∷ [])

  here : get_or (set places v (length names)) v 0 ≡ length names
  here = get_or-set_same places v (length names) 0 (subst (λ (n : ℕ). v < n) (sym s.same) small)

  -- no name is the new one
  other : (n : ℕ) → n < length names → get_or names n 0 ≡ v → ⊥
  other n b e = new n (record { within = b; name = e; place = sym (s.placed n b) ∙ ap (λ w. get_or places w 0) e })

  kept : (w n : ℕ) → IsPlace names places w n → IsPlace (names ++ v ∷ []) (set places v (length names)) w n
  kept w n p =
      let apart : w ≡ v → ⊥ = λ e. other n p.within (p.name ∙ e) in
      record {
        within = (let l = long in let b = p.within in omega arith);
        name = get_or_append_left names (v ∷ []) 0 n p.within ∙ p.name;
        place = p.place ∙ sym (get_or-set_other places v w (length names) 0 apart);
      }

  own : IsPlace (names ++ v ∷ []) (set places v (length names)) v (get_or (set places v (length names)) v 0)
  own =
      let F : ℕ → Type 0 = λ n. IsPlace (names ++ v ∷ []) (set places v (length names)) v n in
      subst F (sym here) (record {
        within = (let l = long in omega arith);
        name = get_or_push names v 0 (length names) refl;
        place = sym here;
      })

  pub named_now : NamesSoFar members (i + 1) size (names ++ v ∷ []) (set places v (length names))
  named_now = record {
    same = length-set places v (length names) ∙ s.same;
    each = λ k b. elim (cases_lt k i) [
      | inl below ↦
          let p = kept (get_or members k 0) _ (s.each k below) in
          subst (IsPlace (names ++ v ∷ []) (set places v (length names)) (get_or members k 0)) p.place p
      | inr above ↦
          let e : i ≡ k = omega arith in
          let F : ℕ → Type 0 = λ j. IsPlace (names ++ v ∷ []) (set places v (length names)) (get_or members j 0) (get_or (set places v (length names)) (get_or members j 0) 0) in
          subst F e own
    ];
    placed = λ n b. elim (cases_lt n (length names)) [
      | inl below ↦
          let is = get_or_append_left names (v ∷ []) 0 n below in
          ap (λ w. get_or (set places v (length names)) w 0) is ∙ get_or-set_other places v (get_or names n 0) (length names) 0 (other n below) ∙ s.placed n below
      | inr above ↦
          let e : length names ≡ n = (let l = long in omega arith) in
          ap (λ w. get_or (set places v (length names)) w 0) (get_or_push names v 0 n e) ∙ here ∙ e
    ];
    only = λ n b. elim (cases_lt n (length names)) [
      | inl below ↦ subst (λ (w : ℕ). IsTrue (has members w)) (sym (get_or_append_left names (v ∷ []) 0 n below)) (s.only n below)
      | inr above ↦
          let e : length names ≡ n = (let l = long in omega arith) in
          subst (λ (w : ℕ). IsTrue (has members w)) (sym (get_or_push names v 0 n e)) (has_at members i h)
    ];
    below = All-push (λ w. w < size) names v s.below small;
    distinct = IsDistinct-push nat_eq_equiv names v s.distinct (list_any_none (eqb v) names (All-from_get_or (λ w. eqb v w ≡ false) names 0 (λ n b. ne_eqb v (get_or names n 0) (λ e. other n b (sym e)))));
  }

pub names_same : {members : List ℕ} {i size : ℕ} {names names' places places' : List ℕ} → names' ≡ names → places' ≡ places → NamesSoFar members i size names places → NamesSoFar members i size names' places'
names_same {members} {i} {size} {names} {names'} {places} {places'} e q s =
    let F : List ℕ → Type 0 = λ n. NamesSoFar members i size n places' in
    let G : List ℕ → Type 0 = λ p. NamesSoFar members i size names p in
    subst F (sym e) (subst G (sym q) s)

pub no_names : (members places : List ℕ) → NamesSoFar members 0 (length places) [] places
unfolding IsDistinct
no_names members places = record {
  same = refl;
  each = λ k h. absurd (omega arith);
  placed = λ n h. absurd (omega arith);
  only = λ n h. absurd (omega arith);
  below = All-nil (λ v. v < length places);
  distinct = tt;
}

pub are_names : (members : List ℕ) (i size : ℕ) (names places : List ℕ) → NamesSoFar members i size names places → length members ≤ i → AreNames members names places
are_names members i size names places s h = record {
  each = λ v b.
      let c = place_in members v b in
      let inside = c.1 in
      subst (λ (w : ℕ). IsPlace names places w (get_or places w 0)) c.2 (s.each c.0 (omega arith));
  only = s.only;
  few =
      let below : (q : ℕ) → list_any (eqb q) names ≡ true → q < size = λ q e.
      let c = Contains-from_any (λ x y k. eqb-true x y k) q names e in
      subst (λ (w : ℕ). w < size) c.2 (s.below c.0 q c.1) in
      let f = length-le_from_distinct_below names size s.distinct below in
      let z = s.same in
      omega arith;
}

-- ---- the links of the first arcs

module _ (g : Graph) (l : LoopArcs) (weights : List ℤ) (names places arcs : List ℕ) (count : ℕ) (links : List Link) (s : InnerSoFar g l weights names places arcs count links) where
  abbrev Linked : List Link → ℕ → Type 0
  Linked after k =
      IsTrue (has l.members (arc_at g (get_or arcs k 0)).from) → IsTrue (has l.members (arc_at g (get_or arcs k 0)).to) → HasLink after (get_or arcs k 0)

  pub inner_skip : (IsTrue (has l.members (arc_at g (get_or arcs count 0)).from) → IsTrue (has l.members (arc_at g (get_or arcs count 0)).to) → ⊥) → InnerSoFar g l weights names places arcs (count + 1) links
  inner_skip out = record {
    each = s.each;
    all = λ k h. elim (cases_lt k count) [
      | inl b ↦ s.all k b
      | inr b ↦
          let e : count ≡ k = omega arith in
          subst (Linked links) e (λ f t. absurd (out f t))
    ];
  }

  pub inner_more : (link : Link) → IsInnerAt g l weights names places (get_or arcs count 0) link → InnerSoFar g l weights names places arcs (count + 1) (links ++ link ∷ [])
  inner_more link is = record {
    each = All-push (IsInner g l weights names places) links link s.each is.inner;
    all = λ k h. elim (cases_lt k count) [
      | inl b ↦ λ f t. still (get_or arcs k 0) (s.all k b f t)
      | inr b ↦
          let e : count ≡ k = omega arith in
          subst (Linked (links ++ link ∷ [])) e (λ f t. now)
    ];
  }
    where
      still : (a : ℕ) → HasLink links a → HasLink (links ++ link ∷ []) a
      still a p =
          let long = length-append links (link ∷ []) in
          let inside = p.within in
          record {
            place = p.place;
            within = omega arith;
            is = ap (λ (m : Link). m.arc) (get_or_append_left links (link ∷ []) _ p.place p.within) ∙ p.is;
          }

      now : HasLink (links ++ link ∷ []) (get_or arcs count 0)
      now =
          let long = length-append links (link ∷ []) in
          record {
            place = length links;
            within = omega arith;
            is = ap (λ (m : Link). m.arc) (get_or_push links link _ (length links) refl) ∙ is.arc;
          }

contains_of : (xs : List ℕ) (v : ℕ) → IsTrue (has xs v) → Contains xs v
contains_of xs v h =
    let p = place_in xs v h in
    (p.0, p.1, get_or_default xs p.0 v 0 p.1 ∙ p.2)

has_of : (xs : List ℕ) (v : ℕ) → Contains xs v → IsTrue (has xs v)
has_of xs v c =
    subst (λ (w : ℕ). IsTrue (has xs w)) (sym (get_or_default xs c.0 v 0 c.1) ∙ c.2) (has_at xs c.0 c.1)

-- once all arcs of the members were linked
pub all_inner : (g : Graph) (l : LoopArcs) (weights : List ℤ) (names places arcs : List ℕ) (count : ℕ) (links : List Link) → InnerSoFar g l weights names places arcs count links → length arcs ≤ count → HasArcsOf g l.members arcs → AreInner g l weights names places links
all_inner g l weights names places arcs count links s h listed = record {
  each = s.each;
  all = λ a b f t.
      let c = listed.each a b (contains_of l.members (arc_at g a).from f) in
      let inside = c.1 in
      let is : get_or arcs c.0 0 ≡ a = sym (get_or_default arcs c.0 a 0 c.1) ∙ c.2 in
      let F : ℕ → Type 0 = λ k. IsTrue (has l.members (arc_at g k).from) → IsTrue (has l.members (arc_at g k).to) → HasLink links k in
      subst F is (s.all c.0 (omega arith)) f t;
}

-- ---- members in another order

pub same_names : (members others names places : List ℕ) → AreSame members others → AreNames others names places → AreNames members names places
same_names members others names places same are = record {
  each = λ v h. are.each v (has_of others v (same.there v (contains_of members v h)));
  only = λ n h. has_of members (get_or names n 0) (same.back (get_or names n 0) (contains_of others (get_or names n 0) (are.only n h)));
  few = are.few;
}

pub same_arcs : (g : Graph) (members others arcs : List ℕ) → AreSame members others → HasArcsOf g others arcs → HasArcsOf g members arcs
same_arcs g members others arcs same listed = record { each = λ a h c. listed.each a h (same.there (arc_at g a).from c) }

-- ---- the answer

pub need_gives : (g : Graph) (number : ℕ) (l : LoopArcs) (weights : List ℤ) (names places : List ℕ) (links : List Link) (o : Option ℕ) → IsGraph g → number < length g.loops → l ≡ loop_at g number → length weights ≡ length g.arcs → AreInner g l weights names places links → MatchOption o (GainsBelow links (LARGEST + 1)) (IsLeastPrice links) → NeedGives g number weights o
need_gives g number l weights names places links o graph here is size part m = record {
  at_needs = λ chosen needs e are.
      let short : length needs < length g.loops = omega arith in
      let inner = subst (λ (a : LoopArcs). AreInner g a weights names places links) (is ∙ ap (loop_at g) (sym e)) part in
      by_answer chosen needs o short are inner m;
}
  where
    by_answer : (chosen : List Bool) (needs : List ℕ) (p : Option ℕ) → length needs < length g.loops → AreWeights g (need_tolls g chosen needs) 0 weights → AreInner g (loop_at g (length needs)) weights names places links → MatchOption p (GainsBelow links (LARGEST + 1)) (IsLeastPrice links) → MatchOption p (NoneServes g chosen needs) (IsSmallNeed g chosen needs)
    by_answer chosen needs None short are inner gains = record { each = none_serves g chosen needs weights names places links graph short size are inner gains }
    by_answer chosen needs (Some n) short are inner least = record {
      need = least_is_need g chosen needs weights names places links graph short size are inner n least;
      small = least.small;
    }

pub inner_same : {g : Graph} {l : LoopArcs} {weights : List ℤ} {names places arcs : List ℕ} {count : ℕ} {links links' : List Link} → links' ≡ links → InnerSoFar g l weights names places arcs count links → InnerSoFar g l weights names places arcs count links'
inner_same {g} {l} {weights} {names} {places} {arcs} {count} {links} {links'} e s =
    let F : List Link → Type 0 = λ x. InnerSoFar g l weights names places arcs count x in
    subst F (sym e) s

pub nothing_at : (P : Type 0) (Q : ℕ → Type 0) (o : Option ℕ) (b : Bool) → is_some o ≡ not b → b ≡ true → MatchOption o P Q → P
nothing_at P Q None b e t m = m
nothing_at P Q (Some n) b e t m = absurd (false≢true (sym (e ∙ ap not t)))

pub something_at : (P : Type 0) (Q : ℕ → Type 0) (o : Option ℕ) (b : Bool) → is_some o ≡ not b → b ≡ false → MatchOption o P Q → (n : ℕ) × Q n
something_at P Q None b e t m = absurd (false≢true (e ∙ ap not t))
something_at P Q (Some n) b e t m = (n, m)
