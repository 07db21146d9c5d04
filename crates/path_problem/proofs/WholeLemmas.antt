-- All arcs as links: walks along links are walks along arcs.
use Rattle.std.proofs.Common.{◌≡◌, ℕ, ◌+◌, ◌<◌, ◌≤◌, ◌^◌, List, [], ◌∷◌, ◌++◌, map, length, get_or, refl, sym, ap, subst, ◌∙◌, false, cond, inl, inr, arith}
use Rattle.std.specs.Prelude.{ℤ, pos, ◌+ℤ◌, ◌≤ℤ◌}
use Rattle.std.specs.List.{All, Contains}
use Rattle.std.proofs.Common.{length-append, zero-add}
use Rattle.std.proofs.lemmas.Bool.{cases_lt}
use Rattle.std.proofs.lemmas.List.{get_or_default, get_or_push, get_or_append_left}
use Rattle.std.proofs.lemmas.List.Elements.{All-push, All-from_get_or}
use Rattle.std.specs.Prelude.{Result, Ok, Err, IfOk}
use Rattle.path_problem.specs.declared.net.Settlement.{Settlement}
use Rattle.std.proofs.lemmas.Int.{ints}
use Rattle.path_graph.specs.declared.graph.Graph.{Graph}
use Rattle.path_graph.specs.declared.graph.LoopPrices.{LoopPrices}
use Rattle.path_graph.specs.declared.graph.TheConstants.{LARGEST}
use Rattle.path_problem.specs.declared.net.Link.{Link}
use Rattle.path_graph.specs.Conditions.{IsWithin, IsGraph}
use Rattle.path_graph.specs.Graph.{arc_at, finish_at, IsWalk, weight_along}
use Rattle.path_problem.specs.Net.{link_at, link_weight, IsLinked, AreLinks, Gain, HasSettled, SettlesOrGains}
use Rattle.path_problem.specs.Weight.{price_tolls, full_weight}
use Rattle.path_problem.specs.Window.{AreWeights, weight_limit}
use Rattle.path_problem.specs.Whole.{IsArc, AreArcs, AreNumbers, IsFirstAbove}
use Rattle.path_problem.specs.Potential.{IsReached, IsBound, ArePotentials, IsVertexLarge, NoClosedGain}
use Rattle.path_problem.proofs.WalkLemmas.{telescope, walk_end}

-- numbers below a count so far
pub record NumbersSoFar (count : ℕ) (numbers : List ℕ) : Type 0 where
  pub size : length numbers ≡ count
  pub each : (k : ℕ) → k < count → get_or numbers k 0 ≡ k

-- links of the first arcs of an order
pub record LinksSoFar (g : Graph) (prices : LoopPrices) (order : List ℕ) (count : ℕ) (links : List Link) : Type 0 where
  pub size : length links ≡ count
  pub each : All (IsArc g prices) links
  pub all : (k : ℕ) → k < count → (link_at links k).arc ≡ get_or order k 0

-- the first values as numbers
pub record ValuesSoFar (values : List ℤ) (count : ℕ) (numbers : List ℕ) : Type 0 where
  pub size : length numbers ≡ count
  pub each : (v : ℕ) → v < count → pos (get_or numbers v 0) ≡ get_or values v (pos 0)
  pub small : All (λ n. n ≤ LARGEST) numbers

module _ (g : Graph) (prices : LoopPrices) (links : List Link) (are : AreArcs g prices links) where
  is_arc : (i : ℕ) → i < length links → IsArc g prices (link_at links i)
  is_arc i h = are.each i _ h

  pub weight_is : (i : ℕ) → i < length links → link_weight links 0 i ≡ full_weight g prices (link_at links i).arc
  weight_is i h =
      let w = (is_arc i h).weight in
      let b : cond {A = ℕ} (link_at links i).back 0 0 ≡ 0 = ap (λ t. cond {A = ℕ} t 0 0) (is_arc i h).back in
      omega (arith, ints)

  abbrev arcs_of : List ℕ → List ℕ
  arcs_of walk = map (λ i. (link_at links i).arc) walk

  pub linked_walk : (walk : List ℕ) (u v : ℕ) → IsLinked links u walk v → IsWalk g u (arcs_of walk) v
  linked_walk [] u v h = h
  linked_walk (i ∷ walk) u v h =
      let l = is_arc i h.0 in
      (l.within, sym l.from ∙ h.1, subst (λ (w : ℕ). IsWalk g w (arcs_of walk) v) l.to (linked_walk walk (link_at links i).to v h.2))

  pub linked_total : (walk : List ℕ) (u v : ℕ) → IsLinked links u walk v → weight_along (link_weight links 0) walk ≡ weight_along (full_weight g prices) (arcs_of walk)
  linked_total [] u v h = refl
  linked_total (i ∷ walk) u v h =
      let here = weight_is i h.0 in
      let rest = linked_total walk (link_at links i).to v h.2 in
      ap (λ z. z +ℤ weight_along (link_weight links 0) walk) here ∙ ap (λ z. full_weight g prices (link_at links i).arc +ℤ z) rest

  pub sound_links : IsGraph g → AreLinks links (length g.finish) 0 (weight_limit (2 ^ 16))
  sound_links graph = record {
    from = λ i h. subst (λ (n : ℕ). n < length g.finish) (sym (is_arc i h).from) (graph.sources (link_at links i).arc (is_arc i h).within);
    to = λ i h. subst (λ (n : ℕ). n < length g.finish) (sym (is_arc i h).to) (graph.targets (link_at links i).arc (is_arc i h).within);
    weights = λ i h.
        let small = (is_arc i h).small in
        let b : cond {A = ℕ} (link_at links i).back 0 0 ≡ 0 = ap (λ t. cond {A = ℕ} t 0 0) (is_arc i h).back in
        let low = small.low in
        let high = small.high in
        record { low = omega (arith, ints); high = omega (arith, ints) };
  }

  -- no closed walk gains where no closed walk of the graph does
  pub no_gain : NoClosedGain g prices → (walk : List ℕ) → Gain links 0 walk → ⊥
  no_gain closed walk gain =
      let t = linked_total walk gain.first gain.first gain.closed in
      let n = closed.none gain.first (arcs_of walk) (linked_walk walk gain.first gain.first gain.closed) in
      let p = gain.gains in
      absurd (omega (arith, ints))

  module _ (graph : IsGraph g) (values : List ℤ) (s : HasSettled links 0 g.finish values) where
    reached_value : (v : ℕ) → v < length g.finish → IsReached g prices v (get_or values v (pos 0))
    reached_value v h =
        let c = s.comes v h in
        let t = linked_total c.walk v c.last c.is in
        let sums = c.sums in
        record {
          walk = arcs_of c.walk;
          last = c.last;
          is = linked_walk c.walk v c.last c.is;
          sums = ap (λ z. z +ℤ finish_at g c.last) (sym t) ∙ c.sums;
        }

    covered : (a : ℕ) → a < length g.arcs → (full_weight g prices a +ℤ get_or values (arc_at g a).to (pos 0)) ≤ℤ get_or values (arc_at g a).from (pos 0)
    covered a h =
        let l = are.all a h in
        let arc = is_arc l.place l.within in
        let each = s.settled.each l.place l.within in
        let w = weight_is l.place l.within in
        let F : ℕ → Type 0 = λ b. (full_weight g prices b +ℤ get_or values (arc_at g b).to (pos 0)) ≤ℤ get_or values (arc_at g b).from (pos 0) in
        let t = ap (λ u. get_or values u (pos 0)) arc.to in
        let f = ap (λ u. get_or values u (pos 0)) arc.from in
        subst F l.is (omega (arith, ints))

    bound_value : (v : ℕ) (n : ℕ) → v < length g.finish → get_or values v (pos 0) ≤ℤ pos n → IsBound g prices v n
    bound_value v n h le = record {
      each = λ walk last is.
          let along = telescope g (full_weight g prices) (λ u. get_or values u (pos 0)) (λ _. Unit {0}) (λ a b _. covered a b) walk v last is (λ k d b. tt) in
          let end = s.begun last (walk_end g graph.targets walk v last h is) in
          omega (arith, ints);
    }

    pub are_potentials : (p : List ℕ) → AreNumbers values p → ArePotentials g prices p
    are_potentials p n = record {
      count = n.count ∙ s.count;
      reached = λ v h. subst (IsReached g prices v) (sym (n.each v (subst (λ (m : ℕ). v < m) (sym s.count) h))) (reached_value v h);
      bounds = λ v h. let e = n.each v (subst (λ (m : ℕ). v < m) (sym s.count) h) in bound_value v (get_or p v 0) h (omega (arith, ints));
      small = n.small;
    }

    pub is_vertex_large : (v : ℕ) → IsFirstAbove values v → IsVertexLarge g prices v
    is_vertex_large v f =
        let h : v < length g.finish = subst (λ (m : ℕ). v < m) s.count f.within in
        record {
          within = h;
          sum = get_or values v (pos 0);
          reached = reached_value v h;
          large = f.above;
          first = λ u b. bound_value u LARGEST (omega arith) (f.first u b);
        }

-- ---- one after the other

pub all_below : (count : ℕ) (numbers : List ℕ) → NumbersSoFar count numbers → (a : ℕ) → a < count → Contains numbers a
all_below count numbers s a h =
    let inside : a < length numbers = subst (λ (m : ℕ). a < m) (sym s.size) h in
    (a, inside, get_or_default numbers a a 0 inside ∙ s.each a h)

pub one_link : (g : Graph) (prices : LoopPrices) (order : List ℕ) (k : ℕ) (links : List Link) (l : Link) → LinksSoFar g prices order k links → IsArc g prices l → l.arc ≡ get_or order k 0 → LinksSoFar g prices order (k + 1) (links ++ l ∷ [])
one_link g prices order k links l s is e = record {
  size = length-append links (l ∷ []) ∙ (let n = s.size in omega arith);
  each = All-push (IsArc g prices) links l s.each is;
  all = λ j h. elim (cases_lt j k) [
    | inl b ↦ ap (λ (m : Link). m.arc) (get_or_append_left links (l ∷ []) _ j (subst (λ (m : ℕ). j < m) (sym s.size) b)) ∙ s.all j b
    | inr b ↦
        let q : k ≡ j = omega arith in
        ap (λ (m : Link). m.arc) (get_or_push links l _ j (s.size ∙ q)) ∙ e ∙ ap (λ m. get_or order m 0) q
  ];
}

pub all_links : (g : Graph) (prices : LoopPrices) (order : List ℕ) (k : ℕ) (links : List Link) → LinksSoFar g prices order k links → length order ≤ k → ((a : ℕ) → a < length g.arcs → Contains order a) → AreArcs g prices links
all_links g prices order k links s h each = record {
  each = s.each;
  all = λ a b.
      let c = each a b in
      let below = c.1 in
      let inside : c.0 < k = omega arith in
      record {
        place = c.0;
        within = subst (λ (m : ℕ). c.0 < m) (sym s.size) inside;
        is = s.all c.0 inside ∙ get_or_default order c.0 0 a c.1 ∙ c.2;
      };
}

pub one_value : (values : List ℤ) (v : ℕ) (numbers : List ℕ) (x : ℕ) → ValuesSoFar values v numbers → pos x ≡ get_or values v (pos 0) → x ≤ LARGEST → ValuesSoFar values (v + 1) (numbers ++ x ∷ [])
one_value values v numbers x s e b = record {
  size = length-append numbers (x ∷ []) ∙ (let n = s.size in omega arith);
  each = λ u h. elim (cases_lt u v) [
    | inl k ↦ ap pos (get_or_append_left numbers (x ∷ []) 0 u (subst (λ (m : ℕ). u < m) (sym s.size) k)) ∙ s.each u k
    | inr k ↦
        let q : v ≡ u = omega arith in
        ap pos (get_or_push numbers x 0 u (s.size ∙ q)) ∙ e ∙ ap (λ w. get_or values w (pos 0)) q
  ];
  small = All-push (λ n. n ≤ LARGEST) numbers x s.small b;
}

-- a link made of an arc and the weight at its place
pub arc_is : (g : Graph) (prices : LoopPrices) (weights : List ℤ) (number : ℕ) (l : Link) → length weights ≡ length g.arcs → AreWeights g (price_tolls g prices) 0 weights → All (IsWithin (weight_limit (2 ^ 16))) weights → number < length g.arcs → l.from ≡ (arc_at g number).from → l.to ≡ (arc_at g number).to → l.weight ≡ get_or weights number (pos 0) → l.back ≡ false → l.arc ≡ number → IsArc g prices l
arc_is g prices weights number l size are small h from to weight back arc =
    let inside : number < length weights = subst (λ (m : ℕ). number < m) (sym size) h in
    let is = are.each number inside in
    record {
      within = subst (λ (m : ℕ). m < length g.arcs) (sym arc) h;
      from = from ∙ ap (λ m. (arc_at g m).from) (sym arc);
      to = to ∙ ap (λ m. (arc_at g m).to) (sym arc);
      weight = weight ∙ is ∙ ap (λ m. full_weight g prices m) (zero-add number) ∙ ap (λ m. full_weight g prices m) (sym arc);
      small = subst (IsWithin (weight_limit (2 ^ 16))) (sym weight) (small number (pos 0) inside);
      back = back;
    }

-- ---- the answer

pub settled_same : {links links' : List Link} {start start' : List ℤ} {s s' : Settlement} → links ≡ links' → start ≡ start' → s ≡ s' → SettlesOrGains links 0 start s → SettlesOrGains links' 0 start' s'
settled_same {links} {links'} {start} {start'} {s} {s'} l f e h =
    let F : List Link → Type 0 = λ x. SettlesOrGains x 0 start' s' in
    let G : List ℤ → Type 0 = λ x. SettlesOrGains links 0 x s' in
    let H : Settlement → Type 0 = λ x. SettlesOrGains links 0 start x in
    subst F l (subst G f (subst H e h))

pub none_below : (links : List Link) (start values : List ℤ) → HasSettled links 0 start values → ((v : ℕ) → v < length start → pos 0 ≤ℤ get_or start v (pos 0)) → All (λ z. pos 0 ≤ℤ z) values
none_below links start values s low = All-from_get_or (λ z. pos 0 ≤ℤ z) values (pos 0) (λ v h.
    let inside : v < length start = subst (λ (m : ℕ). v < m) s.count h in
    let b = s.begun v inside in
    let l = low v inside in
    omega (arith, ints))

pub ok_more : {A E : Type 0} (P Q : A → Type 0) (r : Result A E) → ((x : A) → P x → Q x) → IfOk r P → IfOk r Q
ok_more P Q (Ok x) f h = f x h
ok_more P Q (Err e) f h = h
