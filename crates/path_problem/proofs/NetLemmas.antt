-- Rounds that better labels.
use Rattle.std.proofs.Common.{◌≡◌, ℕ, ◌+◌, ◌^◌, ◌<◌, ◌≤◌, Bool, true, false, List, [], ◌∷◌, set, length, get_or, refl, sym, ap, subst, ◌∙◌, inl, inr, arith}
use Rattle.std.specs.Prelude.{ℤ, pos, ◌+ℤ◌, ◌≤ℤ◌, ◌<ℤ◌, Option, Some, None}
use Rattle.std.specs.List.{All}
use Rattle.std.specs.Int.{w128}
use mir.Val.{to_z, of_z}
use Rattle.std.specs.Prelude.{MatchOption}
use Rattle.std.proofs.lemmas.Int.{ints, to_z-of_z}
use Rattle.path_problem.proofs.TollLemmas.{fits_within, within_sum}
use Rattle.path_problem.specs.declared.net.Link.{Link}
use Rattle.path_graph.specs.Conditions.{IsWithin}
use Rattle.path_problem.specs.Window.{weight_limit}
use Rattle.std.proofs.Common.{replicate}
use Rattle.std.specs.Prelude.{negsuc, ◌-ℤ◌, unsigned_abs}
use Rattle.std.proofs.Math.ListN.{length-set}
use Rattle.std.proofs.lemmas.Bool.{cases_lt, false≢true}
use Rattle.std.proofs.lemmas.List.{length-replicate, get_or-replicate}
use Rattle.std.proofs.lemmas.List.Elements.{All-set, All-weaker, All-from_get_or}
use Rattle.path_problem.specs.Net.{link_at, link_weight, AreLinks, Gain, IsShortGain, IsSettled, HasSettled, PointsOn, AreLabels, excess, gap}
use Rattle.path_problem.specs.Chain.{ArePointers, IsChain, HasRanks, IsClosed}
use Rattle.path_graph.proofs.Cases.{by_test}
use Rattle.path_problem.proofs.LabelLemmas.{update, closed_chain_gains, value_below}
use Rattle.std.proofs.lemmas.List.Sums.{sum_by-set}

-- a round so far: labels stay labels, and while none changed each link looked at is settled
pub record RelaxSoFar (links : List Link) (price i : ℕ) (old : List ℤ) (before : List (Option ℕ)) (values : List ℤ) (next : List (Option ℕ)) (changed : Bool) : Type 0 where
  pub count : length values ≡ length old
  pub next_count : length next ≡ length old
  pub labels : (start : List ℤ) → AreLabels links (length old) price start old before → AreLabels links (length old) price start values next
  pub within : All (IsWithin (2 ^ 126)) values
  pub settled : changed ≡ false → (j : ℕ) → j < i → (link_weight links price j +ℤ get_or values (link_at links j).to (pos 0)) ≤ℤ get_or values (link_at links j).from (pos 0)
  pub same : changed ≡ false → values ≡ old
  pub less : changed ≡ true → gap values < gap old

-- ---- one value more

abbrev pub top : ℕ
top = 2 ^ 126 + weight_limit (2 ^ 16)

nat_abs_less : (a b : ℤ) → pos 0 ≤ℤ a → a <ℤ b → unsigned_abs a < unsigned_abs b
nat_abs_less (pos a) (pos b) h l = omega (arith, ints)
nat_abs_less (pos a) (negsuc b) h l = absurd (omega (arith, ints))
nat_abs_less (negsuc a) b h l = absurd (omega (arith, ints))

excess_less : (z y : ℤ) → z <ℤ y → y ≤ℤ pos top → excess y < excess z
excess_less z y h b = nat_abs_less (pos top -ℤ y) (pos top -ℤ z) (omega (arith, ints)) (omega (arith, ints))

pub gap_less : (values : List ℤ) (v : ℕ) (x : ℤ) → v < length values → get_or values v (pos 0) <ℤ x → x ≤ℤ pos top → gap (set values v x) < gap values
gap_less values v x h b t =
    let s = sum_by-set excess values v x (pos 0) h in
    let e = excess_less (get_or values v (pos 0)) x b t in
    omega arith

-- ---- one link

module _ (links : List Link) (price i : ℕ) (old : List ℤ) (before : List (Option ℕ)) (values : List ℤ) (next : List (Option ℕ)) (changed : Bool) (s : RelaxSoFar links price i old before values next changed) where
  -- the link betters nothing
  pub skip : (link_weight links price i +ℤ get_or values (link_at links i).to (pos 0)) ≤ℤ get_or values (link_at links i).from (pos 0) → RelaxSoFar links price (i + 1) old before values next changed
  skip le = record {
    count = s.count;
    next_count = s.next_count;
    labels = s.labels;
    within = s.within;
    settled = λ e j h. elim (cases_lt j i) [
      | inl b ↦ s.settled e j b
      | inr b ↦
          let q : i ≡ j = omega arith in
          subst (λ (k : ℕ). (link_weight links price k +ℤ get_or values (link_at links k).to (pos 0)) ≤ℤ get_or values (link_at links k).from (pos 0)) q le
    ];
    same = s.same;
    less = s.less;
  }

  at_most : gap values ≤ gap old
  at_most = by_test changed (λ e. let l = s.less e in omega arith) (λ e. let q = ap gap (s.same e) in omega arith)

  module _ (sound : AreLinks links (length old) price (weight_limit (2 ^ 16))) (h : i < length links) (x : ℤ) (is : x ≡ (link_weight links price i +ℤ get_or values (link_at links i).to (pos 0))) (more : get_or values (link_at links i).from (pos 0) <ℤ x) (below : x ≤ℤ pos top) where
    pub still : (start : List ℤ) → AreLabels links (length old) price start old before → AreLabels links (length old) price start (set values (link_at links i).from x) (set next (link_at links i).from (Some i))
    still start l = update links (length old) price start values next (s.labels start l) i h (sound.from i h) (sound.to i h) x is more

    pub falls : gap (set values (link_at links i).from x) < gap old
    falls =
        let m = at_most in
        let l = gap_less values (link_at links i).from x (subst (λ (n : ℕ). (link_at links i).from < n) (sym s.count) (sound.from i h)) more below in
        omega arith

    -- the link betters a value
    pub take_value : IsWithin (2 ^ 126) x → RelaxSoFar links price (i + 1) old before (set values (link_at links i).from x) (set next (link_at links i).from (Some i)) true
    take_value small = record {
      count = length-set values (link_at links i).from x ∙ s.count;
      next_count = length-set next (link_at links i).from (Some i) ∙ s.next_count;
      labels = still;
      within = All-set (IsWithin (2 ^ 126)) values (link_at links i).from x small s.within;
      settled = λ e. absurd (false≢true (sym e));
      same = λ e. absurd (false≢true (sym e));
      less = λ e. falls;
    }

pub same_round : {links : List Link} {price i : ℕ} {old : List ℤ} {before : List (Option ℕ)} {values values' : List ℤ} {next next' : List (Option ℕ)} {changed changed' : Bool} → values' ≡ values → next' ≡ next → changed' ≡ changed → RelaxSoFar links price i old before values next changed → RelaxSoFar links price i old before values' next' changed'
same_round {links} {price} {i} {old} {before} {values} {values'} {next} {next'} {changed} {changed'} e q r s =
    let F : List ℤ → Type 0 = λ v. RelaxSoFar links price i old before v next' changed' in
    let G : List (Option ℕ) → Type 0 = λ n. RelaxSoFar links price i old before values n changed' in
    let H : Bool → Type 0 = λ c. RelaxSoFar links price i old before values next c in
    subst F (sym e) (subst G (sym q) (subst H (sym r) s))

-- ---- rounds

-- labels whose chains were looked at
pub record Labeled (links : List Link) (price : ℕ) (start values : List ℤ) (next : List (Option ℕ)) : Type 0 where
  pub labels : AreLabels links (length start) price start values next
  pub within : All (IsWithin (2 ^ 126)) values

pub first_labels : (links : List Link) (price : ℕ) (start : List ℤ) → All (IsWithin (2 ^ 80)) start → Labeled links price start start (replicate (length start) None)
first_labels links price start small = record {
  labels = record {
    values_count = refl;
    next_count = length-replicate (length start) None;
    times = replicate (length start) 0;
    now = 1;
    times_count = length-replicate (length start) 0;
    past = λ u b. subst (λ (n : ℕ). n < 1) (sym (get_or-replicate (length start) u 0 0 b)) (omega arith);
    begun = λ u b. omega (arith, ints);
    comes = λ u b. record { walk = []; last = u; is = refl; sums = omega (arith, ints) };
    points = λ u b. subst (PointsOn links price start start (replicate (length start) 0) u) (sym (get_or-replicate (length start) u None None b)) refl;
  };
  within = All-weaker (IsWithin (2 ^ 80)) (IsWithin (2 ^ 126)) (λ z w. let l = w.low in let h = w.high in record { low = omega (arith, ints); high = omega (arith, ints) }) start small;
}

module _ (links : List Link) (price : ℕ) (start values : List ℤ) (next : List (Option ℕ)) (sound : AreLinks links (length start) price (weight_limit (2 ^ 16))) (few : length start ≤ 2 ^ 18) (small : All (IsWithin (2 ^ 80)) start) (l : AreLabels links (length start) price start values next) where
  pub pointers : ArePointers links next
  pointers =
      let at : (u i : ℕ) → u < length next → get_or next u None ≡ Some i → PointsOn links price start values l.times u (Some i) = λ u i h e. subst (PointsOn links price start values l.times u) e (l.points u (subst (λ (n : ℕ). u < n) l.next_count h)) in
      record {
        within = λ u i h e. (at u i h e).0;
        from = λ u i h e. (at u i h e).1;
        to = λ u i h e. subst (λ (n : ℕ). (link_at links i).to < n) (sym l.next_count) (sound.to i (at u i h e).0);
      }

  pub short_gain : (walk : List ℕ) → IsClosed links next walk → IsShortGain links price walk
  short_gain walk k = record {
    gain = gain walk k.first k.some (subst (λ (n : ℕ). k.first < n) l.next_count k.within) k.chain;
    short = let f = k.few in let n = l.next_count in omega arith;
  }
    where
      gain : (w : List ℕ) (first : ℕ) → 0 < length w → first < length start → IsChain links next first w first → Gain links price w
      gain [] first some h c = absurd (omega arith)
      gain (i ∷ w) first some h c = closed_chain_gains links (length start) price (weight_limit (2 ^ 16)) start values next sound l w i first h c

  pub looked_at : HasRanks links next → Labeled links price start values next
  looked_at ranks = record {
    labels = l;
    within = All-from_get_or (IsWithin (2 ^ 126)) values (pos 0) (λ u b.
        let h : u < length start = subst (λ (n : ℕ). u < n) l.values_count b in
        let s = small u (pos 0) h in
        let low = s.low in
        let begun = l.begun u h in
        let f = ranks.are.few u (subst (λ (n : ℕ). u < n) (sym l.next_count) h) in
        let n = l.next_count in
        let rank : get_or ranks.ranks u 0 < 2 ^ 18 + 1 = omega arith in
        let v = value_below links (length start) price (weight_limit (2 ^ 16)) start values next sound l ranks.ranks ranks.are (2 ^ 80) (λ w k. (small w (pos 0) k).high) (2 ^ 18 + 1) u h rank in
        record { low = omega (arith, ints); high = omega (arith, ints) });
  }

  pub has_settled : IsSettled links price values → HasSettled links price start values
  has_settled s = record {
    count = l.values_count;
    begun = l.begun;
    comes = l.comes;
    settled = s;
  }

-- the same labels, with another term for their number
pub relabel : {links : List Link} {m n price : ℕ} {start values : List ℤ} {next : List (Option ℕ)} → m ≡ n → AreLabels links m price start values next → AreLabels links n price start values next
relabel {links} {m} {n} {price} {start} {values} {next} e l = subst (λ (k : ℕ). AreLabels links k price start values next) e l

-- ---- what the code's numbers are

-- a value that a link gives fits, and is within the greatest bound
pub record Given (links : List Link) (price i : ℕ) (values : List ℤ) (x : ℤ) : Type 0 where
  pub same : to_z w128 (of_z w128 x) ≡ x
  pub low : pos 0 ≤ℤ (x +ℤ pos top)
  pub high : x ≤ℤ pos top

pub given : (links : List Link) (count price i : ℕ) (values : List ℤ) (x : ℤ) → AreLinks links count price (weight_limit (2 ^ 16)) → count ≡ length values → All (IsWithin (2 ^ 126)) values → i < length links → x ≡ (link_weight links price i +ℤ get_or values (link_at links i).to (pos 0)) → Given links price i values x
given links count price i values x sound e small h is =
    let w = sound.weights i h in
    let v = small (link_at links i).to (pos 0) (subst (λ (n : ℕ). (link_at links i).to < n) e (sound.to i h)) in
    let both = subst (IsWithin top) (sym is) (within_sum (weight_limit (2 ^ 16)) (2 ^ 126) top _ _ w v (omega arith)) in
    record {
      same = to_z-of_z w128 x (fits_within top x both (omega arith));
      low = both.low;
      high = both.high;
    }

pub at_some : {A : Type 0} (P : Type 0) (Q : A → Type 0) {o : Option A} {x : A} → o ≡ Some x → MatchOption o P Q → Q x
at_some {A} P Q {o} {x} e m = subst (λ (p : Option A). MatchOption p P Q) e m

pub at_none : {A : Type 0} (P : Type 0) (Q : A → Type 0) {o : Option A} → o ≡ None → MatchOption o P Q → P
at_none {A} P Q {o} e m = subst (λ (p : Option A). MatchOption p P Q) e m
