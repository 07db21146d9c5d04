-- Two diagrams taken apart and put together again.
use Rattle.std.proofs.Common.{◌≡◌, ℕ, ◌+◌, ◌<◌, ◌≤◌, Bool, true, false, List, length, slice_get, Some, refl, ◌∙◌, arith, if◌then◌else◌, min, inl, inr, ◌⊎◌}
use Rattle.std.proofs.lemmas.Bool.{cases_lt}
use Rattle.xdd_table.specs.declared.node.Dd.{Dd}
use Rattle.xdd_table.specs.declared.node.Node.{Node}
use Rattle.xdd_table.specs.declared.node.Node.TheVariants.{Branch}
use Rattle.xdd_table.specs.Diagram.{Combination, with_event, time, BeginsAfter, EventsLess, IsBranchAt, IsTable, Keeps, itself, by_hit, by_miss}
use Rattle.xdd_table.proofs.Canonical.{hit_time, miss_time, branch_time}
use Rattle.xdd_ops.specs.Cofactors.{HasRoot, IsCofactors, IsSplit}

-- the branches of a node are its cofactors at its event
pub cofactors_taken : (nodes : List Node) → IsTable nodes → (p e : ℕ) (hit miss : Dd) → p < length nodes → slice_get nodes p ≡ Some (Branch e hit miss) → IsCofactors nodes p e hit.place miss.place
cofactors_taken nodes table p e hit miss within is =
    let w : IsBranchAt nodes p e hit.place miss.place = table.each p (Branch e hit miss) is in
    let hit_before : hit.place < p = w.hit_before in
    let miss_before : miss.place < p = w.miss_before in
    record {
      hit_in = omega arith;
      miss_in = omega arith;
      hit_after = w.hit_after;
      miss_after = w.miss_after;
      hit_before = omega arith;
      miss_before = omega arith;
      hit_less = λ r. hit_before;
      miss_less = λ r. miss_before;
      hit_below = by_hit is itself;
      miss_below = by_miss is itself;
      hit_time = λ f. hit_time nodes table f p e hit miss within is;
      miss_time = λ f. miss_time nodes table f p e hit miss within is;
      times = λ f. branch_time nodes table f p e hit miss is;
      hit_events = λ bound less q e' hit' miss' below at. less q e' hit' miss' (by_hit is below) at;
      miss_events = λ bound less q e' hit' miss' below at. less q e' hit' miss' (by_miss is below) at;
    }

module _ (nodes : List Node) (a b event : ℕ) where
  lower : HasRoot nodes event a ⊎ HasRoot nodes event b → (e : ℕ) → BeginsAfter nodes e a → BeginsAfter nodes e b → e < event
  lower (inl r) e after after' = rw r.at at after
  lower (inr r) e after after' = rw r.at at after'

  bounded : HasRoot nodes event a ⊎ HasRoot nodes event b → (n : ℕ) → EventsLess nodes a n → EventsLess nodes b n → event < n
  bounded (inl r) n less less' = less a event r.hit r.miss itself r.at
  bounded (inr r) n less less' = less' b event r.hit r.miss itself r.at

  sum_less : (x y : ℕ) → HasRoot nodes event a ⊎ HasRoot nodes event b → x ≤ a → y ≤ b → (HasRoot nodes event a → x < a) → (HasRoot nodes event b → y < b) → x + y < a + b
  sum_less x y (inl r) le le' less less' = omega (arith, less r)
  sum_less x y (inr r) le le' less less' = omega (arith, less' r)

  pub split_of : (a_hit a_miss b_hit b_miss : Dd) → IsCofactors nodes a event a_hit.place a_miss.place → IsCofactors nodes b event b_hit.place b_miss.place
      → HasRoot nodes event a ⊎ HasRoot nodes event b → IsSplit nodes a b event (a_hit, b_hit) (a_miss, b_miss)
  split_of a_hit a_miss b_hit b_miss x y root = record {
    first = x;
    second = y;
    hits_less = sum_less a_hit.place b_hit.place root x.hit_before y.hit_before x.hit_less y.hit_less;
    misses_less = sum_less a_miss.place b_miss.place root x.miss_before y.miss_before x.miss_less y.miss_less;
    root = lower root;
    bound = bounded root;
  }

-- the lower of two events stands at one of the roots
pub lower_root : (nodes : List Node) (a b e g m : ℕ) (hit miss hit' miss' : Dd) → m ≡ min e g → slice_get nodes a ≡ Some (Branch e hit miss) → slice_get nodes b ≡ Some (Branch g hit' miss') → HasRoot nodes m a ⊎ HasRoot nodes m b
lower_root nodes a b e g m hit miss hit' miss' is at at' = elim (cases_lt g e) [
  | inl l ↦ let k : g ≡ m = omega arith in inr (record { hit = hit'; miss = miss'; at = rw k at at' })
  | inr l ↦ let k : e ≡ m = omega arith in inl (record { hit = hit; miss = miss; at = rw k at at })
]

-- tables that stay, tables and lists that grow twice
pub keeps_self : (nodes : List Node) → Keeps nodes nodes
keeps_self nodes = record { grows = omega arith; nodes = λ p h. refl; times = λ f p h. refl; begins = λ e p h b. b; events = λ p bound h e. e }

pub keeps_twice : (x y z : List Node) → Keeps x y → Keeps y z → Keeps x z
keeps_twice x y z k l =
    let g : length x ≤ length y = k.grows in
    let g' : length y ≤ length z = l.grows in
    record {
      grows = omega arith;
      nodes = λ p h. l.nodes p (omega arith) ∙ k.nodes p h;
      times = λ f p h. l.times f p (omega arith) ∙ k.times f p h;
      begins = λ e p h b. l.begins e p (omega arith) (k.begins e p h b);
      events = λ p bound h b. l.events p bound (omega arith) (k.events p bound h b);
    }

-- what the operation may be asked of the cofactors
pub can_hits : (can : ℕ → ℕ → Type 0) (nodes : List Node) (a b event : ℕ) (hits misses : Dd × Dd) → IsSplit nodes a b event hits misses
    → ((f g : Combination) → can (time nodes f a) (time nodes g b)) → (f g : Combination) → can (time nodes f hits.0.place) (time nodes g hits.1.place)
can_hits can nodes a b event hits misses s h f g = rw (s.first.hit_time f, s.second.hit_time g) (h (with_event f event false) (with_event g event false))

pub can_misses : (can : ℕ → ℕ → Type 0) (old new : List Node) (a b event : ℕ) (hits misses : Dd × Dd) → IsSplit old a b event hits misses → Keeps old new
    → ((f g : Combination) → can (time old f a) (time old g b)) → (f g : Combination) → can (time new f misses.0.place) (time new g misses.1.place)
can_misses can old new a b event hits misses s k h f g =
    let m : time new f misses.0.place ≡ time old (with_event f event true) a = k.times f misses.0.place s.first.miss_in ∙ s.first.miss_time f in
    let m' : time new g misses.1.place ≡ time old (with_event g event true) b = k.times g misses.1.place s.second.miss_in ∙ s.second.miss_time g in
    rw (m, m') (h (with_event f event true) (with_event g event true))

-- one combination takes the same branch of both diagrams and of the answer
pub one_branch : (gives : ℕ → ℕ → ℕ → Type 0) (b : Bool) (x y z m m' r h h' q : ℕ) → x ≡ (if b then m else h) → y ≡ (if b then m' else h') → z ≡ (if b then r else q) → gives m m' r → gives h h' q → gives x y z
one_branch gives true x y z m m' r h h' q e e' e'' g g' = rw (e, e', e'') g
one_branch gives false x y z m m' r h h' q e e' e'' g g' = rw (e, e', e'') g'
