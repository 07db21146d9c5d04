-- What plans and rows keep as they grow, and a branch of two diagrams of a plan.
use Rattle.std.proofs.Common.{◌≡◌, ℕ, ◌+◌, ◌<◌, ◌≤◌, ◌⊎◌, Bool, true, false, List, length, slice_get, Option, Some, ◌==◌, refl, sym, ◌∙◌, inl, inr, arith, if◌then◌else◌, cond}
use Rattle.std.proofs.lemmas.Bool.Decides.{nat_tests}
use Rattle.xdd_table.specs.declared.node.Node.{Node}
use Rattle.xdd_table.specs.Diagram.{Combination, with_event, time, BeginsAfter, EventsLess, Keeps}
use Rattle.pipe_block.specs.declared.row.Row.{Row}
use Rattle.pipe_block.specs.Rows.{Leads, Extends, IsGiven, AddsGiven}

pub keeps_self : (nodes : List Node) → Keeps nodes nodes
keeps_self nodes = record { grows = omega arith; nodes = λ p h. refl; times = λ f p h. refl; begins = λ e p h b. b; events = λ p bound h e. e }

pub keeps_twice : (a b c : List Node) → Keeps a b → Keeps b c → Keeps a c
keeps_twice a b c k l =
    let g : length a ≤ length b = k.grows in
    let g' : length b ≤ length c = l.grows in
    record {
      grows = omega arith;
      nodes = λ p h. l.nodes p (omega arith) ∙ k.nodes p h;
      times = λ f p h. l.times f p (omega arith) ∙ k.times f p h;
      begins = λ e p h x. l.begins e p (omega arith) (k.begins e p h x);
      events = λ p bound h x. l.events p bound (omega arith) (k.events p bound h x);
    }

pub extends_self : (rows : List Row) → Extends rows rows
extends_self rows = record { kept = λ i r is. is }

pub extends_twice : (a b c : List Row) → Extends a b → Extends b c → Extends a c
extends_twice a b c x y = record { kept = λ i r is. y.kept i r (x.kept i r is) }

-- a plan's diagram leads on to its rows as plan and rows grow
pub leads_kept : (old new : List Node) (rows more : List Row) (row_of : Combination → Row) (After Below : ℕ → Type 0) (p : ℕ)
    → Keeps old new → Extends rows more → Leads old rows row_of After Below p → Leads new more row_of After Below p
leads_kept old new rows more row_of After Below p k x w =
    let g : length old ≤ length new = k.grows in
    record {
      within = omega (arith, w.within);
      each = λ f. rw (k.times f p w.within) (x.kept (time old f p) (row_of f) (w.each f));
      after = λ e a. k.begins e p w.within (w.after e a);
      events = λ bound h. k.events p bound w.within (w.events bound h);
    }

-- where the event is decided, the time of a branch is that of one of its diagrams
branch_each : (b : Bool) (rows : List Row) (t h m : ℕ) (r rh rm : Row) → t ≡ (if b then m else h) → slice_get rows h ≡ Some rh → slice_get rows m ≡ Some rm
    → (b ≡ false → rh ≡ r) → (b ≡ true → rm ≡ r) → slice_get rows t ≡ Some r
branch_each true rows t h m r rh rm is at at' x y = rw (is, ← y refl) at'
branch_each false rows t h m r rh rm is at at' x y = rw (is, ← x refl) at

module _ (plan next : List Node) (rows : List Row) (row_of row_hit row_miss : Combination → Row) (After Below After_hit Below_hit After_miss Below_miss : ℕ → Type 0) (e h m d : ℕ) where
  pub leads_branch : Leads plan rows row_hit After_hit Below_hit h → Leads plan rows row_miss After_miss Below_miss m
      → d < length next
      → ((f : Combination) → time next f d ≡ (if f e then time plan f m else time plan f h))
      → ((x : ℕ) → x < e → BeginsAfter next x d)
      → ((b : ℕ) → e < b → EventsLess plan h b → EventsLess plan m b → EventsLess next d b)
      → ((f : Combination) → f e ≡ false → row_hit f ≡ row_of f) → ((f : Combination) → f e ≡ true → row_miss f ≡ row_of f)
      → ((x : ℕ) → After x → x < e)
      → ((b : ℕ) → Below b → (e < b) × (Below_hit b × Below_miss b))
      → Leads next rows row_of After Below d
  leads_branch w v within times after events hit miss first last = record {
    within = within;
    each = λ f. branch_each (f e) rows (time next f d) (time plan f h) (time plan f m) (row_of f) (row_hit f) (row_miss f) (times f) (w.each f) (v.each f) (hit f) (miss f);
    after = λ x a. after x (first x a);
    events = λ b l. let k = last b l in events b k.0 (w.events b k.1.0) (v.events b k.1.1);
  }

-- one more answer is kept
pub one_more : {K V : Type 0} (e : Bool) (Right : K → V → Type 0) (k q : K) (v d : V) (before : Option V) → (e ≡ true → k ≡ q) → Right k v → (before ≡ Some d → Right q d)
    → cond e (Some v) before ≡ Some d → Right q d
one_more {K} {V} true Right k q v d before same x y is =
    let i : k ≡ q = same refl in
    let j : v ≡ d = cc in
    rw (← i, ← j) x
one_more false Right k q v d before same x y is = y is

pub known_more : {K V : Type 0} (eq : K → K → Bool) (sound : (a b : K) → eq a b ≡ true → a ≡ b) (Right : K → V → Type 0) (k : K) (v : V) (old new : K → Option V)
    → ((q : K) (d : V) → old q ≡ Some d → Right q d) → Right k v → ((q : K) → new q ≡ cond (eq k q) (Some v) (old q)) → (q : K) (d : V) → new q ≡ Some d → Right q d
known_more eq sound Right k v old new all x updates q d is =
    one_more (eq k q) Right k q v d (old q) (sound k q) x (all q d) (sym (updates q) ∙ is)

-- rows that a half adds are given by the whole
module _ (row_of half_of : Combination → Row) (level event : ℕ) (misses : Bool) (l : level ≤ event) (same : (f : Combination) → f event ≡ misses → half_of f ≡ row_of f) where
  given_half : (r : Row) → IsGiven half_of (event + 1) r → IsGiven row_of level r
  given_half r g = record {
    by = λ h.
        let w = g.by (with_event h event misses) in
        let here : w.0 event ≡ misses = w.2 event (omega arith) ∙ with_here h event misses in
        (w.0, w.1 ∙ same w.0 here, λ x m. w.2 x (omega arith) ∙ with_other h event x misses (omega arith));
  }
    where
      with_here : (h : Combination) (event : ℕ) (b : Bool) → with_event h event b event ≡ b
      with_here h event b = let t : (event == event) ≡ true = grind (arith, nat_tests) in rw t refl

      with_other : (h : Combination) (event x : ℕ) (b : Bool) → x < event → with_event h event b x ≡ h x
      with_other h event x b m = let t : (x == event) ≡ false = grind (arith, nat_tests) in rw t refl

  pub adds_half : (old new : List Row) → AddsGiven old new half_of (event + 1) → AddsGiven old new row_of level
  adds_half old new a = record { added = λ i r is. elim (a.added i r is) [ inl x ↦ inl x | inr g ↦ inr (given_half r g) ] }

pub adds_twice : (a b c : List Row) (row_of : Combination → Row) (level : ℕ) → AddsGiven a b row_of level → AddsGiven b c row_of level → AddsGiven a c row_of level
adds_twice a b c row_of level x y = record {
  added = λ i r is. elim (y.added i r is) [ inl z ↦ x.added i r z | inr g ↦ inr g ];
}

pub adds_none : (rows : List Row) (row_of : Combination → Row) (level : ℕ) → AddsGiven rows rows row_of level
adds_none rows row_of level = record { added = λ i r is. inl is }

pub adds_row : (old new : List Row) (row : Row) (row_of : Combination → Row) (level : ℕ) → ((f : Combination) → row_of f ≡ row)
    → ((i : ℕ) (r : Row) → slice_get new i ≡ Some r → (slice_get old i ≡ Some r) ⊎ (r ≡ row)) → AddsGiven old new row_of level
adds_row old new row row_of level is only = record {
  added = λ i r at. elim (only i r at) [ inl x ↦ inl x | inr e ↦ inr (record { by = λ g. (g, e ∙ sym (is g), λ x l. refl) }) ];
}

-- rows that are given by one function are given by an equal one
pub adds_as : (old new : List Row) (row_of other_of : Combination → Row) (level : ℕ) → ((f : Combination) → other_of f ≡ row_of f) → AddsGiven old new other_of level → AddsGiven old new row_of level
adds_as old new row_of other_of level same a = record {
  added = λ i r is. elim (a.added i r is) [
    | inl x ↦ inl x
    | inr g ↦ inr (record { by = λ h. let w = g.by h in (w.0, w.1 ∙ same w.0, w.2) })
  ];
}
