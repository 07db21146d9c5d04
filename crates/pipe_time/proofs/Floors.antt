-- Slots below the next fetch play no part.
use Rattle.std.proofs.Common.{◌≡◌, ℕ, ◌+◌, ◌≤◌, false, List, [], ◌∷◌, refl, sym, ◌∙◌, ap, arith, max, subst}
use Rattle.wx_base.specs.declared.machine.Machine.{Machine}
use Rattle.wx_base.specs.declared.times.Times.{Times}
use Rattle.wx_base.specs.Machine.{IsMachine}
use Rattle.wx_base.specs.Recurrence.{Entry, Done, when, next, window, past_of, f_of, latency_of, occupancy_of}
use Rattle.wx_base.specs.Vector.{IsWorse}
use Rattle.pipe_time.specs.Order.{Pairwise, AreNoEarlier}
use Rattle.pipe_time.specs.Floor.{RaisingChangesNothing}
use Rattle.pipe_time.proofs.Delay.{RelatedSlots, slots_readings, start_slots, step_slots_by, worse_is_no_faster}
use Rattle.pipe_time.proofs.Readings.{Readings, timed, next_timed}
use Rattle.pipe_time.proofs.Related.{Joined, RelatedReadings, RelatedTimes}
use Rattle.pipe_time.proofs.Windows.{window_gives_times, window_gives_window}

-- at most the greater of the second and the floor
abbrev pub Below : ℕ → ℕ → ℕ → Type 0
Below floor a b = a ≤ max b floor

abbrev pub AtMostThat : ℕ → ℕ → Type 0
AtMostThat a b = a ≤ b

below_both : (floor a b c d : ℕ) → Below floor a b → Below floor c d → Below floor (max a c) (max b d)
below_both floor a b c d h i = omega arith

pub below_joined : (floor : ℕ) → Joined (Below floor) (Below floor)
below_joined floor = record { weak = λ a b h. h; nothing = omega arith; both = below_both floor }

below : (floor a b : ℕ) → a ≤ b → Below floor a b
below floor a b h = omega arith

-- a floor that is reached already hides what is raised
hidden : (a b c d floor : ℕ) → a ≤ b → floor ≤ b → Below floor c d → max a c ≤ max b d
hidden a b c d floor h i j = omega arith

kept_up : (a b floor : ℕ) → floor ≤ a → floor ≤ max a b
kept_up a b floor h = omega arith

one_up : (floor a b : ℕ) → Below floor a b → Below (floor + 1) (a + 1) (b + 1)
one_up floor a b h = omega arith

at_floor : (a b floor : ℕ) → Below floor a b → floor ≤ b → a ≤ b
at_floor a b floor h i = omega arith

-- what is read where each of four times was raised to the latest of them at most
four : (a b c d a' b' c' d' floor : ℕ) → Below floor a a' → Below floor b b' → Below floor c c' → Below floor d d' →
    floor ≤ max (max a' b') (max c' d') → max (max a b) (max c d) ≤ max (max a' b') (max c' d')
four a b c d a' b' c' d' floor p q r s h =
    at_floor _ _ floor (below_both floor _ _ _ _ (below_both floor _ _ _ _ p q) (below_both floor _ _ _ _ r s)) h

grown : (a b n : ℕ) → a ≤ b → a + n ≤ b + n
grown a b n h = omega arith

up_by : (a floor n : ℕ) → floor ≤ a → floor ≤ a + n
up_by a floor n h = omega arith

one_above : (a floor : ℕ) → floor ≤ a → floor + 1 ≤ a + 1
one_above a floor h = omega arith

lower : (a floor : ℕ) → floor + 1 ≤ a → floor ≤ a
lower a floor h = omega arith

-- the times from raised readings are no later
pub timed_floored : (m : Machine) (e : Entry) (a b : Readings) (floor : ℕ) → RelatedReadings (Below floor) (Below floor) a b →
    floor ≤ max (max b.f b.fe_far) (max b.d_far b.jump) → RelatedTimes AtMostThat (timed m e a) (timed m e b)
timed_floored m e a b floor r h =
    let t = timed m e b in
    let f : (timed m e a).f ≤ t.f = four _ _ _ _ _ _ _ _ floor r.f r.fe_far r.d_far r.jump h in
    let fetched : floor ≤ t.f + m.hit + when e.miss m.miss = up_by _ floor _ (up_by _ floor _ h) in
    let fe : (timed m e a).fe ≤ t.fe = hidden _ _ _ _ floor (grown _ _ _ (grown _ _ _ f)) fetched r.fe in
    let fe_high : floor ≤ t.fe = kept_up _ _ floor fetched in
    let d : (timed m e a).d ≤ t.d = hidden _ _ _ _ floor (hidden _ _ _ _ floor fe fe_high r.d) (kept_up _ _ floor fe_high) r.x_far in
    let d_high : floor ≤ t.d = kept_up _ _ floor (kept_up _ _ floor fe_high) in
    let begun : floor + 1 ≤ t.d + 1 = one_above _ floor d_high in
    let one : floor + 1 ≤ max (t.d + 1) b.x = kept_up _ _ (floor + 1) begun in
    let two : floor + 1 ≤ max (max (t.d + 1) b.x) (b.x_far + 1) = kept_up _ _ (floor + 1) one in
    let x : (timed m e a).x ≤ t.x =
    hidden _ _ _ _ floor
    (hidden _ _ _ _ (floor + 1) (hidden _ _ _ _ floor (grown _ _ 1 d) (lower _ floor begun) r.x) one (one_up floor _ _ r.x_far))
    (lower _ floor two) (below_both floor _ _ _ _ r.free r.ready) in
    let x_high : floor + 1 ≤ t.x = kept_up _ _ (floor + 1) two in
    let xe : (timed m e a).xe ≤ t.xe = grown _ _ (latency_of m e) x in
    let xe_high : floor + 1 ≤ t.xe = up_by _ (floor + 1) (latency_of m e) x_high in
    let c : (timed m e a).c ≤ t.c =
    hidden _ _ _ _ (floor + 1) (hidden _ _ _ _ floor xe (lower _ floor xe_high) r.c) (kept_up _ _ (floor + 1) xe_high) (one_up floor _ _ r.c_far) in
    record { f = f; fe = fe; d = d; x = x; xe = xe; c = c }

-- what is kept along the run from the raised slots and the one from the slots
pub record Floored (m : Machine) (floor : ℕ) (v w : List ℕ) (past other : List Done) : Type 0 where
  pub times : Pairwise (λ i j. RelatedTimes AtMostThat i.times j.times) past other
  pub slots : RelatedSlots (Below floor) (window m v past) (window m w other)
  pub fetch : floor ≤ f_of m (window m w other) []

-- the next fetch begins no earlier than the last one
fetch_after : (m : Machine) (w : List ℕ) (j : Done) (other : List Done) → j.times.f ≤ f_of m (window m w (j ∷ other)) []
unfolding window
fetch_after m w j other = kept_up _ _ j.times.f (kept_up _ _ j.times.f (omega arith))

first_of_next : (m : Machine) (w : List ℕ) (past : List Done) (e : Entry) → (next m w past e).f ≡ f_of m w past
unfolding next
first_of_next m w past e = refl

same_fetch : (m : Machine) (w : List ℕ) (past : List Done) (e : Entry) → IsMachine m → f_of m (window m w past) [] ≡ f_of m w past
same_fetch m w past e ok =
    sym (first_of_next m (window m w past) [] e) ∙ ap (λ (t : Times). t.f) (window_gives_times m w past e ok) ∙ first_of_next m w past e

any_times : (floor : ℕ) (a b : Times) → RelatedTimes AtMostThat a b → RelatedTimes (Below floor) a b
any_times floor a b h = record {
  f = below floor _ _ h.f;
  fe = below floor _ _ h.fe;
  d = below floor _ _ h.d;
  x = below floor _ _ h.x;
  xe = below floor _ _ h.xe;
  c = below floor _ _ h.c;
}

step_floored : (m : Machine) (floor : ℕ) (v w : List ℕ) (past other : List Done) (e : Entry) → IsMachine m → Floored m floor v w past other →
    Floored m floor v w (record { entry = e; times = next m v past e } ∷ past) (record { entry = e; times = next m w other e } ∷ other)
step_floored m floor v w past other e ok h =
    let a = window m v past in
    let b = window m w other in
    let i : Done = record { entry = e; times = next m v past e } in
    let j : Done = record { entry = e; times = next m w other e } in
    let moved : RelatedTimes AtMostThat (next m a [] e) (next m b [] e) =
    rw (next_timed m a [] e, next_timed m b [] e)
    (timed_floored m e _ _ floor (slots_readings (Below floor) m a b e e (below_joined floor) ok h.slots refl) h.fetch) in
    let times : RelatedTimes AtMostThat (next m v past e) (next m w other e) =
    rw (← window_gives_times m v past e ok, ← window_gives_times m w other e ok) moved in
    let until : Below floor (i.times.x + occupancy_of m e) (j.times.x + occupancy_of m e) = below floor _ _ (grown _ _ _ times.x) in
    let reached : floor ≤ j.times.f = subst (λ (n : ℕ). floor ≤ n) (same_fetch m w other e ok ∙ sym (first_of_next m w other e)) h.fetch in
    record {
      times = (times, h.times);
      slots = rw (← window_gives_window m v past i ok, ← window_gives_window m w other j ok)
          (step_slots_by (Below floor) m a b i j (omega arith) h.slots (any_times floor i.times j.times times) until refl refl);
      fetch = at_least floor _ _ reached (fetch_after m w j other);
    }
  where
    at_least : (a b c : ℕ) → a ≤ b → b ≤ c → a ≤ c
    at_least a b c h i = omega arith

floored : (m : Machine) (v w : List ℕ) (es : List Entry) → IsMachine m → RelatedSlots (Below (f_of m w [])) v w → Floored m (f_of m w []) v w (past_of m v es) (past_of m w es)
unfolding past_of
floored m v w [] ok h = record {
  times = tt;
  slots = start_slots (Below (f_of m w [])) m v w (omega arith) h;
  fetch = rw (same_fetch m w [] (record { word = 0; miss = false; slow = false; taken = false }) ok) (omega arith);
}
floored m v w (e ∷ es) ok h = step_floored m (f_of m w []) v w (past_of m v es) (past_of m w es) e ok (floored m v w es ok h)

same_entries : (m : Machine) (v w : List ℕ) (es : List Entry) → Pairwise (λ i j. i.entry ≡ j.entry) (past_of m v es) (past_of m w es)
unfolding past_of
same_entries m v w [] = tt
same_entries m v w (e ∷ es) = (refl, same_entries m v w es)

even : (a b : ℕ) → a ≤ b → b ≤ a → a ≡ b
even a b h i = omega arith

made : (g : Entry → ℕ → ℕ → ℕ → ℕ → ℕ → ℕ → Done) (e : Entry) (f fe d x xe c : ℕ) (e' : Entry) (f' fe' d' x' xe' c' : ℕ) →
    e ≡ e' → f ≡ f' → fe ≡ fe' → d ≡ d' → x ≡ x' → xe ≡ xe' → c ≡ c' → g e f fe d x xe c ≡ g e' f' fe' d' x' xe' c'
made g e f fe d x xe c e' f' fe' d' x' xe' c' h p q r s t u = cc

same_done : (i j : Done) → i.entry ≡ j.entry → RelatedTimes AtMostThat i.times j.times → AreNoEarlier i.times j.times → i ≡ j
same_done i j h p q =
    made (λ e f fe d x xe c. record { entry = e; times = record { f = f; fe = fe; d = d; x = x; xe = xe; c = c } }) _ _ _ _ _ _ _ _ _ _ _ _ _ _
    h (even _ _ p.f q.f) (even _ _ p.fe q.fe) (even _ _ p.d q.d) (even _ _ p.x q.x) (even _ _ p.xe q.xe) (even _ _ p.c q.c)

same_pasts : (xs ys : List Done) → Pairwise (λ i j. i.entry ≡ j.entry) xs ys → Pairwise (λ i j. RelatedTimes AtMostThat i.times j.times) xs ys →
    Pairwise (λ i j. AreNoEarlier i.times j.times) xs ys → xs ≡ ys
same_pasts [] [] h p q = refl
same_pasts (x ∷ xs) (y ∷ ys) h p q = ap (λ (z : Done). z ∷ xs) (same_done x y h.0 p.0 q.0) ∙ ap (λ (zs : List Done). y ∷ zs) (same_pasts xs ys h.1 p.1 q.1)
same_pasts [] (y ∷ ys) h p q = absurd h
same_pasts (x ∷ xs) [] h p q = absurd h

as_bad : (es : List Entry) → Pairwise IsWorse es es
as_bad [] = tt
as_bad (e ∷ es) = (record { word = refl; taken = refl; miss = λ h. h; slow = λ h. h }, as_bad es)

pub raising_changes_nothing : RaisingChangesNothing
raising_changes_nothing m raised slots entries ok h =
    same_pasts (past_of m raised entries) (past_of m slots entries) (same_entries m raised slots entries)
    (floored m raised slots entries ok (record { each = h.within })).times
    (worse_is_no_faster m raised slots entries entries ok (record { each = h.covers }) (as_bad entries))
