-- Runs whose starts are related slot by slot.
use Rattle.std.proofs.Common.{◌≡◌, ℕ, zero, suc, ◌+◌, ◌-◌, ◌≤◌, Bool, true, false, List, [], ◌∷◌, refl, arith, cond, subst, leb}
use Rattle.wx_base.specs.declared.machine.Machine.{Machine}
use Rattle.wx_base.specs.declared.machine.UnitKind.{UnitKind}
use Rattle.wx_base.specs.declared.machine.UnitKind.TheVariants.{Alu, Mul, Mem}
use Rattle.wx_base.specs.declared.times.Times.{Times}
use Rattle.wx_base.specs.Bits.{is_in}
use Rattle.wx_base.specs.Machine.{IsMachine, timing_of}
use Rattle.wx_base.specs.Instruction.{unit_of, transfers_of, reads_of, writes_of}
use Rattle.wx_base.specs.Recurrence.{Entry, Done, slot, ago, kept, when, next, window, latest, past_of, completion, fe_back, d_back, x_back, c_back, unit_free, latency_of, occupancy_of, same_unit, written}
use Rattle.wx_base.specs.Vector.{Covers, IsWorse}
use Rattle.pipe_time.specs.Order.{Pairwise, AreNoEarlier, AreAtMostLater, SlotsAtMostLater, WorseIsNoFaster, WorseCompletesNoEarlier, WorseStaysCovering, DelayIsPassedOn, DelayOfCompletion, DelayOfSlots, MissingIsTheLongest, all_missing}
use Rattle.pipe_time.proofs.Cases.{◌▸◌, width_cases, queue_cases}
use Rattle.pipe_time.proofs.Readings.{readings, next_timed}
use Rattle.pipe_time.proofs.Related.{Closed, Joined, RelatedReadings, RelatedTimes, RelatedEntries, timed_related, latest_related, chosen_related, when_related, AtMost, NoLess, at_most_closed}
use Rattle.pipe_time.proofs.Windows.{window_gives_times, window_gives_window}

-- each slot of the one is related to that of the other
pub record RelatedSlots (R : ℕ → ℕ → Type 0) (v w : List ℕ) : Type 0 where
  pub each : (k : ℕ) → R (slot v k) (slot w k)

pub pairs_each : (R : ℕ → ℕ → Type 0) (xs ys : List ℕ) → R 0 0 → Pairwise R xs ys → (k : ℕ) → R (slot xs k) (slot ys k)
pairs_each R [] [] nothing h k = nothing
pairs_each R (x ∷ xs) (y ∷ ys) nothing h zero = h.0
pairs_each R (x ∷ xs) (y ∷ ys) nothing h (suc k) = pairs_each R xs ys nothing h.1 k
pairs_each R [] (y ∷ ys) nothing h k = absurd h
pairs_each R (x ∷ xs) [] nothing h k = absurd h

free_related : (R : ℕ → ℕ → Type 0) (m : Machine) (unit : UnitKind) (v w : List ℕ) → RelatedSlots R v w → R (unit_free m v unit []) (unit_free m w unit [])
free_related R m Alu v w h = h.each 16
free_related R m Mul v w h = h.each 17
free_related R m Mem v w h = h.each 18

pub slots_readings : (R : ℕ → ℕ → Type 0) (m : Machine) (v w : List ℕ) (e g : Entry) → Joined R R → IsMachine m → RelatedSlots R v w → e.word ≡ g.word →
    RelatedReadings R R (readings m v [] e) (readings m w [] g)
slots_readings R m v w e g closed ok h word = record {
  f = h.each 0;
  fe = h.each 1;
  fe_far = width_cases (λ n. R (ago n (fe_back v [])) (ago n (fe_back w []))) (h.each 1) (h.each 2) m.width ok.width;
  d = h.each 3;
  d_far = queue_cases (λ n. R (ago n (d_back v [])) (ago n (d_back w []))) (h.each 3) (h.each 4) (h.each 5) (h.each 6) (h.each 7) (h.each 8) (h.each 9) (h.each 10) m.queue ok.queue;
  x = h.each 11;
  x_far = width_cases (λ n. R (ago n (x_back v [])) (ago n (x_back w []))) (h.each 11) (h.each 12) m.width ok.width;
  jump = h.each 13;
  c = h.each 14;
  c_far = width_cases (λ n. R (ago n (c_back v [])) (ago n (c_back w []))) (h.each 14) (h.each 15) m.width ok.width;
  free = subst (λ (n : ℕ). R (unit_free m v (unit_of e.word) []) (unit_free m w (unit_of n) [])) word (free_related R m (unit_of e.word) v w h);
  ready = subst (λ (n : ℕ). R (latest (λ r. written v r []) (reads_of e.word) 16) (latest (λ r. written w r []) (reads_of n) 16)) word
      (latest_related R R (λ r. written v r []) (λ r. written w r []) (reads_of e.word) 16 closed (λ r _. h.each (19 + r)));
}

-- the windows on nothing
pub start_slots : (R : ℕ → ℕ → Type 0) (m : Machine) (v w : List ℕ) → R 0 0 → RelatedSlots R v w → RelatedSlots R (window m v []) (window m w [])
unfolding window
start_slots R m v w nothing h =
    let old = h.each in
    let keep : (n reach a b : ℕ) → R a b → R (kept n reach a) (kept n reach b) = λ n reach a b p. when_related R (leb n reach) a b nothing p in
    record {
      each = pairs_each R (window m v []) (window m w []) nothing (
          old 0 ▸ old 1 ▸ keep 2 m.width _ _ (old 2) ▸ keep 1 m.queue _ _ (old 3) ▸ keep 2 m.queue _ _ (old 4) ▸
          keep 3 m.queue _ _ (old 5) ▸ keep 4 m.queue _ _ (old 6) ▸ keep 5 m.queue _ _ (old 7) ▸
          keep 6 m.queue _ _ (old 8) ▸ keep 7 m.queue _ _ (old 9) ▸ keep 8 m.queue _ _ (old 10) ▸ old 11 ▸
          keep 2 m.width _ _ (old 12) ▸ old 13 ▸ old 14 ▸ keep 2 m.width _ _ (old 15) ▸ old 16 ▸ old 17 ▸ old 18 ▸
          old 19 ▸ old 20 ▸ old 21 ▸ old 22 ▸ old 23 ▸ old 24 ▸ old 25 ▸ old 26 ▸ old 27 ▸ old 28 ▸ old 29 ▸ old 30 ▸
          old 31 ▸ old 32 ▸ old 33 ▸ old 34 ▸ tt);
    }

-- the windows on one instruction
pub step_slots_by : (R : ℕ → ℕ → Type 0) (m : Machine) (v w : List ℕ) (i j : Done) → R 0 0 → RelatedSlots R v w →
    RelatedTimes R i.times j.times → R (i.times.x + occupancy_of m i.entry) (j.times.x + occupancy_of m i.entry) →
    i.entry.word ≡ j.entry.word → i.entry.taken ≡ j.entry.taken → RelatedSlots R (window m v (i ∷ [])) (window m w (j ∷ []))
unfolding window
step_slots_by R m v w i j nothing h t until word taken =
    let old = h.each in
    let keep : (n reach a b : ℕ) → R a b → R (kept n reach a) (kept n reach b) = λ n reach a b p. when_related R (leb n reach) a b nothing p in
    let held : ℕ → ℕ = λ n. (timing_of m (unit_of n)).occupancy + (transfers_of n - 1) in
    let unit : (u : UnitKind) (k : ℕ) → R (cond (same_unit (unit_of i.entry.word) u) (i.times.x + held i.entry.word) (slot v k)) (cond (same_unit (unit_of j.entry.word) u) (j.times.x + held j.entry.word) (slot w k)) =
    λ u k. subst (λ (n : ℕ). R (cond (same_unit (unit_of i.entry.word) u) (i.times.x + held i.entry.word) (slot v k)) (cond (same_unit (unit_of n) u) (j.times.x + held n) (slot w k))) word
    (chosen_related R (same_unit (unit_of i.entry.word) u) _ _ _ _ until (old k)) in
    let write : (r k : ℕ) → R (cond (is_in (writes_of i.entry.word) r) i.times.xe (slot v k)) (cond (is_in (writes_of j.entry.word) r) j.times.xe (slot w k)) =
    λ r k. subst (λ (n : ℕ). R (cond (is_in (writes_of i.entry.word) r) i.times.xe (slot v k)) (cond (is_in (writes_of n) r) j.times.xe (slot w k))) word
    (chosen_related R (is_in (writes_of i.entry.word) r) _ _ _ _ t.xe (old k)) in
    let jump : R (when i.entry.taken i.times.xe) (when j.entry.taken j.times.xe) =
    subst (λ (b : Bool). R (when i.entry.taken i.times.xe) (when b j.times.xe)) taken (when_related R i.entry.taken _ _ nothing t.xe) in
    record {
      each = pairs_each R (window m v (i ∷ [])) (window m w (j ∷ [])) nothing (
          t.f ▸ t.fe ▸ keep 2 m.width _ _ (old 1) ▸ keep 1 m.queue _ _ t.d ▸ keep 2 m.queue _ _ (old 3) ▸
          keep 3 m.queue _ _ (old 4) ▸ keep 4 m.queue _ _ (old 5) ▸ keep 5 m.queue _ _ (old 6) ▸
          keep 6 m.queue _ _ (old 7) ▸ keep 7 m.queue _ _ (old 8) ▸ keep 8 m.queue _ _ (old 9) ▸ t.x ▸
          keep 2 m.width _ _ (old 11) ▸ jump ▸ t.c ▸ keep 2 m.width _ _ (old 14) ▸ unit Alu 16 ▸ unit Mul 17 ▸
          unit Mem 18 ▸ write 0 19 ▸ write 1 20 ▸ write 2 21 ▸ write 3 22 ▸ write 4 23 ▸ write 5 24 ▸ write 6 25 ▸
          write 7 26 ▸ write 8 27 ▸ write 9 28 ▸ write 10 29 ▸ write 11 30 ▸ write 12 31 ▸ write 13 32 ▸
          write 14 33 ▸ write 15 34 ▸ tt);
    }

-- the same, where the relation is closed
step_slots : (R I : ℕ → ℕ → Type 0) (m : Machine) (v w : List ℕ) (i j : Done) → Closed R R I → RelatedSlots R v w →
    RelatedTimes R i.times j.times → RelatedEntries m I i.entry j.entry → RelatedSlots R (window m v (i ∷ [])) (window m w (j ∷ []))
step_slots R I m v w i j closed h t s =
    step_slots_by R m v w i j closed.joined.nothing h t (closed.later _ _ _ _ (closed.same (occupancy_of m i.entry)) t.x) s.word s.taken

-- what is kept along two runs
pub record RelatedRuns (R : ℕ → ℕ → Type 0) (m : Machine) (v w : List ℕ) (past other : List Done) : Type 0 where
  pub times : Pairwise (λ i j. RelatedTimes R i.times j.times) past other
  pub slots : RelatedSlots R (window m v past) (window m w other)

-- one step of two runs
step_runs : (R I : ℕ → ℕ → Type 0) (m : Machine) (v w : List ℕ) (past other : List Done) (e g : Entry) → Closed R R I → IsMachine m →
    RelatedRuns R m v w past other → RelatedEntries m I e g →
    RelatedRuns R m v w (record { entry = e; times = next m v past e } ∷ past) (record { entry = g; times = next m w other g } ∷ other)
step_runs R I m v w past other e g closed ok h s =
    let a = window m v past in
    let b = window m w other in
    let i : Done = record { entry = e; times = next m v past e } in
    let j : Done = record { entry = g; times = next m w other g } in
    let moved : RelatedTimes R (next m a [] e) (next m b [] g) =
    rw (next_timed m a [] e, next_timed m b [] g) (timed_related R R I m e g _ _ closed s (slots_readings R m a b e g closed.joined ok h.slots s.word)) in
    let times : RelatedTimes R (next m v past e) (next m w other g) =
    rw (← window_gives_times m v past e ok, ← window_gives_times m w other g ok) moved in
    record {
      times = (times, h.times);
      slots = rw (← window_gives_window m v past i ok, ← window_gives_window m w other j ok) (step_slots R I m a b i j closed h.slots times s);
    }

-- two whole runs
pub related_runs : (R I : ℕ → ℕ → Type 0) (m : Machine) (v w : List ℕ) (es gs : List Entry) → Closed R R I → IsMachine m →
    RelatedSlots R v w → Pairwise (RelatedEntries m I) es gs → RelatedRuns R m v w (past_of m v es) (past_of m w gs)
unfolding past_of
related_runs R I m v w [] [] closed ok h s = record { times = tt; slots = start_slots R m v w closed.joined.nothing h }
related_runs R I m v w (e ∷ es) (g ∷ gs) closed ok h s =
    step_runs R I m v w (past_of m v es) (past_of m w gs) e g closed ok (related_runs R I m v w es gs closed ok h s.1) s.0
related_runs R I m v w [] (g ∷ gs) closed ok h s = absurd s
related_runs R I m v w (e ∷ es) [] closed ok h s = absurd s

pub pairwise_map : {A : Type 0} (P Q : A → A → Type 0) → ((x y : A) → P x y → Q x y) → (xs ys : List A) → Pairwise P xs ys → Pairwise Q xs ys
pairwise_map P Q f [] [] h = tt
pairwise_map P Q f (x ∷ xs) (y ∷ ys) h = (f x y h.0, pairwise_map P Q f xs ys h.1)
pairwise_map P Q f [] (y ∷ ys) h = absurd h
pairwise_map P Q f (x ∷ xs) [] h = absurd h

when_more : (a b : Bool) (n : ℕ) → (b ≡ true → a ≡ true) → when b n ≤ when a n
when_more true true n h = omega arith
when_more true false n h = omega arith
when_more false false n h = omega arith
when_more false true n h = let p : false ≡ true = h refl in cc

more_latency : (a b c : ℕ) → b ≤ c → a + b ≤ a + c
more_latency a b c h = omega arith

worse_entry : (m : Machine) (worse e : Entry) → IsWorse worse e → RelatedEntries m NoLess worse e
worse_entry m worse e h = record {
  word = h.word;
  taken = h.taken;
  miss = when_more worse.miss e.miss m.miss h.miss;
  latency = subst
      (λ (word : ℕ). (timing_of m (unit_of word)).latency + (transfers_of word - 1) + when e.slow (timing_of m (unit_of word)).slow ≤ latency_of m worse) h.word
      (more_latency _ _ _ (when_more worse.slow e.slow (timing_of m (unit_of worse.word)).slow h.slow));
}

delayed_runs : (m : Machine) (t : ℕ) (u v : List ℕ) (worse better : List Entry) → IsMachine m → SlotsAtMostLater t u v → Pairwise IsWorse worse better →
    RelatedRuns (AtMost t) m u v (past_of m u worse) (past_of m v better)
delayed_runs m t u v worse better ok h s =
    related_runs (AtMost t) NoLess m u v worse better (at_most_closed t) ok (record { each = h.each })
    (pairwise_map IsWorse (RelatedEntries m NoLess) (worse_entry m) worse better s)

at_most_times : (t : ℕ) (a b : Times) → RelatedTimes (AtMost t) a b → AreAtMostLater t a b
at_most_times t a b h = record { f = h.f; fe = h.fe; d = h.d; x = h.x; xe = h.xe; c = h.c }

pub delay_is_passed_on : DelayIsPassedOn
delay_is_passed_on m t u v worse better ok h s =
    pairwise_map (λ i j. RelatedTimes (AtMost t) i.times j.times) (λ i j. AreAtMostLater t i.times j.times) (λ i j. at_most_times t i.times j.times)
    (past_of m u worse) (past_of m v better) (delayed_runs m t u v worse better ok h s).times

-- slot 14 of a window is when the last instruction is complete
completion_slot : (m : Machine) (start : List ℕ) (past : List Done) → slot (window m start past) 14 ≡ completion start past
unfolding window
completion_slot m start past = refl

pub delay_of_completion : DelayOfCompletion
delay_of_completion m t u v worse better ok h s =
    let r : AtMost t (slot (window m u (past_of m u worse)) 14) (slot (window m v (past_of m v better)) 14) = (delayed_runs m t u v worse better ok h s).slots.each 14 in
    subst (λ (n : ℕ). completion v (past_of m v better) ≤ n + t) (completion_slot m u (past_of m u worse))
    (subst (λ (n : ℕ). n ≤ slot (window m u (past_of m u worse)) 14 + t) (completion_slot m v (past_of m v better)) r)

pub delay_of_slots : DelayOfSlots
delay_of_slots m t u v worse better ok h s = record { each = (delayed_runs m t u v worse better ok h s).slots.each }

no_delay : (v u : List ℕ) → Covers v u → SlotsAtMostLater 0 v u
no_delay v u h = record { each = λ k. put (slot v k) (slot u k) (h.each k) }
  where
    put : (a b : ℕ) → b ≤ a → b ≤ a + 0
    put a b h = omega arith

drop_zero : (a b : ℕ) → b ≤ a + 0 → b ≤ a
drop_zero a b h = omega arith

no_earlier : (a b : Times) → AreAtMostLater 0 a b → AreNoEarlier a b
no_earlier a b h = record { f = drop_zero _ _ h.f; fe = drop_zero _ _ h.fe; d = drop_zero _ _ h.d; x = drop_zero _ _ h.x; xe = drop_zero _ _ h.xe; c = drop_zero _ _ h.c }

pub worse_is_no_faster : WorseIsNoFaster
worse_is_no_faster m v u worse better ok h s =
    pairwise_map (λ i j. AreAtMostLater 0 i.times j.times) (λ i j. AreNoEarlier i.times j.times) (λ i j. no_earlier i.times j.times)
    (past_of m v worse) (past_of m u better) (delay_is_passed_on m 0 v u worse better ok (no_delay v u h) s)

pub worse_completes_no_earlier : WorseCompletesNoEarlier
worse_completes_no_earlier m v u worse better ok h s = drop_zero _ _ (delay_of_completion m 0 v u worse better ok (no_delay v u h) s)

pub worse_stays_covering : WorseStaysCovering
worse_stays_covering m v u worse better ok h s =
    record { each = λ k. drop_zero _ _ ((delay_of_slots m 0 v u worse better ok (no_delay v u h) s).each k) }

missing_is_worse : (es : List Entry) → Pairwise IsWorse (all_missing es) es
missing_is_worse [] = tt
missing_is_worse (e ∷ es) = (record { word = refl; taken = refl; miss = λ _. refl; slow = λ h. h }, missing_is_worse es)

pub missing_is_the_longest : MissingIsTheLongest
missing_is_the_longest m entries ok =
    worse_completes_no_earlier m [] [] (all_missing entries) entries ok (record { each = λ k. omega arith }) (missing_is_worse entries)
