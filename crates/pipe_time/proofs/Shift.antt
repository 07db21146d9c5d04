-- Runs whose starts are later by t.
use Rattle.std.proofs.Common.{◌≡◌, ℕ, zero, suc, ◌+◌, ◌-◌, ◌<◌, ◌≤◌, Bool, true, false, not, ◌&&◌, IsTrue, List, [], ◌∷◌, refl, arith, cond, subst, leb, slice_index}
use Rattle.std.proofs.lemmas.Bool.{le-leb}
use Rattle.std.proofs.lemmas.Bool.Decides.{nat_tests}
use Rattle.wx_base.specs.declared.machine.Machine.{Machine}
use Rattle.wx_base.specs.declared.machine.UnitKind.{UnitKind}
use Rattle.wx_base.specs.declared.machine.UnitKind.TheVariants.{Alu, Mul, Mem}
use Rattle.wx_base.specs.declared.times.Times.{Times}
use Rattle.wx_base.specs.Bits.{is_in}
use Rattle.wx_base.specs.Machine.{IsMachine, timing_of}
use Rattle.wx_base.specs.Instruction.{unit_of, transfers_of, reads_of, writes_of}
use Rattle.wx_base.specs.Recurrence.{Entry, Done, slot, ago, when, next, latest, past_of, f_back, fe_back, d_back, x_back, c_back, last_jump, unit_free, same_unit, written}
use Rattle.wx_base.specs.Vector.{IsLaterBy}
use Rattle.pipe_time.specs.Order.{Pairwise, AreLaterBy, ShiftMovesTimes, ShiftMovesCompletion}
use Rattle.pipe_time.proofs.Readings.{readings, next_timed}
use Rattle.pipe_time.proofs.Related.{Closed, RelatedReadings, RelatedTimes, RelatedEntries, timed_related, latest_related, chosen_related, when_related, Exactly, ExactlyOrNothing, Same, exactly_closed}
use Rattle.pipe_time.proofs.Delay.{pairwise_map}

-- What the machine reads of two pasts is related. Places are counted from 0 here.
pub record Linked (m : Machine) (R Z : ℕ → ℕ → Type 0) (v w : List ℕ) (past other : List Done) : Type 0 where
  pub f : R (ago 1 (f_back v past)) (ago 1 (f_back w other))
  pub fe : (k : ℕ) → k < m.width → R (slice_index (fe_back v past) k) (slice_index (fe_back w other) k)
  pub d : (k : ℕ) → k < m.queue → R (slice_index (d_back v past) k) (slice_index (d_back w other) k)
  pub x : (k : ℕ) → k < m.width → R (slice_index (x_back v past) k) (slice_index (x_back w other) k)
  pub jump : Z (last_jump v past) (last_jump w other)
  pub c : (k : ℕ) → k < m.width → R (slice_index (c_back v past) k) (slice_index (c_back w other) k)
  pub free : (unit : UnitKind) → R (unit_free m v unit past) (unit_free m w unit other)
  pub ends : (r : ℕ) → r < 16 → R (written v r past) (written w r other)

pub linked_readings : (R Z I : ℕ → ℕ → Type 0) (m : Machine) (v w : List ℕ) (past other : List Done) (e g : Entry) → Closed R Z I → IsMachine m →
    Linked m R Z v w past other → e.word ≡ g.word → RelatedReadings R Z (readings m v past e) (readings m w other g)
linked_readings R Z I m v w past other e g closed ok h word =
    let low : 0 < m.width = omega (arith, ok.width.0) in
    let far : m.width - 1 < m.width = omega (arith, ok.width.0) in
    record {
      f = h.f;
      fe = h.fe 0 low;
      fe_far = h.fe (m.width - 1) far;
      d = h.d 0 (omega (arith, ok.queue.0));
      d_far = h.d (m.queue - 1) (omega (arith, ok.queue.0));
      x = h.x 0 low;
      x_far = h.x (m.width - 1) far;
      jump = h.jump;
      c = h.c 0 low;
      c_far = h.c (m.width - 1) far;
      free = subst (λ (n : ℕ). R (unit_free m v (unit_of e.word) past) (unit_free m w (unit_of n) other)) word (h.free (unit_of e.word));
      ready = subst (λ (n : ℕ). Z (latest (λ r. written v r past) (reads_of e.word) 16) (latest (λ r. written w r other) (reads_of n) 16)) word
          (latest_related R Z (λ r. written v r past) (λ r. written w r other) (reads_of e.word) 16 closed.joined h.ends);
    }

-- one more time in front of related ones
more_related : (R : ℕ → ℕ → Type 0) (n a b : ℕ) (xs ys : List ℕ) → R a b → ((k : ℕ) → k < n → R (slice_index xs k) (slice_index ys k)) →
    (k : ℕ) → k < n → R (slice_index (a ∷ xs) k) (slice_index (b ∷ ys) k)
more_related R n a b xs ys here h zero lt = here
more_related R n a b xs ys here h (suc k) lt = h k (omega arith)

pub linked_step : (R Z I : ℕ → ℕ → Type 0) (m : Machine) (v w : List ℕ) (past other : List Done) (i j : Done) → Closed R Z I →
    Linked m R Z v w past other → RelatedTimes R i.times j.times → RelatedEntries m I i.entry j.entry → Linked m R Z v w (i ∷ past) (j ∷ other)
linked_step R Z I m v w past other i j closed h t s =
    let held : ℕ → ℕ = λ word. (timing_of m (unit_of word)).occupancy + (transfers_of word - 1) in
    record {
      f = t.f;
      fe = more_related R m.width i.times.fe j.times.fe (fe_back v past) (fe_back w other) t.fe h.fe;
      d = more_related R m.queue i.times.d j.times.d (d_back v past) (d_back w other) t.d h.d;
      x = more_related R m.width i.times.x j.times.x (x_back v past) (x_back w other) t.x h.x;
      jump = subst (λ (b : Bool). Z (when i.entry.taken i.times.xe) (when b j.times.xe)) s.taken
          (when_related Z i.entry.taken _ _ closed.joined.nothing (closed.joined.weak _ _ t.xe));
      c = more_related R m.width i.times.c j.times.c (c_back v past) (c_back w other) t.c h.c;
      free = λ u. subst (λ (word : ℕ). R (cond (same_unit (unit_of i.entry.word) u) (i.times.x + held i.entry.word) (unit_free m v u past)) (cond (same_unit (unit_of word) u) (j.times.x + held word) (unit_free m w u other))) s.word
          (chosen_related R (same_unit (unit_of i.entry.word) u) _ _ _ _ (closed.later _ _ _ _ (closed.same (held i.entry.word)) t.x) (h.free u));
      ends = λ r lt. subst (λ (word : ℕ). R (cond (is_in (writes_of i.entry.word) r) i.times.xe (written v r past)) (cond (is_in (writes_of word) r) j.times.xe (written w r other))) s.word
          (chosen_related R (is_in (writes_of i.entry.word) r) _ _ _ _ t.xe (h.ends r lt));
    }

-- what is kept along two runs
pub record LinkedRuns (m : Machine) (R Z : ℕ → ℕ → Type 0) (v w : List ℕ) (past other : List Done) : Type 0 where
  pub times : Pairwise (λ i j. RelatedTimes R i.times j.times) past other
  pub link : Linked m R Z v w past other

step_linked : (R Z I : ℕ → ℕ → Type 0) (m : Machine) (v w : List ℕ) (past other : List Done) (e g : Entry) → Closed R Z I → IsMachine m →
    LinkedRuns m R Z v w past other → RelatedEntries m I e g →
    LinkedRuns m R Z v w (record { entry = e; times = next m v past e } ∷ past) (record { entry = g; times = next m w other g } ∷ other)
step_linked R Z I m v w past other e g closed ok h s =
    let moved : RelatedTimes R (next m v past e) (next m w other g) =
    rw (next_timed m v past e, next_timed m w other g) (timed_related R Z I m e g _ _ closed s (linked_readings R Z I m v w past other e g closed ok h.link s.word)) in
    record {
      times = (moved, h.times);
      link = linked_step R Z I m v w past other (record { entry = e; times = next m v past e }) (record { entry = g; times = next m w other g }) closed h.link moved s;
    }

pub linked_runs : (R Z I : ℕ → ℕ → Type 0) (m : Machine) (v w : List ℕ) (es gs : List Entry) → Closed R Z I → IsMachine m →
    Linked m R Z v w [] [] → Pairwise (RelatedEntries m I) es gs → LinkedRuns m R Z v w (past_of m v es) (past_of m w gs)
unfolding past_of
linked_runs R Z I m v w [] [] closed ok h s = record { times = tt; link = h }
linked_runs R Z I m v w (e ∷ es) (g ∷ gs) closed ok h s =
    step_linked R Z I m v w (past_of m v es) (past_of m w gs) e g closed ok (linked_runs R Z I m v w es gs closed ok h s.1) s.0
linked_runs R Z I m v w [] (g ∷ gs) closed ok h s = absurd s
linked_runs R Z I m v w (e ∷ es) [] closed ok h s = absurd s

-- the slot of depth 2 is used where the width is 2
wide : (w : ℕ) → 1 < w → IsTrue (not (leb w 1) && true)
wide zero h = absurd (omega (arith, h))
wide (suc zero) h = absurd (omega (arith, h))
wide (suc (suc w)) h = rw (above_one w) refl
  where
    above_one : (w : ℕ) → leb (suc (suc w)) 1 ≡ false
    above_one w = grind (arith, nat_tests)

-- a slot of decoding is used where the queue reaches to it
reached : (k q : ℕ) → k ≤ q + 2 → IsTrue (not (not (leb k (q + 2))))
reached k q h = rw (le-leb k (q + 2) h) refl

pair_start : (R : ℕ → ℕ → Type 0) (n a b c d : ℕ) → n ≤ 2 → R a b → (1 < n → R c d) → (k : ℕ) → k < n → R (slice_index (a ∷ c ∷ []) k) (slice_index (b ∷ d ∷ []) k)
pair_start R n a b c d small h i zero lt = h
pair_start R n a b c d small h i (suc zero) lt = i lt
pair_start R n a b c d small h i (suc (suc k)) lt = absurd (omega (arith, lt, small))

d_start : (m : Machine) (t : ℕ) (later slots : List ℕ) → IsMachine m → IsLaterBy m t later slots → (k : ℕ) → k < m.queue →
    Exactly t (slice_index (d_back later []) k) (slice_index (d_back slots []) k)
d_start m t later slots ok h zero lt = h.each 3 (reached 3 m.queue (omega (arith, lt)))
d_start m t later slots ok h (suc zero) lt = h.each 4 (reached 4 m.queue (omega (arith, lt)))
d_start m t later slots ok h (suc (suc zero)) lt = h.each 5 (reached 5 m.queue (omega (arith, lt)))
d_start m t later slots ok h (suc (suc (suc zero))) lt = h.each 6 (reached 6 m.queue (omega (arith, lt)))
d_start m t later slots ok h (suc (suc (suc (suc zero)))) lt = h.each 7 (reached 7 m.queue (omega (arith, lt)))
d_start m t later slots ok h (suc (suc (suc (suc (suc zero))))) lt = h.each 8 (reached 8 m.queue (omega (arith, lt)))
d_start m t later slots ok h (suc (suc (suc (suc (suc (suc zero)))))) lt = h.each 9 (reached 9 m.queue (omega (arith, lt)))
d_start m t later slots ok h (suc (suc (suc (suc (suc (suc (suc zero))))))) lt = h.each 10 (reached 10 m.queue (omega (arith, lt)))
d_start m t later slots ok h (suc (suc (suc (suc (suc (suc (suc (suc k)))))))) lt = absurd (omega (arith, lt, ok.queue.1))

ends_start : (m : Machine) (t : ℕ) (later slots : List ℕ) → IsLaterBy m t later slots → (r : ℕ) → r < 16 → Exactly t (slot later (19 + r)) (slot slots (19 + r))
ends_start m t later slots h zero lt = h.each 19 refl
ends_start m t later slots h (suc zero) lt = h.each 20 refl
ends_start m t later slots h (suc (suc zero)) lt = h.each 21 refl
ends_start m t later slots h (suc (suc (suc zero))) lt = h.each 22 refl
ends_start m t later slots h (suc (suc (suc (suc zero)))) lt = h.each 23 refl
ends_start m t later slots h (suc (suc (suc (suc (suc zero))))) lt = h.each 24 refl
ends_start m t later slots h (suc (suc (suc (suc (suc (suc zero)))))) lt = h.each 25 refl
ends_start m t later slots h (suc (suc (suc (suc (suc (suc (suc zero))))))) lt = h.each 26 refl
ends_start m t later slots h (suc (suc (suc (suc (suc (suc (suc (suc zero)))))))) lt = h.each 27 refl
ends_start m t later slots h (suc (suc (suc (suc (suc (suc (suc (suc (suc zero))))))))) lt = h.each 28 refl
ends_start m t later slots h (suc (suc (suc (suc (suc (suc (suc (suc (suc (suc zero)))))))))) lt = h.each 29 refl
ends_start m t later slots h (suc (suc (suc (suc (suc (suc (suc (suc (suc (suc (suc zero))))))))))) lt = h.each 30 refl
ends_start m t later slots h (suc (suc (suc (suc (suc (suc (suc (suc (suc (suc (suc (suc zero)))))))))))) lt = h.each 31 refl
ends_start m t later slots h (suc (suc (suc (suc (suc (suc (suc (suc (suc (suc (suc (suc (suc zero))))))))))))) lt = h.each 32 refl
ends_start m t later slots h (suc (suc (suc (suc (suc (suc (suc (suc (suc (suc (suc (suc (suc (suc zero)))))))))))))) lt = h.each 33 refl
ends_start m t later slots h (suc (suc (suc (suc (suc (suc (suc (suc (suc (suc (suc (suc (suc (suc (suc zero))))))))))))))) lt = h.each 34 refl
ends_start m t later slots h (suc (suc (suc (suc (suc (suc (suc (suc (suc (suc (suc (suc (suc (suc (suc (suc k)))))))))))))))) lt = absurd (omega (arith, lt))

free_start : (m : Machine) (t : ℕ) (later slots : List ℕ) → IsLaterBy m t later slots → (unit : UnitKind) → Exactly t (unit_free m later unit []) (unit_free m slots unit [])
free_start m t later slots h Alu = h.each 16 refl
free_start m t later slots h Mul = h.each 17 refl
free_start m t later slots h Mem = h.each 18 refl

pub linked_start : (m : Machine) (t : ℕ) (later slots : List ℕ) → IsMachine m → IsLaterBy m t later slots →
    Linked m (Exactly t) (ExactlyOrNothing t) later slots [] []
linked_start m t later slots ok h = record {
  f = h.each 0 refl;
  fe = pair_start (Exactly t) m.width _ _ _ _ ok.width.1 (h.each 1 refl) (λ w. h.each 2 (wide m.width w));
  d = d_start m t later slots ok h;
  x = pair_start (Exactly t) m.width _ _ _ _ ok.width.1 (h.each 11 refl) (λ w. h.each 12 (wide m.width w));
  jump = (exactly_closed t).joined.weak _ _ (h.each 13 refl);
  c = pair_start (Exactly t) m.width _ _ _ _ ok.width.1 (h.each 14 refl) (λ w. h.each 15 (wide m.width w));
  free = free_start m t later slots h;
  ends = ends_start m t later slots h;
}

same_entries : (m : Machine) (es : List Entry) → Pairwise (RelatedEntries m Same) es es
same_entries m [] = tt
same_entries m (e ∷ es) = (record { word = refl; taken = refl; miss = refl; latency = refl }, same_entries m es)

exact_times : (t : ℕ) (a b : Times) → RelatedTimes (Exactly t) a b → AreLaterBy t a b
exact_times t a b h = record { f = h.f; fe = h.fe; d = h.d; x = h.x; xe = h.xe; c = h.c }

pub shift_moves_times : ShiftMovesTimes
shift_moves_times m t later slots entries ok h =
    pairwise_map (λ i j. RelatedTimes (Exactly t) i.times j.times) (λ i j. AreLaterBy t i.times j.times) (λ i j. exact_times t i.times j.times)
    (past_of m later entries) (past_of m slots entries)
    (linked_runs (Exactly t) (ExactlyOrNothing t) Same m later slots entries entries (exactly_closed t) ok (linked_start m t later slots ok h) (same_entries m entries)).times

pub shift_moves_completion : ShiftMovesCompletion
unfolding past_of
shift_moves_completion m t later slots e entries ok h = (shift_moves_times m t later slots (e ∷ entries) ok h).0.c
