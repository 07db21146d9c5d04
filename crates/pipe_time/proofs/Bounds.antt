-- One instruction raises the greatest slot only little.
use Rattle.std.proofs.Common.{ℕ, zero, suc, ◌+◌, ◌-◌, ◌≤◌, Bool, true, false, List, [], ◌∷◌, Some, None, arith, cond, leb}
use Rattle.std.specs.Option.{option_map_or}
use Rattle.std.proofs.Math.Nat.{max-le}
use Rattle.std.specs.List.{AllByRecursion}
use Rattle.wx_base.specs.declared.machine.Machine.{Machine}
use Rattle.wx_base.specs.declared.machine.UnitKind.{UnitKind}
use Rattle.wx_base.specs.declared.machine.UnitKind.TheVariants.{Alu, Mul, Mem}
use Rattle.wx_base.specs.declared.times.Times.{Times}
use Rattle.wx_base.specs.Bits.{is_in}
use Rattle.wx_base.specs.Machine.{IsMachine, IsTiming, timing_of}
use Rattle.std.proofs.lemmas.Nat.{ones-le}
use Rattle.wx_base.specs.Instruction.{Kind, Block, block_list, kind_of, transfers_by, unit_of, transfers_of, reads_of, writes_of}
use Rattle.wx_base.specs.Recurrence.{Entry, Done, slot, ago, kept, when, next, window, f_of, latest, fe_back, d_back, x_back, c_back, unit_free, latency_of, occupancy_of, same_unit, written}
use Rattle.wx_base.specs.Vector.{AreWithin}
use Rattle.pipe_time.specs.Growth.{TimesWithin, TimesGrowLittle, SlotsGrowLittle}
use Rattle.pipe_time.proofs.Cases.{◌▸◌, width_cases, queue_cases}
use Rattle.pipe_time.proofs.Readings.{Readings, readings, timed, next_timed}

few_by : (word : ℕ) (kind : Kind) → transfers_by word kind ≤ 16
few_by word Block = ones-le 16 (block_list word) (omega arith)
few_by word _ = omega arith

-- no instruction transfers more than sixteen registers
pub few_transfers : (word : ℕ) → transfers_of word ≤ 16
unfolding transfers_of
few_transfers word = elim (kind_of word) as (λ found. option_map_or (transfers_by word) found 1 ≤ 16) [ None ↦ omega arith | Some kind ↦ few_by word kind ]

pub timing_in_range : (m : Machine) (unit : UnitKind) → IsMachine m → IsTiming (timing_of m unit)
timing_in_range m Alu ok = ok.alu
timing_in_range m Mul ok = ok.mul
timing_in_range m Mem ok = ok.mem

pub when_within : (test : Bool) (n bound : ℕ) → n ≤ bound → when test n ≤ bound
when_within true n bound h = h
when_within false n bound h = omega arith

latency_sum : (a b c : ℕ) → a ≤ 1000 → b ≤ 16 → c ≤ 1000 → a + (b - 1) + c ≤ 2015
latency_sum a b c h i j = omega arith

pub latency_within : (m : Machine) (e : Entry) → IsMachine m → latency_of m e ≤ 2015
latency_within m e ok =
    let unit = timing_in_range m (unit_of e.word) ok in
    latency_sum _ _ _ unit.latency.1 (few_transfers e.word) (when_within e.slow _ 1000 unit.slow)

occupancy_sum : (a b : ℕ) → a ≤ 1000 → b ≤ 16 → a + (b - 1) ≤ 1015
occupancy_sum a b h i = omega arith

pub occupancy_within : (m : Machine) (e : Entry) → IsMachine m → occupancy_of m e ≤ 1015
occupancy_within m e ok = occupancy_sum _ _ (timing_in_range m (unit_of e.word) ok).occupancy.1 (few_transfers e.word)

-- all readings are at most the bound
pub record ReadingsWithin (bound : ℕ) (r : Readings) : Type 0 where
  pub f : r.f ≤ bound
  pub fe : r.fe ≤ bound
  pub fe_far : r.fe_far ≤ bound
  pub d : r.d ≤ bound
  pub d_far : r.d_far ≤ bound
  pub x : r.x ≤ bound
  pub x_far : r.x_far ≤ bound
  pub jump : r.jump ≤ bound
  pub c : r.c ≤ bound
  pub c_far : r.c_far ≤ bound
  pub free : r.free ≤ bound
  pub ready : r.ready ≤ bound

latest_within : (time : ℕ → ℕ) (set n bound : ℕ) → ((r : ℕ) → time r ≤ bound) → latest time set n ≤ bound
unfolding latest
latest_within time set zero bound h = omega arith
latest_within time set (suc n) bound h = max-le (latest_within time set n bound h) (when_within (is_in set n) (time n) bound (h n))

free_within : (m : Machine) (slots : List ℕ) (unit : UnitKind) (bound : ℕ) → AreWithin bound slots → unit_free m slots unit [] ≤ bound
free_within m slots Alu bound h = h.each 16
free_within m slots Mul bound h = h.each 17
free_within m slots Mem bound h = h.each 18

pub readings_within : (m : Machine) (bound : ℕ) (slots : List ℕ) (e : Entry) → IsMachine m → AreWithin bound slots → ReadingsWithin bound (readings m slots [] e)
readings_within m bound slots e ok h = record {
  f = h.each 0;
  fe = h.each 1;
  fe_far = width_cases (λ w. ago w (fe_back slots []) ≤ bound) (h.each 1) (h.each 2) m.width ok.width;
  d = h.each 3;
  d_far = queue_cases (λ q. ago q (d_back slots []) ≤ bound) (h.each 3) (h.each 4) (h.each 5) (h.each 6) (h.each 7) (h.each 8) (h.each 9) (h.each 10) m.queue ok.queue;
  x = h.each 11;
  x_far = width_cases (λ w. ago w (x_back slots []) ≤ bound) (h.each 11) (h.each 12) m.width ok.width;
  jump = h.each 13;
  c = h.each 14;
  c_far = width_cases (λ w. ago w (c_back slots []) ≤ bound) (h.each 14) (h.each 15) m.width ok.width;
  free = free_within m slots (unit_of e.word) bound h;
  ready = latest_within (λ r. written slots r []) (reads_of e.word) 16 bound (λ r. h.each (19 + r));
}

above : (a b c : ℕ) → a ≤ b → a ≤ b + c
above a b c h = omega arith

fetched : (f hit miss bound : ℕ) → f ≤ bound → hit ≤ 1000 → miss ≤ 1000 → f + hit + miss ≤ bound + 2000
fetched f hit miss bound p q r = omega arith

one_more : (d bound n : ℕ) → d ≤ bound + n → d + 1 ≤ bound + (n + 1)
one_more d bound n p = omega arith

ended : (x l bound n k : ℕ) → x ≤ bound + n → l ≤ k → x + l ≤ bound + (n + k)
ended x l bound n k p q = omega arith

up : (a b c d : ℕ) → a ≤ b + c → a ≤ b + (c + d)
up a b c d h = omega arith

fits_free : (x o bound : ℕ) → x ≤ bound + 2001 → o ≤ 1015 → x + o ≤ bound + 4016
fits_free x o bound p q = omega arith

one_after : (c bound : ℕ) → c ≤ bound → c + 1 ≤ bound + 4016
one_after c bound h = omega arith

-- how late each of the six times can be
pub record Steps (bound : ℕ) (t : Times) : Type 0 where
  pub f : t.f ≤ bound
  pub fe : t.fe ≤ bound + 2000
  pub d : t.d ≤ bound + 2000
  pub x : t.x ≤ bound + 2001
  pub xe : t.xe ≤ bound + 4016
  pub c : t.c ≤ bound + 4016

pub timed_steps : (m : Machine) (e : Entry) (r : Readings) (bound : ℕ) → IsMachine m → ReadingsWithin bound r → Steps bound (timed m e r)
timed_steps m e r bound ok h =
    let f = max-le (max-le h.f h.fe_far) (max-le h.d_far h.jump) in
    let fe = max-le (fetched _ _ _ bound f ok.hit.1 (when_within e.miss m.miss 1000 ok.miss)) (above _ _ 2000 h.fe) in
    let d = max-le (max-le fe (above _ _ 2000 h.d)) (above _ _ 2000 h.x_far) in
    let x = max-le (max-le (max-le (one_more _ _ _ d) (above _ _ 2001 h.x)) (one_more _ _ 2000 (above _ _ 2000 h.x_far))) (max-le (above _ _ 2001 h.free) (above _ _ 2001 h.ready)) in
    let xe = ended _ _ bound 2001 2015 x (latency_within m e ok) in
    record { f = f; fe = fe; d = d; x = x; xe = xe; c = max-le (max-le xe (above _ _ 4016 h.c)) (one_after _ _ h.c_far) }

pub times_grow_little : TimesGrowLittle
times_grow_little m bound slots e ok h =
    let s = timed_steps m e (readings m slots [] e) bound ok (readings_within m bound slots e ok h) in
    rw (next_timed m slots [] e) (record { f = above _ _ 4016 s.f; fe = up _ _ 2000 2016 s.fe; d = up _ _ 2000 2016 s.d; x = up _ _ 2001 2015 s.x; xe = s.xe; c = s.c })

-- a bound on each element of a list is one on each of its slots
pub each_within : (bound : ℕ) (slots : List ℕ) → AllByRecursion (λ n. n ≤ bound) slots → (k : ℕ) → slot slots k ≤ bound
each_within bound [] all k = omega arith
each_within bound (n ∷ slots) all zero = all.0
each_within bound (n ∷ slots) all (suc k) = each_within bound slots all.1 k

chosen_within : (test : Bool) (a b bound : ℕ) → a ≤ bound → b ≤ bound → cond test a b ≤ bound
chosen_within true a b bound h i = h
chosen_within false a b bound h i = i

-- the slots behind one instruction whose times are within the bound, and that occupies its unit no longer
pub window_within : (m : Machine) (bound : ℕ) (slots : List ℕ) (i : Done) → AreWithin bound slots → TimesWithin bound i.times →
    i.times.x + occupancy_of m i.entry ≤ bound → AreWithin bound (window m slots (i ∷ []))
unfolding window
window_within m bound slots i h t free =
    let old = h.each in
    let keep : (n reach time : ℕ) → time ≤ bound → kept n reach time ≤ bound = λ n reach time p. when_within (leb n reach) time bound p in
    let unit : (u : UnitKind) (k : ℕ) → cond (same_unit (unit_of i.entry.word) u) (i.times.x + occupancy_of m i.entry) (slot slots k) ≤ bound =
    λ u k. chosen_within (same_unit (unit_of i.entry.word) u) _ _ bound free (old k) in
    let write : (r : ℕ) (k : ℕ) → cond (is_in (writes_of i.entry.word) r) i.times.xe (slot slots k) ≤ bound =
    λ r k. chosen_within (is_in (writes_of i.entry.word) r) _ _ bound t.xe (old k) in
    record {
      each = each_within bound (window m slots (i ∷ [])) (
          t.f ▸ t.fe ▸ keep 2 m.width _ (old 1) ▸ keep 1 m.queue _ t.d ▸ keep 2 m.queue _ (old 3) ▸
          keep 3 m.queue _ (old 4) ▸ keep 4 m.queue _ (old 5) ▸ keep 5 m.queue _ (old 6) ▸ keep 6 m.queue _ (old 7) ▸
          keep 7 m.queue _ (old 8) ▸ keep 8 m.queue _ (old 9) ▸ t.x ▸ keep 2 m.width _ (old 11) ▸
          when_within i.entry.taken i.times.xe bound t.xe ▸ t.c ▸ keep 2 m.width _ (old 14) ▸ unit Alu 16 ▸
          unit Mul 17 ▸ unit Mem 18 ▸ write 0 19 ▸ write 1 20 ▸ write 2 21 ▸ write 3 22 ▸ write 4 23 ▸ write 5 24 ▸
          write 6 25 ▸ write 7 26 ▸ write 8 27 ▸ write 9 28 ▸ write 10 29 ▸ write 11 30 ▸ write 12 31 ▸ write 13 32 ▸
          write 14 33 ▸ write 15 34 ▸ tt);
    }

pub slots_grow_little : SlotsGrowLittle
slots_grow_little m bound slots e ok h =
    let s = timed_steps m e (readings m slots [] e) bound ok (readings_within m bound slots e ok h) in
    let t = times_grow_little m bound slots e ok h in
    let free : (next m slots [] e).x + occupancy_of m e ≤ bound + 4016 =
    rw (next_timed m slots [] e) (fits_free _ _ bound s.x (occupancy_within m e ok)) in
    window_within m (bound + 4016) slots (record { entry = e; times = next m slots [] e }) (record { each = λ k. above _ _ 4016 (h.each k) }) t free

-- the next fetch begins no later than the latest slot
pub base_within : (m : Machine) (bound : ℕ) (slots : List ℕ) → IsMachine m → AreWithin bound slots → f_of m slots [] ≤ bound
base_within m bound slots ok h =
    max-le (max-le (h.each 0) (width_cases (λ w. ago w (fe_back slots []) ≤ bound) (h.each 1) (h.each 2) m.width ok.width))
    (max-le (queue_cases (λ q. ago q (d_back slots []) ≤ bound) (h.each 3) (h.each 4) (h.each 5) (h.each 6) (h.each 7) (h.each 8) (h.each 9) (h.each 10) m.queue ok.queue) (h.each 13))
