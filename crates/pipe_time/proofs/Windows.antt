-- A window holds what its past holds.
use Rattle.std.proofs.Common.{◌≡◌, ℕ, zero, suc, ◌+◌, Bool, true, false, List, [], ◌∷◌, ◌++◌, refl, sym, ◌∙◌, ap, arith, cond, max, map, reverse, append_assoc}
use Rattle.wx_base.specs.declared.machine.Machine.{Machine}
use Rattle.wx_base.specs.declared.machine.UnitKind.{UnitKind}
use Rattle.wx_base.specs.declared.machine.UnitKind.TheVariants.{Alu, Mul, Mem}
use Rattle.wx_base.specs.declared.times.Times.{Times}
use Rattle.wx_base.specs.Machine.{IsMachine}
use Rattle.std.proofs.lemmas.List.{append-nil, reverse-append}
use Rattle.wx_base.specs.Bits.{is_in}
use Rattle.wx_base.specs.Vector.{zero_slots}
use Rattle.wx_base.specs.Instruction.{unit_of, reads_of, writes_of}
use Rattle.wx_base.specs.Recurrence.{Entry, Done, ago, kept, when, next, window, latest, past_of, f_back, fe_back, d_back, x_back, c_back, last_jump, unit_free, operands_ready, occupancy_of, same_unit, written}
use Rattle.pipe_time.specs.Windows.{WindowGivesTimes, WindowGivesWindow, ZeroIsNothing, NothingIsZero, ZeroStays, SteppingIsTheRecurrence, stepped, times_in_order}
use Rattle.pipe_time.proofs.Cases.{ago_width, ago_queue, kept_once, kept_on, zero_slot}
use Rattle.pipe_time.proofs.Readings.{readings, timed, next_timed}

pub unit_read : (m : Machine) (start : List ℕ) (past : List Done) (unit : UnitKind) → unit_free m (window m start past) unit [] ≡ unit_free m start unit past
unfolding window
unit_read m start past Alu = refl
unit_read m start past Mul = refl
unit_read m start past Mem = refl

pub operands_read : (m : Machine) (start : List ℕ) (past : List Done) (e : Entry) → operands_ready (window m start past) [] e ≡ operands_ready start past e
unfolding window latest
operands_read m start past e = refl

seven : {A : Type 0} (g : ℕ → ℕ → ℕ → ℕ → ℕ → ℕ → ℕ → A) (a b c d e f h a' b' c' d' e' f' h' : ℕ) → a ≡ a' → b ≡ b' → c ≡ c' → d ≡ d' → e ≡ e' → f ≡ f' → h ≡ h' → g a b c d e f h ≡ g a' b' c' d' e' f' h'
seven g a b c d e f h a' b' c' d' e' f' h' p q r s t u v = cc

pub readings_same : (m : Machine) (start : List ℕ) (past : List Done) (e : Entry) → IsMachine m → readings m (window m start past) [] e ≡ readings m start past e
unfolding window
readings_same m start past e ok =
    seven (λ fe_far d_far x_far c_far free ready d. record {
      f = ago 1 (f_back start past);
      fe = ago 1 (fe_back start past);
      fe_far = fe_far;
      d = d;
      d_far = d_far;
      x = ago 1 (x_back start past);
      x_far = x_far;
      jump = last_jump start past;
      c = ago 1 (c_back start past);
      c_far = c_far;
      free = free;
      ready = ready;
    })
    _ _ _ _ _ _ _ _ _ _ _ _ _ _
    (ago_width (fe_back start past) m.width ok.width) (ago_queue (d_back start past) m.queue ok.queue)
    (ago_width (x_back start past) m.width ok.width) (ago_width (c_back start past) m.width ok.width)
    (unit_read m start past (unit_of e.word)) (operands_read m start past e)
    (kept_on 1 m.queue (ago 1 (d_back start past)) ok.queue.0)

pub window_gives_times : WindowGivesTimes
window_gives_times m start past e ok =
    next_timed m (window m start past) [] e ∙ ap (timed m e) (readings_same m start past e ok) ∙ sym (next_timed m start past e)

-- the slots from x on, which need no care
slots_behind : Machine → List ℕ → List Done → Done → List ℕ
slots_behind m start past i =
    let p = i ∷ past in
    i.times.x ∷ kept 2 m.width (ago 1 (x_back start past))
    ∷ when i.entry.taken i.times.xe
    ∷ i.times.c ∷ kept 2 m.width (ago 1 (c_back start past))
    ∷ unit_free m start Alu p ∷ unit_free m start Mul p ∷ unit_free m start Mem p
    ∷ written start 0 p ∷ written start 1 p ∷ written start 2 p ∷ written start 3 p ∷ written start 4 p ∷ written start 5 p
    ∷ written start 6 p ∷ written start 7 p ∷ written start 8 p ∷ written start 9 p ∷ written start 10 p ∷ written start 11 p
    ∷ written start 12 p ∷ written start 13 p ∷ written start 14 p ∷ written start 15 p ∷ []

pub window_gives_window : WindowGivesWindow
unfolding window slots_behind
window_gives_window m start past i ok =
    let d = d_back start past in
    seven (λ a b c d e f g.
    i.times.f ∷ i.times.fe ∷ kept 2 m.width (ago 1 (fe_back start past)) ∷ kept 1 m.queue i.times.d ∷ a ∷ b ∷ c ∷ d ∷ e ∷ f ∷ g
    ∷ slots_behind m start past i)
    _ _ _ _ _ _ _ _ _ _ _ _ _ _
    (kept_once 1 2 m.queue (ago 1 d) (omega arith)) (kept_once 2 3 m.queue (ago 2 d) (omega arith))
    (kept_once 3 4 m.queue (ago 3 d) (omega arith)) (kept_once 4 5 m.queue (ago 4 d) (omega arith))
    (kept_once 5 6 m.queue (ago 5 d) (omega arith)) (kept_once 6 7 m.queue (ago 6 d) (omega arith))
    (kept_once 7 8 m.queue (ago 7 d) (omega arith))

-- a choice between equals
same_both : (test : Bool) → cond {A = ℕ} test 0 0 ≡ 0
same_both true = refl
same_both false = refl

pub nothing_is_zero : NothingIsZero
unfolding window
nothing_is_zero m = simp same_both

pub zero_stays : ZeroStays
unfolding window
zero_stays m = simp same_both

free_same : (m : Machine) (unit : UnitKind) (past : List Done) → unit_free m zero_slots unit past ≡ unit_free m [] unit past
free_same m Alu [] = refl
free_same m Mul [] = refl
free_same m Mem [] = refl
free_same m unit (i ∷ past) = ap (λ n. cond (same_unit (unit_of i.entry.word) unit) (i.times.x + occupancy_of m i.entry) n) (free_same m unit past)

written_same : (r : ℕ) (past : List Done) → written zero_slots r past ≡ written [] r past
written_same r [] = zero_slot (19 + r)
written_same r (i ∷ past) = ap (λ n. cond (is_in (writes_of i.entry.word) r) i.times.xe n) (written_same r past)

latest_same : (a b : ℕ → ℕ) (set n : ℕ) → ((r : ℕ) → a r ≡ b r) → latest a set n ≡ latest b set n
unfolding latest
latest_same a b set zero same = refl
latest_same a b set (suc n) same =
    ap (λ k. max (latest a set n) (when (is_in set n) k)) (same n)
    ∙ ap (λ k. max k (when (is_in set n) (b n))) (latest_same a b set n same)

jump_same : (past : List Done) → last_jump zero_slots past ≡ last_jump [] past
jump_same [] = refl
jump_same (i ∷ past) = refl

three : {A : Type 0} (g : ℕ → ℕ → ℕ → A) (a b c a' b' c' : ℕ) → a ≡ a' → b ≡ b' → c ≡ c' → g a b c ≡ g a' b' c'
three g a b c a' b' c' p q r = cc

pub zero_is_nothing : ZeroIsNothing
zero_is_nothing m past e =
    next_timed m zero_slots past e
    ∙ three (λ jump free ready. timed m e (record (readings m [] past e) { jump = jump; free = free; ready = ready })) _ _ _ _ _ _
    (jump_same past) (free_same m (unit_of e.word) past)
    (latest_same (λ r. written zero_slots r past) (λ r. written [] r past) (reads_of e.word) 16 (λ r. written_same r past))
    ∙ sym (next_timed m [] past e)

reverse-cons : {A : Type 0} (x : A) (xs : List A) → reverse (x ∷ xs) ≡ reverse xs ++ x ∷ []
reverse-cons x xs = reverse-append (x ∷ []) xs

-- Stepping from the window on a past goes on as the recurrence does behind that past.
pub stepped_from : (m : Machine) (start : List ℕ) (es done : List Entry) → IsMachine m →
    times_in_order (past_of m start done) ++ stepped m (window m start (past_of m start done)) es ≡ times_in_order (past_of m start (reverse es ++ done))
unfolding past_of
stepped_from m start [] done ok = append-nil (times_in_order (past_of m start done))
stepped_from m start (e ∷ es) done ok =
    let past = past_of m start done in
    let before = map (λ i. i.times) past in
    let t = next m start past e in
    let i : Done = record { entry = e; times = t } in
    ap (λ (u : Times). reverse before ++ u ∷ stepped m (window m (window m start past) (record { entry = e; times = u } ∷ [])) es)
    (window_gives_times m start past e ok)
    ∙ ap (λ (w : List ℕ). reverse before ++ t ∷ stepped m w es) (window_gives_window m start past i ok)
    ∙ sym (append_assoc (reverse before) (t ∷ []) (stepped m (window m start (i ∷ past)) es))
    ∙ ap (λ (ts : List Times). ts ++ stepped m (window m start (i ∷ past)) es) (sym (reverse-cons t before))
    ∙ stepped_from m start es (e ∷ done) ok
    ∙ ap (λ (all : List Entry). times_in_order (past_of m start all)) (sym (append_assoc (reverse es) (e ∷ []) done) ∙ ap (λ (r : List Entry). r ++ done) (sym (reverse-cons e es)))

pub stepping_is_the_recurrence : SteppingIsTheRecurrence
unfolding past_of
stepping_is_the_recurrence m es ok =
    ap (λ (w : List ℕ). stepped m w es) (sym (nothing_is_zero m))
    ∙ stepped_from m [] es [] ok
    ∙ ap (λ (all : List Entry). times_in_order (past_of m [] all)) (append-nil (reverse es))
