-- The laws of rebase, from those of delay, of raised slots and of shift.
use Rattle.std.proofs.Common.{◌≡◌, ℕ, zero, suc, ◌+◌, ◌-◌, ◌<◌, ◌≤◌, Bool, true, false, IsTrue, List, [], ◌∷◌, length, map, max, refl, sym, ap, subst, ◌∙◌, arith}
use Rattle.std.proofs.Math.Nat.{max-le}
use Rattle.std.proofs.lemmas.Bool.Decides.{nat_tests}
use Rattle.std.proofs.lemmas.List.{length-map}
use Rattle.wx_base.specs.declared.machine.Machine.{Machine}
use Rattle.wx_base.specs.Blocks.{greatest_slot, base_of, cost_of, rebased}
use Rattle.wx_base.specs.Machine.{IsMachine}
use Rattle.wx_base.specs.Recurrence.{Entry, Done, slot, ago, fe_back, d_back, f_of, past_of, completion}
use Rattle.wx_base.specs.Vector.{Covers, IsLaterBy, IsWorse, is_used, slot_count}
use Rattle.pipe_time.specs.Floor.{IsRaised}
use Rattle.pipe_time.specs.Order.{Pairwise, AreAtMostLater, AreLaterBy, SlotsAtMostLater}
use Rattle.pipe_time.specs.Rebase.{RebasedIsNoFaster, RebasedCompletesNoEarlier, RebasedIsExact, RebasedCompletionIsExact, RebasedPlusCostCovers, BaseIsMonotone, CostIsMonotone, CoverSurvives}
use Rattle.pipe_time.proofs.Cases.{width_cases, queue_cases}
use Rattle.pipe_time.proofs.Delay.{delay_is_passed_on, delay_of_completion}
use Rattle.pipe_time.proofs.Floors.{raising_changes_nothing}
use Rattle.pipe_time.proofs.Shift.{shift_moves_times, shift_moves_completion}

-- slot k of a list of which each element is changed
slot_map : (f : ℕ → ℕ) (xs : List ℕ) (k : ℕ) → f 0 ≡ 0 → slot (map f xs) k ≡ f (slot xs k)
slot_map f [] k h = sym h
slot_map f (x ∷ xs) zero h = refl
slot_map f (x ∷ xs) (suc k) h = slot_map f xs k h

slot_map_within : (f : ℕ → ℕ) (xs : List ℕ) (k : ℕ) → k < length xs → slot (map f xs) k ≡ f (slot xs k)
slot_map_within f [] k h = absurd (omega arith)
slot_map_within f (x ∷ xs) zero h = refl
slot_map_within f (x ∷ xs) (suc k) h = slot_map_within f xs k (omega arith)

slot_past : (xs : List ℕ) (k : ℕ) → length xs ≤ k → slot xs k ≡ 0
slot_past [] k h = refl
slot_past (x ∷ xs) zero h = absurd (omega arith)
slot_past (x ∷ xs) (suc k) h = slot_past xs k (omega arith)

off : (cost k : ℕ) (xs : List ℕ) → slot (map (λ t. t - cost) xs) k ≡ slot xs k - cost
off cost k xs = slot_map (λ t. t - cost) xs k (omega arith)

at_most_more : (a b c : ℕ) → b ≡ a - c → a ≤ b + c
at_most_more a b c h = omega arith

pub rebased_plus_cost_covers : RebasedPlusCostCovers
rebased_plus_cost_covers m slots = record {
  each = λ k. at_most_more (slot slots k) (slot (rebased m slots) k) (cost_of m slots) (off (cost_of m slots) k slots);
}

no_worse_than_itself : (es : List Entry) → Pairwise IsWorse es es
no_worse_than_itself [] = tt
no_worse_than_itself (e ∷ es) = (record { word = refl; taken = refl; miss = λ h. h; slow = λ h. h }, no_worse_than_itself es)

pub rebased_is_no_faster : RebasedIsNoFaster
rebased_is_no_faster m slots entries ok =
    delay_is_passed_on m (cost_of m slots) (rebased m slots) slots entries entries ok (rebased_plus_cost_covers m slots) (no_worse_than_itself entries)

pub rebased_completes_no_earlier : RebasedCompletesNoEarlier
rebased_completes_no_earlier m slots entries ok =
    delay_of_completion m (cost_of m slots) (rebased m slots) slots entries entries ok (rebased_plus_cost_covers m slots) (no_worse_than_itself entries)

-- the vector whose slots are raised to a floor
abbrev raised_to : ℕ → List ℕ → List ℕ
raised_to floor slots = map (λ t. max t floor) slots

abbrev raise : (floor : ℕ) (slots : List ℕ) (k : ℕ) → k < length slots → slot (raised_to floor slots) k ≡ max (slot slots k) floor
raise floor slots k h = slot_map_within (λ t. max t floor) slots k h

up_to : (a b floor : ℕ) → a ≡ max b floor → (b ≤ a) × (a ≤ max b floor)
up_to a b floor h = (omega arith, omega arith)

raised_slot : (floor : ℕ) (slots : List ℕ) (k : ℕ) → (slot slots k ≤ slot (raised_to floor slots) k) × (slot (raised_to floor slots) k ≤ max (slot slots k) floor)
raised_slot floor [] k = (omega arith, omega arith)
raised_slot floor (x ∷ xs) zero = (omega arith, omega arith)
raised_slot floor (x ∷ xs) (suc k) = raised_slot floor xs k

is_raised : (floor : ℕ) (slots : List ℕ) → IsRaised floor (raised_to floor slots) slots
is_raised floor slots = record { covers = λ k. (raised_slot floor slots k).0; within = λ k. (raised_slot floor slots k).1 }

later_by : (t k cost : ℕ) → max t cost ≡ (t - cost) + cost
later_by t k cost = omega arith

used_within : (m : Machine) (k : ℕ) → IsTrue (is_used m k) → k < 35
used_within m k h = grind (arith, nat_tests)

raised_is_later : (m : Machine) (cost : ℕ) (slots : List ℕ) → length slots ≡ slot_count → IsLaterBy m cost (raised_to cost slots) (map (λ t. t - cost) slots)
raised_is_later m cost slots long = record {
  each = λ k used.
      let l : k < 35 = used_within m k used in
      raise cost slots k (omega arith) ∙ (later_by (slot slots k) k cost ∙ ap (λ x. x + cost) (sym (off cost k slots)));
}

-- where the floor is the base, raised slots change no time
unmoved : (m : Machine) (cost : ℕ) (slots : List ℕ) (entries : List Entry) → IsMachine m → cost ≡ base_of m slots → past_of m (raised_to cost slots) entries ≡ past_of m slots entries
unmoved m cost slots entries ok is =
    raising_changes_nothing m (raised_to cost slots) slots entries ok (let P : ℕ → Type 0 = λ n. IsRaised n (raised_to cost slots) slots in subst P is (is_raised cost slots))

pub rebased_is_exact : RebasedIsExact
rebased_is_exact m slots entries ok long is =
    let cost = cost_of m slots in
    let P : List Done → Type 0 = λ past. Pairwise (λ i j. AreLaterBy cost i.times j.times) past (past_of m (rebased m slots) entries) in
    subst P (unmoved m cost slots entries ok is)
    (shift_moves_times m cost (raised_to cost slots) (rebased m slots) entries ok (raised_is_later m cost slots long))

-- the completion behind at least one instruction is that of the last, whatever the start
completion_nonempty : (m : Machine) (a b : List ℕ) (e : Entry) (es : List Entry) → past_of m a (e ∷ es) ≡ past_of m b (e ∷ es) → completion a (past_of m a (e ∷ es)) ≡ completion b (past_of m b (e ∷ es))
unfolding past_of
completion_nonempty m a b e es h = ap (completion a) h

pub rebased_completion_is_exact : RebasedCompletionIsExact
rebased_completion_is_exact m slots e entries ok long is =
    let cost = cost_of m slots in
    completion_nonempty m slots (raised_to cost slots) e entries (sym (unmoved m cost slots (e ∷ entries) ok is))
    ∙ shift_moves_completion m cost (raised_to cost slots) (rebased m slots) e entries ok (raised_is_later m cost slots long)

both : (a b c d : ℕ) → a ≤ b → c ≤ d → max a c ≤ max b d
both a b c d h i = omega arith

pub base_is_monotone : BaseIsMonotone
base_is_monotone m a b ok h =
    both _ _ _ _
    (both _ _ _ _ (h.each 0) (width_cases (λ w. ago w (fe_back b []) ≤ ago w (fe_back a [])) (h.each 1) (h.each 2) m.width ok.width))
    (both _ _ _ _ (queue_cases (λ q. ago q (d_back b []) ≤ ago q (d_back a [])) (h.each 3) (h.each 4) (h.each 5) (h.each 6) (h.each 7) (h.each 8) (h.each 9) (h.each 10) m.queue ok.queue) (h.each 13))

within_greatest : (xs : List ℕ) (k : ℕ) → slot xs k ≤ greatest_slot xs
unfolding greatest_slot
within_greatest [] k = omega arith
within_greatest (x ∷ xs) zero = omega arith
within_greatest (x ∷ xs) (suc k) = let h = within_greatest xs k in omega arith

greatest_within : (xs : List ℕ) (bound : ℕ) → ((k : ℕ) → slot xs k ≤ bound) → greatest_slot xs ≤ bound
unfolding greatest_slot
greatest_within [] bound h = omega arith
greatest_within (x ∷ xs) bound h = max-le (h 0) (greatest_within xs bound (λ k. h (suc k)))

at_most_both : (a b c : ℕ) → a ≤ b → b ≤ c → a ≤ c
at_most_both a b c h i = omega arith

less_off : (a b c : ℕ) → a ≤ b → a - c ≤ b - c
less_off a b c h = omega arith

pub cost_is_monotone : CostIsMonotone
cost_is_monotone m a b ok h =
    both (base_of m b) (base_of m a) (greatest_slot b - m.horizon) (greatest_slot a - m.horizon) (base_is_monotone m a b ok h)
    (less_off _ _ m.horizon (greatest_within b (greatest_slot a) (λ k. at_most_both _ _ _ (h.each k) (within_greatest a k))))

pub cover_survives : CoverSurvives
cover_survives m a b h = record { each = λ k. at_most_both _ _ _ (h.each k) ((rebased_plus_cost_covers m a).each k) }
