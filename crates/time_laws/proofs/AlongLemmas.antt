-- Along stretches the vectors cover the run's own, and bound its time.
use Rattle.std.proofs.Common.{◌≡◌, ◌≢◌, ℕ, suc, zero, ◌+◌, ◌≤◌, Bool, List, [], ◌∷◌, ◌++◌, take, drop, reverse, replicate, refl, sym, ap, ◌∙◌, arith}
use Rattle.std.proofs.lemmas.List.{take-append-drop, reverse-append}
use Rattle.wx_base.specs.declared.machine.Machine.{Machine}
use Rattle.wx_base.specs.Blocks.{cost_of, rebased, finish_from, with_jump}
use Rattle.wx_base.specs.Machine.{IsMachine}
use Rattle.wx_base.specs.Recurrence.{Entry, window, past_of, completion, slot}
use Rattle.wx_base.specs.Vector.{Covers, IsWorse, slot_count}
use Rattle.pipe_time.specs.Order.{Pairwise, SlotsAtMostLater, DelayIsPassedOn, DelayOfCompletion, DelayOfSlots}
use Rattle.pipe_time.specs.Rebase.{RebasedPlusCostCovers}
use Rattle.pipe_time.specs.Windows.{NothingIsZero, WindowsLeadOn, CompletionGoesOn, CompletionNeverFalls}
use Rattle.time_laws.specs.Stretches.{Stretch, jumping, backwards, executed_in, exit_of, GoAlong}
use Rattle.time_laws.specs.Stretches.GoAlong.{begins, goes}
use Rattle.time_laws.proofs.JumpLemmas.{end_of, jump_behind, jump_completes, window_is_long, jumps_later}

-- the same instructions are no worse
pub same : (es : List Entry) → Pairwise IsWorse es es
same [] = tt
same (e ∷ es) = (record { word = refl; taken = refl; miss = λ h. h; slow = λ h. h }, same es)

no_slot : (n k : ℕ) → slot (replicate n 0) k ≡ 0
no_slot zero k = refl
no_slot (suc n) zero = refl
no_slot (suc n) (suc k) = no_slot n k

-- what is first in a list that is not empty
data Parts (es : List Entry) : Type 0 where
  parts : (e : Entry) (rest : List Entry) → es ≡ e ∷ rest → Parts es

parts_of : (es : List Entry) → (es ≡ [] → ⊥) → Parts es
parts_of [] some = absurd (some refl)
parts_of (e ∷ rest) some = parts e rest refl

append_some : (xs : List Entry) (e : Entry) → xs ++ e ∷ [] ≡ [] → ⊥
append_some [] e h = cc
append_some (x ∷ xs) e h = cc

turned_some : (es : List Entry) → es ≢ [] → reverse es ≡ [] → ⊥
turned_some [] some h = some refl
turned_some (e ∷ es) some h = append_some (reverse es) e (sym (reverse-append (e ∷ []) es) ∙ h)

module _ (m : Machine) (ok : IsMachine m)
    (nothing : NothingIsZero) (lead_on : WindowsLeadOn) (goes_on : CompletionGoesOn) (never_falls : CompletionNeverFalls)
    (passed_on : DelayIsPassedOn) (of_completion : DelayOfCompletion) (of_slots : DelayOfSlots) (plus_cost : RebasedPlusCostCovers) where
  -- the run's own vector behind stretches
  abbrev pub own : List Stretch → List ℕ
  own stretches = window m [] (past_of m [] (executed_in stretches))

  -- the last of two runs through the same instructions ends at most so much later
  end_later : (t : ℕ) (v u : List ℕ) (e : Entry) (es : List Entry) → SlotsAtMostLater t v u
      → end_of (past_of m u (e ∷ es)) ≤ end_of (past_of m v (e ∷ es)) + t
  unfolding past_of
  end_later t v u e es later = (passed_on m t v u (e ∷ es) (e ∷ es) ok later (same (e ∷ es))).0.xe

  -- one stretch more
  further : (t : ℕ) (v u : List ℕ) (taken : Bool) (e : Entry) (es : List Entry) → SlotsAtMostLater t v u
      → SlotsAtMostLater t (with_jump taken (end_of (past_of m v (e ∷ es))) (window m v (past_of m v (e ∷ es))))
      (window m u (past_of m u (jumping taken (e ∷ es))))
  further t v u taken e es later =
      rw (jump_behind m u taken e es)
      (jumps_later t taken (window m v (past_of m v (e ∷ es))) (window m u (past_of m u (e ∷ es)))
      (of_slots m t v u (e ∷ es) (e ∷ es) ok later (same (e ∷ es)))
      (end_of (past_of m v (e ∷ es))) (end_of (past_of m u (e ∷ es))) (end_later t v u e es later)
      (window_is_long m v (past_of m v (e ∷ es))) (window_is_long m u (past_of m u (e ∷ es))))

  counted : (t : ℕ) (behind own w : List ℕ) → SlotsAtMostLater t behind own → Covers w (rebased m behind)
      → SlotsAtMostLater (t + cost_of m behind) w own
  counted t behind own w later covers = record {
    each = λ k. let a = later.each k in let b = (plus_cost m behind).each k in let c = covers.each k in omega arith;
  }

  behind_stretch : (stretches : List Stretch) (s : Stretch) (v w : List ℕ) (t : ℕ) (e : Entry) (es : List Entry)
      → reverse s.entries ≡ e ∷ es → SlotsAtMostLater t v (own stretches) → Covers w (exit_of m v s).slots
      → SlotsAtMostLater (t + (exit_of m v s).cost) w (own (s ∷ stretches))
  unfolding window
  behind_stretch stretches s v w t e es is later covers =
      let there = sym (lead_on m [] (backwards s) (executed_in stretches) ok) in
      let step : SlotsAtMostLater t (with_jump s.taken (end_of (past_of m v (reverse s.entries))) (window m v (past_of m v (reverse s.entries)))) (own (s ∷ stretches)) =
      rw (there, is) (further t v (own stretches) s.taken e es later) in
      counted t _ (own (s ∷ stretches)) w step covers

  at_first : (k : ℕ) → slot (own []) k ≡ 0
  unfolding past_of
  at_first k = ap (λ (s : List ℕ). slot s k) (nothing m) ∙ no_slot slot_count k

  pub cover : (stretches : List Stretch) (v : List ℕ) (cost : ℕ) → GoAlong m stretches v cost → SlotsAtMostLater cost v (own stretches)
  cover [] v cost (begins _) = record { each = λ k. let e = at_first k in omega (arith, e) }
  cover (s ∷ stretches) w cost (goes _ _ v _ t along some covers) =
      elim (parts_of (reverse s.entries) (turned_some s.entries some)) [
        | parts e es is ↦ behind_stretch stretches s v w t e es is (cover stretches v t along) covers
      ]

  -- more instructions are complete no earlier
  no_earlier : (u : List ℕ) (more es : List Entry) → completion u (past_of m u es) ≤ completion u (past_of m u (more ++ es))
  unfolding past_of
  no_earlier u [] es = omega arith
  no_earlier u (e ∷ more) es =
      let before = no_earlier u more es in
      let last = never_falls m u (past_of m u (more ++ es)) e in
      omega arith

  cut_short : (u : List ℕ) (last : List Entry) (count : ℕ)
      → completion u (past_of m u (reverse (take count last))) ≤ completion u (past_of m u (reverse last))
  cut_short u last count =
      let turned : reverse last ≡ reverse (drop count last) ++ reverse (take count last) =
      ap reverse (sym (take-append-drop count last)) ∙ reverse-append (take count last) (drop count last) in
      rw turned (no_earlier u (reverse (drop count last)) (reverse (take count last)))

  pub bound : (stretches : List Stretch) (v : List ℕ) (cost : ℕ) (last : List Entry) (count : ℕ) (taken : Bool) → GoAlong m stretches v cost
      → completion [] (past_of m [] (jumping taken (reverse (take count last)) ++ executed_in stretches)) ≤ cost + finish_from m v last
  bound stretches v cost last count taken along =
      let on = sym (goes_on m [] (jumping taken (reverse (take count last))) (executed_in stretches) ok) in
      let plain = jump_completes m (own stretches) taken (reverse (take count last)) in
      let whole = cut_short (own stretches) last count in
      let later = of_completion m cost v (own stretches) (reverse last) (reverse last) ok (cover stretches v cost along) (same (reverse last)) in
      rw (on, plain) (omega (arith, whole, later))
