-- Going on from a window is going on from its past.
use Rattle.std.proofs.Common.{◌≡◌, ℕ, ◌+◌, ◌≤◌, Bool, true, false, List, [], ◌∷◌, ◌++◌, refl, sym, ◌∙◌, ap, arith, cond, max}
use Rattle.wx_base.specs.declared.machine.Machine.{Machine}
use Rattle.wx_base.specs.declared.times.Times.{Times}
use Rattle.wx_base.specs.Machine.{IsMachine}
use Rattle.wx_base.specs.Recurrence.{Entry, Done, ago, next, window, past_of, completion, c_back, f_of, fe_of, d_of, x_of, latency_of}
use Rattle.pipe_time.specs.Windows.{CompletionNeverFalls, WindowsGoOn, WindowsLeadOn, CompletionGoesOn}
use Rattle.pipe_time.proofs.Windows.{window_gives_times, window_gives_window}

-- the middle one of three is at most the latest
middle : (a b c : ℕ) → b ≤ max (max a b) c
middle a b c = omega arith

pub completion_never_falls : CompletionNeverFalls
unfolding next
completion_never_falls m start past e =
    let f = f_of m start past in
    let fe = fe_of m start past e f in
    let d = d_of m start past fe in
    let x = x_of m start past e d in
    middle (x + latency_of m e) (completion start past) (ago m.width (c_back start past) + 1)

twice : (b : Bool) (n : ℕ) → cond b (cond b n 0) 0 ≡ cond b n 0
twice true n = refl
twice false n = refl

-- the window on a window with nothing behind it is that window
pub window_again : (m : Machine) (start : List ℕ) (past : List Done) → window m (window m start past) [] ≡ window m start past
unfolding window
window_again m start past = simp twice

module _ (m : Machine) (start : List ℕ) (es : List Entry) (ok : IsMachine m) where
  between : List ℕ
  between = window m start (past_of m start es)

  -- the window and the times at once: each needs the other
  record GoesOn (more : List Entry) : Type 0 where
    slots : window m between (past_of m between more) ≡ window m start (past_of m start (more ++ es))
    past : past_of m start (more ++ es) ≡ past_of m between more ++ past_of m start es

  same_times : (more : List Entry) → GoesOn more → (e : Entry) → next m start (past_of m start (more ++ es)) e ≡ next m between (past_of m between more) e
  same_times more so_far e =
      sym (window_gives_times m start (past_of m start (more ++ es)) e ok)
      ∙ ap (λ (w : List ℕ). next m w [] e) (sym so_far.slots)
      ∙ window_gives_times m between (past_of m between more) e ok

  goes_on : (more : List Entry) → GoesOn more
  unfolding past_of between
  goes_on [] = record { slots = window_again m start (past_of m start es); past = refl }
  goes_on (e ∷ more) =
      let so_far = goes_on more in
      let before = past_of m start (more ++ es) in
      let behind = past_of m between more in
      let there : Times → Done = λ (t : Times). record { entry = e; times = t } in
      let same = same_times more so_far e in
      record {
        slots =
            sym (window_gives_window m between behind (there (next m between behind e)) ok)
            ∙ ap (λ (w : List ℕ). window m w (there (next m between behind e) ∷ [])) so_far.slots
            ∙ window_gives_window m start before (there (next m between behind e)) ok
            ∙ ap (λ (t : Times). window m start (there t ∷ before)) (sym same);
        past =
            ap (λ (t : Times). there t ∷ before) same
            ∙ ap (λ (p : List Done). there (next m between behind e) ∷ p) so_far.past;
      }

  completion_same : (more : List Entry) → completion between (past_of m between more) ≡ completion start (past_of m start (more ++ es))
  unfolding past_of window between
  completion_same [] = refl
  completion_same (e ∷ more) = sym (ap (completion start) (goes_on (e ∷ more)).past)

pub windows_go_on : WindowsGoOn
unfolding between
windows_go_on m start more es ok = (goes_on m start es ok more).past

pub windows_lead_on : WindowsLeadOn
unfolding between
windows_lead_on m start more es ok = (goes_on m start es ok more).slots

pub completion_goes_on : CompletionGoesOn
unfolding between
completion_goes_on m start more es ok = completion_same m start es ok more
