-- Runs as steps, and what longer runs keep of shorter ones.
use Rattle.std.proofs.Common.{◌≡◌, ℕ, zero, suc, ◌+◌, ◌-◌, ◌≤◌, Bool, true, false, cond, List, [], ◌∷◌, ◌++◌, length, map, refl, sym, ap, subst, ◌∙◌, arith, append_assoc}
use Rattle.std.specs.Prelude.{Option, Some, None, Result, Ok, Err}
use Rattle.wx_base.specs.declared.fact_kind.FactKind.{FactKind}
use Rattle.wx_base.specs.declared.image.Image.{Image}
use Rattle.wx_base.specs.declared.machine.Machine.{Machine}
use Rattle.wx_base.specs.declared.step.Why.{Why}
use Rattle.wx_base.specs.Monitor.{Rules, Watch}
use Rattle.wx_base.specs.Recurrence.{Done, next, past_of}
use Rattle.wx_base.specs.Run.{Start, Run, Executed, End, Finished, Halted, Broken, Obeys, advanced, after_judgement, after_outcome, begun, dones, end_after, entry_at, extended, run_of, watch_at}
use Rattle.wx_base.specs.State.{Outcome, Went, Next, Ended, Stopped}
use Rattle.wx_base.specs.Step.{step}
use Rattle.run_laws.specs.Obeying.{StepsTo, IsObeying, IsRunThatObeys, HasExecuted}
use Rattle.run_laws.specs.Obeying.StepsTo.{goes_on, ends, stops}
use Rattle.run_laws.specs.Obeying.IsObeying.{begins, longer}

module _ (machine : Machine) (image : Image) (rules : Rules) where
  -- one that has not is judged
  pub judges : (run : Run) → run.end ≡ None → advanced machine image rules run run.end ≡ after_judgement machine image run (watch_at rules run)
  judges run none = ap (advanced machine image rules run) none

  -- ---- steps as runs

  pub next_of_step : (run next : Run) → StepsTo machine image rules run next → advanced machine image rules run run.end ≡ next
  next_of_step run next (goes_on watch went going allowed is) =
      judges run going ∙ ap (after_judgement machine image run) allowed ∙ ap (after_outcome machine run watch) is
  next_of_step run next (ends watch going allowed is) =
      judges run going ∙ ap (after_judgement machine image run) allowed ∙ ap (after_outcome machine run watch) is
  next_of_step run next (stops watch why going allowed is) =
      judges run going ∙ ap (after_judgement machine image run) allowed ∙ ap (after_outcome machine run watch) is

  -- a run without an end breaks no rule
  pub open_obeys : (run : Run) → run.end ≡ None → Obeys run
  open_obeys run going breach broken = absurd (let e : None ≡ Some (Broken breach) = sym going ∙ broken in cc)

  -- a return without an going call is no broken rule
  finish_obeys : (b : Bool) (breach : FactKind) → cond b (Some Finished) None ≡ Some (Broken breach) → ⊥
  finish_obeys true breach e = cc
  finish_obeys false breach e = cc

  pub step_obeys : (run next : Run) → StepsTo machine image rules run next → Obeys next
  step_obeys run next (goes_on watch went going allowed is) breach e = finish_obeys _ breach e
  step_obeys run next (ends watch going allowed is) breach e = cc
  step_obeys run next (stops watch why going allowed is) breach e = cc

  module _ (entry : ℕ) (start : Start) where
    pub one_more_run : (n : ℕ) → run_of machine image rules entry start (suc n) ≡ advanced machine image rules (run_of machine image rules entry start n) (run_of machine image rules entry start n).end
    unfolding run_of
    one_more_run n = refl

    pub no_run : run_of machine image rules entry start zero ≡ begun entry start
    unfolding run_of
    no_run = refl

    pub steps_give_runs : (run : Run) → IsObeying machine image rules entry start run → IsRunThatObeys machine image rules entry start run
    steps_give_runs run begins = record { most = zero; is = sym no_run; obeys = open_obeys (begun entry start) refl }
    steps_give_runs run (longer {run = before} {next = after} so_far on) =
        let r = steps_give_runs before so_far in
        record {
          most = suc r.most;
          is = sym (one_more_run r.most ∙ ap (λ (x : Run). advanced machine image rules x x.end) (sym r.is) ∙ next_of_step before after on);
          obeys = step_obeys before after on;
        }

    -- ---- runs as steps

    -- what becomes of a run that was looked at
    outcome_step : (run : Run) (watch : Watch) (outcome : Outcome) → run.end ≡ None → watch_at rules run ≡ Ok watch → step machine image run.state ≡ outcome
        → StepsTo machine image rules run (after_outcome machine run watch outcome)
    outcome_step run watch (Next went) going allowed is = goes_on watch went going allowed is
    outcome_step run watch Ended going allowed is = ends watch going allowed is
    outcome_step run watch (Stopped why) going allowed is = stops watch why going allowed is

    judged_step : (run : Run) (judgement : Result Watch FactKind) → run.end ≡ None → watch_at rules run ≡ judgement → Obeys (after_judgement machine image run judgement)
        → StepsTo machine image rules run (after_judgement machine image run judgement)
    judged_step run (Err breach) going allowed obeys = absurd (obeys breach refl)
    judged_step run (Ok watch) going allowed obeys = outcome_step run watch (step machine image run.state) going allowed refl

    advanced_step : (run : Run) (end : Option End) → run.end ≡ end → Obeys (advanced machine image rules run end)
        → (Obeys run → IsObeying machine image rules entry start run) → IsObeying machine image rules entry start (advanced machine image rules run end)
    advanced_step run (Some e) is obeys so_far = so_far obeys
    advanced_step run None is obeys so_far = longer (so_far (open_obeys run is)) (judged_step run (watch_at rules run) is refl obeys)

    pub runs_are_steps : (n : ℕ) → Obeys (run_of machine image rules entry start n) → IsObeying machine image rules entry start (run_of machine image rules entry start n)
    unfolding run_of
    runs_are_steps zero obeys = begins
    runs_are_steps (suc n) obeys =
        advanced_step (run_of machine image rules entry start n) (run_of machine image rules entry start n).end refl obeys (runs_are_steps n)

    -- ---- what is cut earlier

    obeys_before : (run : Run) (end : Option End) → run.end ≡ end → Obeys (advanced machine image rules run end) → Obeys run
    obeys_before run (Some e) is obeys = obeys
    obeys_before run None is obeys = open_obeys run is

    -- a property of runs that goes back by one step goes back by any number
    pub backwards : (P : Run → Type 0) → ((run : Run) → P (advanced machine image rules run run.end) → P run)
        → (k more : ℕ) → P (run_of machine image rules entry start (more + k)) → P (run_of machine image rules entry start k)
    backwards P back k zero p = subst (λ (n : ℕ). P (run_of machine image rules entry start n)) (let e : zero + k ≡ k = omega arith in e) p
    backwards P back k (suc more) p =
        let e : suc more + k ≡ suc (more + k) = omega arith in
        let q : P (run_of machine image rules entry start (suc (more + k))) = subst (λ (n : ℕ). P (run_of machine image rules entry start n)) e p in
        backwards P back k more (back (run_of machine image rules entry start (more + k)) (subst P (one_more_run (more + k)) q))

    pub prefixes_obey : (k n : ℕ) → k ≤ n → Obeys (run_of machine image rules entry start n) → Obeys (run_of machine image rules entry start k)
    prefixes_obey k n short obeys =
        let e : n ≡ n - k + k = omega arith in
        backwards Obeys (λ run o. obeys_before run run.end refl o) k (n - k) (subst (λ (m : ℕ). Obeys (run_of machine image rules entry start m)) e obeys)

    -- ---- what was executed

    executed_by_outcome : (run : Run) (watch : Watch) (outcome : Outcome) → HasExecuted run (after_outcome machine run watch outcome)
    executed_by_outcome run watch (Next went) = record { more = _ ∷ []; is = refl }
    executed_by_outcome run watch Ended = record { more = _ ∷ []; is = refl }
    executed_by_outcome run watch (Stopped why) = record { more = []; is = refl }

    executed_by_judgement : (run : Run) (judgement : Result Watch FactKind) → HasExecuted run (after_judgement machine image run judgement)
    executed_by_judgement run (Err breach) = record { more = []; is = refl }
    executed_by_judgement run (Ok watch) = executed_by_outcome run watch (step machine image run.state)

    executed_once_more : (run : Run) (end : Option End) → HasExecuted run (advanced machine image rules run end)
    executed_once_more run (Some e) = record { more = []; is = refl }
    executed_once_more run None = executed_by_judgement run (watch_at rules run)

    executed_on : (a b c : Run) → HasExecuted a b → HasExecuted b c → HasExecuted a c
    executed_on a b c p q = record { more = q.more ++ p.more; is = q.is ∙ ap (λ (xs : List Executed). q.more ++ xs) p.is ∙ sym (append_assoc q.more p.more a.executed) }

    grown : (k more : ℕ) → HasExecuted (run_of machine image rules entry start k) (run_of machine image rules entry start (more + k))
    grown k zero =
        let e : k ≡ zero + k = omega arith in
        subst (λ (m : ℕ). HasExecuted (run_of machine image rules entry start k) (run_of machine image rules entry start m)) e (record { more = []; is = refl })
    grown k (suc more) =
        let e : suc (more + k) ≡ suc more + k = omega arith in
        let before = run_of machine image rules entry start (more + k) in
        let on : HasExecuted before (run_of machine image rules entry start (suc (more + k))) =
        subst (HasExecuted before) (sym (one_more_run (more + k))) (executed_once_more before before.end) in
        subst (λ (m : ℕ). HasExecuted (run_of machine image rules entry start k) (run_of machine image rules entry start m)) e
        (executed_on (run_of machine image rules entry start k) before (run_of machine image rules entry start (suc (more + k))) (grown k more) on)

    pub prefixes_are_executed : (k n : ℕ) → k ≤ n → HasExecuted (run_of machine image rules entry start k) (run_of machine image rules entry start n)
    prefixes_are_executed k n short =
        let e : n - k + k ≡ n = omega arith in
        subst (λ (m : ℕ). HasExecuted (run_of machine image rules entry start k) (run_of machine image rules entry start m)) e (grown k (n - k))

    -- ---- how many were executed

    -- a run that has not ended has executed so many
    IsWhole : ℕ → Run → Type 0
    IsWhole n run = run.end ≡ None → length run.executed ≡ n

    whole_by_outcome : (run : Run) (n : ℕ) (watch : Watch) (outcome : Outcome) → length run.executed ≡ n → IsWhole (suc n) (after_outcome machine run watch outcome)
    unfolding IsWhole
    whole_by_outcome run n watch (Next went) count going = ap suc count
    whole_by_outcome run n watch Ended count going = cc
    whole_by_outcome run n watch (Stopped why) count going = cc

    whole_by_judgement : (run : Run) (n : ℕ) (judgement : Result Watch FactKind) → length run.executed ≡ n → IsWhole (suc n) (after_judgement machine image run judgement)
    unfolding IsWhole
    whole_by_judgement run n (Err breach) count going = cc
    whole_by_judgement run n (Ok watch) count going = whole_by_outcome run n watch (step machine image run.state) count going

    whole_once_more : (run : Run) (n : ℕ) (end : Option End) → run.end ≡ end → IsWhole n run → IsWhole (suc n) (advanced machine image rules run end)
    unfolding IsWhole
    whole_once_more run n (Some e) is whole going = absurd (let f : Some e ≡ None = sym is ∙ going in cc)
    whole_once_more run n None is whole going = whole_by_judgement run n (watch_at rules run) (whole is) going

    pub runs_without_end_are_whole : (n : ℕ) → (run_of machine image rules entry start n).end ≡ None → length (run_of machine image rules entry start n).executed ≡ n
    unfolding run_of IsWhole
    runs_without_end_are_whole zero going = refl
    runs_without_end_are_whole (suc n) going =
        let run = run_of machine image rules entry start n in
        whole_once_more run n run.end refl (runs_without_end_are_whole n) going

    few_by_outcome : (run : Run) (n : ℕ) (watch : Watch) (outcome : Outcome) → length run.executed ≤ n → length (after_outcome machine run watch outcome).executed ≤ suc n
    few_by_outcome run n watch (Next went) few = omega arith
    few_by_outcome run n watch Ended few = omega arith
    few_by_outcome run n watch (Stopped why) few = omega arith

    few_by_judgement : (run : Run) (n : ℕ) (judgement : Result Watch FactKind) → length run.executed ≤ n → length (after_judgement machine image run judgement).executed ≤ suc n
    few_by_judgement run n (Err breach) few = omega arith
    few_by_judgement run n (Ok watch) few = few_by_outcome run n watch (step machine image run.state) few

    few_once_more : (run : Run) (n : ℕ) (end : Option End) → length run.executed ≤ n → length (advanced machine image rules run end).executed ≤ suc n
    few_once_more run n (Some e) few = omega arith
    few_once_more run n None few = few_by_judgement run n (watch_at rules run) few

    pub runs_are_no_longer : (n : ℕ) → length (run_of machine image rules entry start n).executed ≤ n
    unfolding run_of
    runs_are_no_longer zero = omega arith
    runs_are_no_longer (suc n) = let run = run_of machine image rules entry start n in few_once_more run n run.end (runs_are_no_longer n)

    -- ---- the times

    -- the times are those of the recurrence
    abbrev AreTimed : List Executed → Type 0
    AreTimed executed = dones executed ≡ past_of machine [] (map (λ i. i.entry) (dones executed))

    timed_by_outcome : (run : Run) (watch : Watch) (outcome : Outcome) → AreTimed run.executed → AreTimed (after_outcome machine run watch outcome).executed
    unfolding past_of
    timed_by_outcome run watch (Next went) timed =
        let e = entry_at machine run went.taken went.slow in
        ap (λ (past : List Done). record { entry = e; times = next machine [] (dones run.executed) e } ∷ past) timed
        ∙ ap (λ (past : List Done). record { entry = e; times = next machine [] past e } ∷ past_of machine [] (map (λ i. i.entry) (dones run.executed))) timed
    timed_by_outcome run watch Ended timed =
        let e = entry_at machine run false false in
        ap (λ (past : List Done). record { entry = e; times = next machine [] (dones run.executed) e } ∷ past) timed
        ∙ ap (λ (past : List Done). record { entry = e; times = next machine [] past e } ∷ past_of machine [] (map (λ i. i.entry) (dones run.executed))) timed
    timed_by_outcome run watch (Stopped why) timed = timed

    timed_by_judgement : (run : Run) (judgement : Result Watch FactKind) → AreTimed run.executed → AreTimed (after_judgement machine image run judgement).executed
    timed_by_judgement run (Err breach) timed = timed
    timed_by_judgement run (Ok watch) timed = timed_by_outcome run watch (step machine image run.state) timed

    timed_once_more : (run : Run) (end : Option End) → AreTimed run.executed → AreTimed (advanced machine image rules run end).executed
    timed_once_more run (Some e) timed = timed
    timed_once_more run None timed = timed_by_judgement run (watch_at rules run) timed

    pub times_are_the_recurrence : (n : ℕ) → AreTimed (run_of machine image rules entry start n).executed
    unfolding run_of past_of
    times_are_the_recurrence zero = refl
    times_are_the_recurrence (suc n) = let run = run_of machine image rules entry start n in timed_once_more run run.end (times_are_the_recurrence n)

    -- ---- what holds along every run

    -- a property of runs that the start has and each step keeps
    pub record IsKept (P : Run → Type 0) : Type 0 where
      pub begins_so : P (begun entry start)
      pub goes_on_so : (run : Run) (watch : Watch) (went : Went) → P run → run.end ≡ None → watch_at rules run ≡ Ok watch → step machine image run.state ≡ Next went
          → P (extended machine run watch (entry_at machine run went.taken went.slow) went.state (end_after run watch went.taken))
      pub ends_so : (run : Run) (watch : Watch) → P run → run.end ≡ None → watch_at rules run ≡ Ok watch → step machine image run.state ≡ Ended
          → P (extended machine run watch (entry_at machine run false false) run.state (Some Finished))
      pub stops_so : (run : Run) (watch : Watch) (why : Why) → P run → run.end ≡ None → watch_at rules run ≡ Ok watch → step machine image run.state ≡ Stopped why
          → P (record run { end = Some (Halted why) })
      pub breaks_so : (run : Run) (breach : FactKind) → P run → P (record run { end = Some (Broken breach) })

    module _ (P : Run → Type 0) (kept : IsKept P) where
      kept_by_outcome : (run : Run) (watch : Watch) (outcome : Outcome) → P run → run.end ≡ None → watch_at rules run ≡ Ok watch → step machine image run.state ≡ outcome → P (after_outcome machine run watch outcome)
      kept_by_outcome run watch (Next went) p going allowed is = kept.goes_on_so run watch went p going allowed is
      kept_by_outcome run watch Ended p going allowed is = kept.ends_so run watch p going allowed is
      kept_by_outcome run watch (Stopped why) p going allowed is = kept.stops_so run watch why p going allowed is

      kept_by_judgement : (run : Run) (judgement : Result Watch FactKind) → P run → run.end ≡ None → watch_at rules run ≡ judgement → P (after_judgement machine image run judgement)
      kept_by_judgement run (Err breach) p going allowed = kept.breaks_so run breach p
      kept_by_judgement run (Ok watch) p going allowed = kept_by_outcome run watch (step machine image run.state) p going allowed refl

      kept_once_more : (run : Run) (end : Option End) → run.end ≡ end → P run → P (advanced machine image rules run end)
      kept_once_more run (Some e) is p = p
      kept_once_more run None is p = kept_by_judgement run (watch_at rules run) p is refl

      pub each_run : (n : ℕ) → P (run_of machine image rules entry start n)
      unfolding run_of
      each_run zero = kept.begins_so
      each_run (suc n) = let run = run_of machine image rules entry start n in kept_once_more run run.end refl (each_run n)
