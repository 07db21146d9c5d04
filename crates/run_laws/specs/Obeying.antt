-- Runs that obey, one step behind the other. This project's own.
use Rattle.std.specs.Prelude.{◌≡◌, ℕ, ◌≤◌, ◌++◌, false, length, List, [], Some, None, Ok, map}
use Rattle.wx_base.specs.declared.machine.Machine.{Machine}
use Rattle.wx_base.specs.declared.image.Image.{Image}
use Rattle.wx_base.specs.declared.step.Why.{Why}
use Rattle.wx_base.specs.Monitor.{Rules, Watch}
use Rattle.wx_base.specs.Recurrence.{past_of}
use Rattle.wx_base.specs.Run.{Start, Run, Executed, Finished, Halted, Obeys, begun, dones, end_after, entry_at, extended, run_of, watch_at}
use Rattle.wx_base.specs.State.{Went, Next, Ended, Stopped}
use Rattle.wx_base.specs.Step.{step}

-- One step of a run that has not ended, where the move to the instruction at pc breaks no rule: the instruction is executed and
-- the machine goes on, or it is executed and ends the run, or the machine stops before it.
pub data StepsTo (machine : Machine) (image : Image) (rules : Rules) (run : Run) : Run → Type 0 where
  goes_on : (watch : Watch) (went : Went) → run.end ≡ None → watch_at rules run ≡ Ok watch → step machine image run.state ≡ Next went
      → StepsTo machine image rules run (extended machine run watch (entry_at machine run went.taken went.slow) went.state (end_after run watch went.taken))
  ends : (watch : Watch) → run.end ≡ None → watch_at rules run ≡ Ok watch → step machine image run.state ≡ Ended
      → StepsTo machine image rules run (extended machine run watch (entry_at machine run false false) run.state (Some Finished))
  stops : (watch : Watch) (why : Why) → run.end ≡ None → watch_at rules run ≡ Ok watch → step machine image run.state ≡ Stopped why
      → StepsTo machine image rules run (record run { end = Some (Halted why) })

-- the runs from a start that such steps lead to
pub data IsObeying (machine : Machine) (image : Image) (rules : Rules) (entry : ℕ) (start : Start) : Run → Type 0 where
  begins : IsObeying machine image rules entry start (begun entry start)
  longer : {run next : Run} → IsObeying machine image rules entry start run → StepsTo machine image rules run next
      → IsObeying machine image rules entry start next

-- the run of at most some number of instructions is this one, and no move of it breaks a rule
pub record IsRunThatObeys (machine : Machine) (image : Image) (rules : Rules) (entry : ℕ) (start : Start) (run : Run) : Type 0 where
  pub most : ℕ
  pub is : run ≡ run_of machine image rules entry start most
  pub obeys : Obeys run

-- steps lead exactly to the runs that obey
abbrev pub StepsGiveRuns : Type 0
StepsGiveRuns = (machine : Machine) (image : Image) (rules : Rules) (entry : ℕ) (start : Start) (run : Run)
    → IsObeying machine image rules entry start run → IsRunThatObeys machine image rules entry start run

abbrev pub RunsAreSteps : Type 0
RunsAreSteps = (machine : Machine) (image : Image) (rules : Rules) (entry : ℕ) (start : Start) (n : ℕ)
    → Obeys (run_of machine image rules entry start n) → IsObeying machine image rules entry start (run_of machine image rules entry start n)

-- a run that is cut earlier obeys if the longer one does
abbrev pub PrefixesObey : Type 0
PrefixesObey = (machine : Machine) (image : Image) (rules : Rules) (entry : ℕ) (start : Start) (k n : ℕ) → k ≤ n
    → Obeys (run_of machine image rules entry start n) → Obeys (run_of machine image rules entry start k)

-- the longer run has executed what the other has, and perhaps more behind it
pub record HasExecuted (shorter longer : Run) : Type 0 where
  pub more : List Executed
  pub is : longer.executed ≡ more ++ shorter.executed

abbrev pub PrefixesAreExecuted : Type 0
PrefixesAreExecuted = (machine : Machine) (image : Image) (rules : Rules) (entry : ℕ) (start : Start) (k n : ℕ) → k ≤ n
    → HasExecuted (run_of machine image rules entry start k) (run_of machine image rules entry start n)

-- a run that has not ended has executed as many instructions as it may
abbrev pub RunsWithoutEndAreWhole : Type 0
RunsWithoutEndAreWhole = (machine : Machine) (image : Image) (rules : Rules) (entry : ℕ) (start : Start) (n : ℕ)
    → (run_of machine image rules entry start n).end ≡ None → length (run_of machine image rules entry start n).executed ≡ n

-- and no run has executed more
abbrev pub RunsAreNoLonger : Type 0
RunsAreNoLonger = (machine : Machine) (image : Image) (rules : Rules) (entry : ℕ) (start : Start) (n : ℕ)
    → length (run_of machine image rules entry start n).executed ≤ n

-- the times of a run are those that the recurrence gives its instructions from the empty pipeline
abbrev pub TimesAreTheRecurrence : Type 0
TimesAreTheRecurrence = (machine : Machine) (image : Image) (rules : Rules) (entry : ℕ) (start : Start) (n : ℕ)
    → let past = dones (run_of machine image rules entry start n).executed in past ≡ past_of machine [] (map (λ i. i.entry) past)
