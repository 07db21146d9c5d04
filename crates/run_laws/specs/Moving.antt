-- How a run goes on from one instruction to the next, by the flow of the first and the facts. This project's own.
use Rattle.std.specs.Prelude.{◌≡◌, ℕ, ◌≤◌, ◌++◌, true, false, if◌then◌else◌, List, [], ◌∷◌, All, Any, Contains, Some, None, Ok, option_to_list}
use Rattle.wx_base.specs.declared.facts.Facts.{Facts}
use Rattle.wx_base.specs.declared.flow.FlowKind.{FlowKind}
use Rattle.wx_base.specs.declared.image.Image.{Image}
use Rattle.wx_base.specs.declared.machine.Machine.{Machine}
use Rattle.wx_base.specs.Bits.{add_words}
use Rattle.wx_base.specs.Facts.{targets_of}
use Rattle.wx_base.specs.Flow.{flow_of}
use Rattle.wx_base.specs.Functions.{callees_by, AreRules}
use Rattle.wx_base.specs.Monitor.{BoundedLoop, Frame, Function, Rules, Watch, count_into, exceeds, goes_back, last_of, loop_at, opened, total_into}
use Rattle.wx_base.specs.Run.{Executed, IsStart, Start, run_of, watch_at}
use Rattle.wx_base.specs.State.{pc, replaced}
use Rattle.run_laws.specs.Flowing.{GoesBehind}
use Rattle.run_laws.specs.Reached.{TakesTargets}

-- where an instruction that is taken may lead inside its function: to its direct target, and to those that the facts list for an
-- indirect jump
abbrev pub jumps_of : Facts → ℕ → FlowKind → List ℕ
jumps_of facts address flow = option_to_list flow.jump ++ (if flow.indirect then targets_of facts.branches address else [])

-- What a move of a frame to an address counts. At the head of a loop of the frame's function the counter and the total
-- there are what the move makes of them, within the loop's bounds; elsewhere the counters and the totals are left.
pub data Counts (functions : List Function) (frame : Frame) (to : ℕ) (totals counter_after totals_after : ℕ → ℕ) : Type 0 where
  at_head : (loop : BoundedLoop) → loop_at functions frame.function to ≡ Some loop
      → counter_after ≡ replaced frame.counter loop.head (count_into loop frame) → count_into loop frame ≤ loop.maxcount
      → totals_after ≡ replaced totals loop.head (total_into loop frame totals)
      → (goes_back loop frame ≡ true → exceeds (total_into loop frame totals) loop.totalcount ≡ false)
      → Counts functions frame to totals counter_after totals_after
  elsewhere : loop_at functions frame.function to ≡ None → counter_after ≡ frame.counter → totals_after ≡ totals
      → Counts functions frame to totals counter_after totals_after

-- the frames are the same but for the counters of the youngest, which moves to an address
pub record MovesYoungest (functions : List Function) (frames : List Frame) (totals : ℕ → ℕ) (to : ℕ) (after : Watch)
    : Type 0 where
  pub youngest : Frame
  pub callers : List Frame
  pub were : frames ≡ youngest ∷ callers
  pub counter : ℕ → ℕ
  pub are : after.frames ≡ record youngest { counter = counter } ∷ callers
  pub counts : Counts functions youngest to totals counter after.totals

-- what an executed instruction is to the flow
abbrev pub executed_flow : Executed → FlowKind
executed_flow i = flow_of i.done.entry.word i.address

-- From an instruction a run goes on behind it, jumps inside its function, calls a function, or returns behind the call
-- that is open; the frames tell which. A call begins with all counters at 0 and leaves the other frames and the totals; a
-- return is a move of the caller.
pub data GoesTo (facts : Facts) (functions : List Function) (i : Executed) (to : ℕ) (before after : Watch) : Type 0 where
  behind : i.done.entry.taken ≡ false → GoesBehind (executed_flow i) i.done.entry.word i.address to
      → MovesYoungest functions before.frames before.totals to after → GoesTo facts functions i to before after
  jumps : i.done.entry.taken ≡ true → Contains (jumps_of facts i.address (executed_flow i)) to
      → MovesYoungest functions before.frames before.totals to after → GoesTo facts functions i to before after
  calls : i.done.entry.taken ≡ true → Contains (callees_by facts i.address (executed_flow i)) to
      → after.frames ≡ opened to ∷ before.frames → after.totals ≡ before.totals → GoesTo facts functions i to before after
  returns : (frame caller : Frame) (others : List Frame) → i.done.entry.taken ≡ true → (executed_flow i).ret ≡ true
      → before.frames ≡ frame ∷ caller ∷ others → to ≡ add_words (last_of caller) 4
      → MovesYoungest functions (caller ∷ others) before.totals to after → GoesTo facts functions i to before after

-- each move of a run that breaks no rule is one of these
abbrev pub RunsGoByFlow : Type 0
RunsGoByFlow = (machine : Machine) (image : Image) (facts : Facts) (rules : Rules) (entry : ℕ) (start : Start) (n : ℕ)
    (i : Executed) (before : List Executed) (watch : Watch) → TakesTargets facts rules
    → (run_of machine image rules entry start n).end ≡ None → (run_of machine image rules entry start n).executed ≡ i ∷ before
    → watch_at rules (run_of machine image rules entry start n) ≡ Ok watch
    → GoesTo facts rules.functions i ((run_of machine image rules entry start n).state.registers pc)
    (run_of machine image rules entry start n).watch watch

-- under the rules of an image each frame is one of a function that the rules list
abbrev pub FramesAreListed : Type 0
FramesAreListed = (machine : Machine) (image : Image) (facts : Facts) (rules : Rules) (entry : ℕ) (start : Start) (n : ℕ)
    → IsStart machine image entry start → AreRules image facts entry rules
    → All (λ frame. Any (λ f. f.entry ≡ frame.function) rules.functions) (run_of machine image rules entry start n).watch.frames
