-- No head is moved back into more often than a run has instructions.
use Rattle.std.proofs.Common.{◌≡◌, ℕ, zero, suc, ◌+◌, ◌<◌, ◌≤◌, Bool, true, false, cond, eqb, ltb, ◌&&◌, not, List, [], ◌∷◌, Option, Some, None, Result, Ok, Err, ap, refl, arith}
use Rattle.std.proofs.lemmas.Bool.{eqb-true}
use Rattle.wx_base.specs.declared.fact_kind.FactKind.{FactKind}
use Rattle.wx_base.specs.declared.fact_kind.FactKind.TheVariants as fact
use Rattle.wx_base.specs.declared.flow.FlowKind.{FlowKind}
use Rattle.wx_base.specs.declared.image.Image.{Image}
use Rattle.wx_base.specs.declared.machine.Machine.{Machine}
use Rattle.wx_base.specs.Bits.{add_words}
use Rattle.wx_base.specs.Flow.{flow_of}
use Rattle.wx_base.specs.Monitor as monitor
use Rattle.wx_base.specs.Recurrence.{Entry}
use Rattle.wx_base.specs.Run as runs
use Rattle.wx_base.specs.State.{Outcome, Next, Ended, Stopped, pc, replaced}
use Rattle.wx_base.specs.Step.{step}
use Rattle.run_machine.specs.Judging.{AreFew, most_steps}

-- where no rule is broken, no total grows by more than one
abbrev GrowsByOne : (ℕ → ℕ) → Result monitor.Watch FactKind → Type 0
GrowsByOne totals (Ok watch) = (head : ℕ) → watch.totals head ≤ totals head + 1
GrowsByOne totals (Err rule) = Unit {0}

either : (totals : ℕ → ℕ) (b : Bool) (r s : Result monitor.Watch FactKind) → GrowsByOne totals r → GrowsByOne totals s → GrowsByOne totals (cond b r s)
either totals true r s p q = p
either totals false r s p q = q

one_more : (b : Bool) (n : ℕ) → cond b (n + 1) n ≤ n + 1
one_more true n = omega arith
one_more false n = omega arith

at_one : (totals : ℕ → ℕ) (at n : ℕ) → n ≤ totals at + 1 → (head : ℕ) → replaced totals at n head ≤ totals head + 1
at_one totals at n small head = by (eqb head at) refl
  where
    by : (b : Bool) → eqb head at ≡ b → cond b n (totals head) ≤ totals head + 1
    by true e = let same : totals head ≡ totals at = ap totals (eqb-true head at e) in omega arith
    by false e = omega arith

by_head : (o : Option monitor.BoundedLoop) (frame : monitor.Frame) (callers : List monitor.Frame) (totals : ℕ → ℕ) → GrowsByOne totals (monitor.at_head o frame callers totals)
by_head None frame callers totals = λ head. omega arith
by_head (Some l) frame callers totals =
    let back = monitor.goes_back l frame in
    let total = monitor.total_into l frame totals in
    let passed = monitor.with_counts l frame callers totals in
    either totals (ltb l.maxcount (monitor.count_into l frame)) (Err fact.Loop) (cond (back && monitor.exceeds total l.totalcount) (Err fact.Total) (Ok passed)) tt
    (either totals (back && monitor.exceeds total l.totalcount) (Err fact.Total) (Ok passed) tt (at_one totals l.head total (one_more back (totals l.head))))

by_return : (functions : List monitor.Function) (callers : List monitor.Frame) (totals : ℕ → ℕ) (to : ℕ) → GrowsByOne totals (monitor.returned functions callers totals to)
by_return functions [] totals to = λ head. omega arith
by_return functions (caller ∷ callers) totals to =
    either totals (eqb to (add_words (monitor.last_of caller) 4)) (monitor.moved_within functions caller callers totals to) (Err fact.Return)
    (by_head (monitor.loop_at functions caller.function to) caller callers totals) tt

by_jump : (rules : monitor.Rules) (frame : monitor.Frame) (callers : List monitor.Frame) (totals : ℕ → ℕ) (flow : FlowKind) (to : ℕ) → GrowsByOne totals (monitor.jumped rules frame callers totals flow to)
by_jump rules frame callers totals flow to =
    let jump = flow.indirect && not (monitor.is_target rules.branches (monitor.last_of frame) to) in
    let call = flow.call_any && not (monitor.is_target rules.calls (monitor.last_of frame) to) in
    let on = monitor.moved_within rules.functions frame callers totals to in
    let back = monitor.returned rules.functions callers totals to in
    let opened = monitor.called frame callers totals to in
    either totals jump (Err fact.Branch) (cond call (Err fact.Call) (cond (monitor.is_call flow) (Ok opened) (cond flow.ret back on))) tt
    (either totals call (Err fact.Call) (cond (monitor.is_call flow) (Ok opened) (cond flow.ret back on)) tt
    (either totals (monitor.is_call flow) (Ok opened) (cond flow.ret back on) (λ head. omega arith)
    (either totals flow.ret back on (by_return rules.functions callers totals to) (by_head (monitor.loop_at rules.functions frame.function to) frame callers totals))))

by_frames : (rules : monitor.Rules) (frames : List monitor.Frame) (totals : ℕ → ℕ) (from : Entry) (to : ℕ) → GrowsByOne totals (monitor.judged_in rules frames totals from to)
by_frames rules [] totals from to = λ head. omega arith
by_frames rules (frame ∷ callers) totals from to =
    let flow = flow_of from.word (monitor.last_of frame) in
    either totals from.taken (monitor.jumped rules frame callers totals flow to) (monitor.moved_within rules.functions frame callers totals to)
    (by_jump rules frame callers totals flow to) (by_head (monitor.loop_at rules.functions frame.function to) frame callers totals)

by_move : (rules : monitor.Rules) (executed : List runs.Executed) (watch : monitor.Watch) (to : ℕ) → GrowsByOne watch.totals (runs.watch_before rules executed watch to)
unfolding monitor.judged
by_move rules [] watch to = λ head. omega arith
by_move rules (i ∷ executed) watch to = by_frames rules watch.frames watch.totals i.done.entry to

by_outcome : (m : Machine) (run : runs.Run) (watch : monitor.Watch) (outcome : Outcome) (n : ℕ) → ((head : ℕ) → run.watch.totals head ≤ n) → ((head : ℕ) → watch.totals head ≤ run.watch.totals head + 1)
    → (head : ℕ) → (runs.after_outcome m run watch outcome).watch.totals head ≤ n + 1
by_outcome m run watch (Next went) n before more head = let p = before head in let q = more head in omega arith
by_outcome m run watch Ended n before more head = let p = before head in let q = more head in omega arith
by_outcome m run watch (Stopped why) n before more head = let p = before head in omega arith

by_judgement : (m : Machine) (image : Image) (run : runs.Run) (r : Result monitor.Watch FactKind) (n : ℕ) → ((head : ℕ) → run.watch.totals head ≤ n) → GrowsByOne run.watch.totals r
    → (head : ℕ) → (runs.after_judgement m image run r).watch.totals head ≤ n + 1
by_judgement m image run (Ok watch) n before more head = by_outcome m run watch (step m image run.state) n before more head
by_judgement m image run (Err rule) n before more head = let p = before head in omega arith

by_step : (m : Machine) (image : Image) (rules : monitor.Rules) (run : runs.Run) (end : Option runs.End) (n : ℕ) → ((head : ℕ) → run.watch.totals head ≤ n) → (head : ℕ) → (runs.advanced m image rules run end).watch.totals head ≤ n + 1
by_step m image rules run (Some end) n before head = let p = before head in omega arith
by_step m image rules run None n before head =
    by_judgement m image run (runs.watch_at rules run) n before (by_move rules run.executed run.watch (run.state.registers pc)) head

-- at most one move back for each instruction
pub few_moves : (m : Machine) (image : Image) (rules : monitor.Rules) (entry : ℕ) (start : runs.Start) (n head : ℕ) → (runs.run_of m image rules entry start n).watch.totals head ≤ n
unfolding runs.run_of
few_moves m image rules entry start zero head = omega arith
few_moves m image rules entry start (suc n) head =
    let run = runs.run_of m image rules entry start n in
    let p = by_step m image rules run run.end n (λ h. few_moves m image rules entry start n h) head in omega arith

-- so the counts at hand are few
pub are_few : (watch : monitor.Watch) (totals : ℕ → ℕ) (n : ℕ) → ((head : ℕ) → watch.totals head ≤ n) → watch.totals ≡ totals → n < most_steps → AreFew totals
are_few watch totals n small same few = record {
  each = λ head. let p = small head in let q : watch.totals head ≡ totals head = ap (λ (f : ℕ → ℕ). f head) same in omega arith;
}
