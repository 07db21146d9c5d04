-- One more step of a run, and what is at hand behind it.
use Rattle.std.proofs.Common.{◌≡◌, ℕ, zero, suc, ◌+◌, Bool, true, false, cond, List, [], ◌∷◌, replicate, slice_index, Option, Some, None, option_map, Ok, sym, ap, ◌∙◌, subst, refl, arith}
use Rattle.std.specs.Option.{unwrap_or}
use Rattle.std.proofs.lemmas.Bool.{cond-false}
use Rattle.wx_base.specs.declared.facts.Facts.{Facts}
use Rattle.wx_base.specs.declared.flow.FlowKind.{FlowKind}
use Rattle.wx_base.specs.declared.image.Image.{Image}
use Rattle.wx_base.specs.declared.machine.Machine.{Machine}
use Rattle.wx_base.specs.declared.step.Why.TheVariants.{Fetch, Word}
use Rattle.wx_base.specs.Cache.{Lines, line_of, accessed}
use Rattle.wx_base.specs.Flow.{flow_of}
use Rattle.wx_base.specs.Image.{is_code_word}
use Rattle.wx_base.specs.Instruction.{Kind, kind_of}
use Rattle.wx_base.specs.Monitor as monitor
use Rattle.wx_base.specs.Recurrence.{Entry, Done}
use Rattle.wx_base.specs.State.{State, pc, Outcome, Went, Next, Ended, Stopped}
use Rattle.wx_base.specs.Step.{current_word, step, executed}
use Rattle.wx_base.specs.Vector.{AreWithin}
use Rattle.wx_base.specs.Run as runs
use Rattle.arm_code.specs.declared.insn.Insn.{Insn}
use Rattle.arm_code.specs.Encoding.{decoded, insn_by, word_of}
use Rattle.arm_step.specs.declared.cpu.Cpu.{Cpu}
use Rattle.arm_step.specs.Cpu.{state_of}
use Rattle.flow_graph.specs.declared.program.Program.{Program}
use Rattle.flow_graph.specs.Program.{rules_of}
use Rattle.run_machine.specs.declared.came.Came.{Came}
use Rattle.run_machine.specs.declared.monitor.Monitor.{Monitor}
use Rattle.run_machine.specs.declared.walk.Walk.{Walk}
use Rattle.run_machine.specs.Judging.{frame_of, callers_of, frames_of, totals_of, watch_of, decided, came_by, leaves_by, executed_in}
use Rattle.run_machine.specs.Walk.{Tells, done_now, Shows}

-- a vector of zeros is within each bound
zero_at : (n k : ℕ) → slice_index (replicate n 0) k ≡ 0
zero_at zero k = refl
zero_at (suc n) zero = refl
zero_at (suc n) (suc k) = zero_at n k

pub zero_within : (n bound : ℕ) → AreWithin bound (replicate n 0)
zero_within n bound = record { each = λ k. let z = zero_at n k in omega arith }

-- a word that is no instruction is not executed
none_of : {A B : Type 0} (f : A → B) (o : Option A) → option_map f o ≡ None → o ≡ None
none_of f None e = refl
none_of f (Some x) e = absurd (cc)

no_kind : (word : ℕ) → decoded word ≡ None → kind_of word ≡ None
unfolding decoded
no_kind word e = none_of (insn_by word) (kind_of word) e

step_of : (m : Machine) (image : Image) (state : State) → kind_of (current_word state) ≡ None → step m image state ≡ cond (is_code_word image (state.registers pc)) (Stopped Word) (Stopped Fetch)
unfolding step
step_of m image state none =
    ap (λ (kind : Option Kind). cond (is_code_word image (state.registers pc)) (executed m image state (current_word state) kind) (Stopped Fetch)) none

ended_not : (b : Bool) → Ended ≡ cond b (Stopped Word) (Stopped Fetch) → ⊥
ended_not true e = cc
ended_not false e = cc

next_not : (went : Went) (b : Bool) → Next went ≡ cond b (Stopped Word) (Stopped Fetch) → ⊥
next_not went true e = cc
next_not went false e = cc

pub no_end : (m : Machine) (image : Image) (state : State) → decoded (current_word state) ≡ None → Ended ≡ step m image state → ⊥
no_end m image state none e = ended_not _ (e ∙ step_of m image state (no_kind (current_word state) none))

pub no_next : (m : Machine) (image : Image) (state : State) (went : Went) → decoded (current_word state) ≡ None → Next went ≡ step m image state → ⊥
no_next m image state went none e = next_not went _ (e ∙ step_of m image state (no_kind (current_word state) none))

-- whether the run is left, by how it comes on
left_as : (frame : monitor.Frame) (callers : List monitor.Frame) (flow : FlowKind) (address : ℕ) (taken : Bool) → leaves_by (came_by taken flow) (record frame { last = Some address } ∷ callers) ≡ monitor.leaves (frame ∷ callers) flow taken
left_as frame [] flow address true = refl
left_as frame (c ∷ callers) flow address true = refl
left_as frame callers flow address false = refl

-- what the next move will be judged by
came_as : (rules : monitor.Rules) (frame : monitor.Frame) (callers : List monitor.Frame) (totals : ℕ → ℕ) (e : Entry) (address to : ℕ)
    → monitor.judged rules (record { frames = record frame { last = Some address } ∷ callers; totals = totals }) e to ≡ decided rules (came_by e.taken (flow_of e.word address)) (record frame { last = Some address }) callers totals to
unfolding monitor.judged
came_as rules frame callers totals e address to = by e.taken
  where
    by : (taken : Bool) → cond taken (monitor.jumped rules (record frame { last = Some address }) callers totals (flow_of e.word address) to) (monitor.moved_within rules.functions (record frame { last = Some address }) callers totals to)
        ≡ decided rules (came_by taken (flow_of e.word address)) (record frame { last = Some address }) callers totals to
    by true = refl
    by false = refl

-- one more step, by what the machine does
advance_is : (m : Machine) (image : Image) (rules : monitor.Rules) (run : runs.Run) (watch : monitor.Watch) (outcome : Outcome) → run.end ≡ None → runs.watch_before rules run.executed run.watch (run.state.registers pc) ≡ Ok watch → step m image run.state ≡ outcome
    → runs.advanced m image rules run run.end ≡ runs.after_outcome m run watch outcome
advance_is m image rules run watch outcome e f s =
    ap (runs.advanced m image rules run) e ∙ ap (runs.after_judgement m image run) f ∙ ap (runs.after_outcome m run watch) s

-- the step of a run that goes on
pub went_on : (m : Machine) (image : Image) (facts : Facts) (program : Program) (run : runs.Run) (old new : Walk) (j : Monitor) (cpu : Cpu) (insn : Insn) (address : ℕ) (taken slow : Bool) → Shows m image facts program run old
    → decided (rules_of facts program) old.came (frame_of program.functions old.monitor.current) (callers_of program.functions old.monitor) (totals_of old.monitor.totals) address ≡ Ok (watch_of program.functions j)
    → address ≡ slice_index old.cpu.regs 15
    → step m image (state_of image old.cpu) ≡ Next (record { state = state_of image cpu; taken = taken; slow = slow })
    → word_of insn ≡ current_word (state_of image old.cpu)
    → false ≡ leaves_by (came_by taken (flow_of (word_of insn) address)) (frames_of program.functions (executed_in j address))
    → new.cpu ≡ cpu → new.clock.steps ≡ old.clock.steps + 1 → new.monitor ≡ executed_in j address → new.came ≡ came_by taken (flow_of (word_of insn) address)
    → ((past : List Done) (cache : Lines) → Tells m past cache old.clock → Tells m (done_now m past cache (word_of insn) address taken slow ∷ past) (accessed m.shape cache (line_of m.shape address)) new.clock)
    → Shows m image facts program (runs.advanced m image (rules_of facts program) run run.end) new
went_on m image facts program run old new j cpu insn address taken slow s judged at stepped word stays cpu_is steps_are monitor_is came_is told =
    let functions = program.functions in
    let rules = rules_of facts program in
    let here : run.state.registers pc ≡ address = ap (λ (state : State). state.registers pc) s.state ∙ sym at in
    let same_word : current_word run.state ≡ word_of insn = ap current_word s.state ∙ sym word in
    let flow_is : flow_of (current_word run.state) (run.state.registers pc) ≡ flow_of (word_of insn) address = ap (λ (w : ℕ). flow_of w (run.state.registers pc)) same_word ∙ ap (flow_of (word_of insn)) here in
    let watch : runs.watch_before rules run.executed run.watch (run.state.registers pc) ≡ Ok (watch_of functions j) = ap (runs.watch_before rules run.executed run.watch) here ∙ s.came address ∙ judged in
    let went : Went = record { state = state_of image cpu; taken = taken; slow = slow } in
    let next : step m image run.state ≡ Next went = ap (step m image) s.state ∙ stepped in
    let leaves : monitor.leaves (frames_of functions j) (flow_of (current_word run.state) (run.state.registers pc)) taken ≡ false = ap (λ (flow : FlowKind). monitor.leaves (frames_of functions j) flow taken) flow_is ∙ sym (left_as (frame_of functions j.current) (callers_of functions j) (flow_of (word_of insn) address) address taken) ∙ sym stays in
    let P : runs.Run → Type 0 = λ r. Shows m image facts program r new in
    subst P {x = runs.after_outcome m run (watch_of functions j) (Next went)} (sym (advance_is m image rules run (watch_of functions j) (Next went) s.going watch next))
    (behind leaves here same_word flow_is)
  where
    behind : monitor.leaves (frames_of program.functions j) (flow_of (current_word run.state) (run.state.registers pc)) taken ≡ false → run.state.registers pc ≡ address → current_word run.state ≡ word_of insn → flow_of (current_word run.state) (run.state.registers pc) ≡ flow_of (word_of insn) address
        → Shows m image facts program (runs.after_outcome m run (watch_of program.functions j) (Next (record { state = state_of image cpu; taken = taken; slow = slow }))) new
    behind leaves here same_word flow_is =
        let rules = rules_of facts program in
        let functions = program.functions in
        let frame = frame_of program.functions j.current in
        let callers = callers_of program.functions j in
        let totals = totals_of j.totals in
        let P : ℕ → ℕ → Type 0 = λ w a. Tells m (done_now m (runs.dones run.executed) run.cache w a taken slow ∷ runs.dones run.executed) (accessed m.shape run.cache (line_of m.shape a)) new.clock in
        record {
          going = cond-false (monitor.leaves (frames_of program.functions j) (flow_of (current_word run.state) (run.state.registers pc)) taken) (Some runs.Finished) None leaves;
          state = ap (state_of image) (sym cpu_is);
          told = subst (λ a. P (current_word run.state) a) (sym here) (subst (λ w. P w address) (sym same_word) (told (runs.dones run.executed) run.cache s.told));
          steps = let n = s.steps in omega arith;
          watch = ap (λ (a : ℕ). watch_of functions (executed_in j a)) here ∙ ap (watch_of functions) (sym monitor_is);
          came = λ to. came_as rules frame callers totals (runs.entry_at m run taken slow) (run.state.registers pc) to
              ∙ ap (λ (flow : FlowKind). decided rules (came_by taken flow) (record frame { last = Some (run.state.registers pc) }) callers totals to) flow_is
              ∙ ap (λ (a : ℕ). decided rules (came_by taken (flow_of (word_of insn) address)) (record frame { last = Some a }) callers totals to) here
              ∙ ap (λ (came : Came). decided rules came (record frame { last = Some address }) callers totals to) (sym came_is)
              ∙ ap (λ (mon : Monitor). decided rules new.came (frame_of functions mon.current) (callers_of functions mon) (totals_of mon.totals) to) (sym monitor_is);
          last = here ∙ ap (λ (mon : Monitor). unwrap_or mon.current.last 0) (sym monitor_is);
        }
