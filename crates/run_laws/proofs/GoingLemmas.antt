-- How a run goes on.
use Rattle.std.proofs.Common.{◌≡◌, ℕ, Bool, true, false, cond, ◌||◌, List, [], ◌∷◌, refl, sym, ap, subst, ◌∙◌}
use Rattle.std.specs.Prelude.{Option, Some, None, Ok, Any, Contains, is_some, option_to_list, unwrap_or}
use Rattle.std.proofs.lemmas.Bool.{false≢true}
use Rattle.std.proofs.lemmas.List.Elements.{All-weaker, Contains-append_left, Contains-append_right}
use Rattle.wx_base.specs.declared.facts.Facts.{Facts}
use Rattle.wx_base.specs.declared.flow.FlowKind.{FlowKind}
use Rattle.wx_base.specs.declared.image.Image.{Image}
use Rattle.wx_base.specs.declared.machine.Machine.{Machine}
use Rattle.wx_base.specs.Facts.{targets_of}
use Rattle.wx_base.specs.Flow.{flow_of}
use Rattle.wx_base.specs.Functions.{callees_by}
use Rattle.wx_base.specs.Monitor.{Rules, Watch, Frame, is_call, is_target, last_of, leaves}
use Rattle.wx_base.specs.Run.{Start, Run, Executed, End, Finished, Halted, Broken, run_of, watch_at, watch_before}
use Rattle.wx_base.specs.State.{pc}
use Rattle.wx_base.specs.Step.{current_word}
use Rattle.run_laws.specs.Flowing.{IsTakenTo, GoesBehind, FollowsFlow}
use Rattle.run_laws.specs.Flowing.IsTakenTo.{jump, call, call_any, ret, indirect}
use Rattle.run_laws.specs.Moving.{GoesTo, executed_flow, jumps_of, RunsGoByFlow, FramesAreListed}
use Rattle.run_laws.specs.Moving.GoesTo.{behind, jumps, calls, returns}
use Rattle.run_laws.specs.Reached.{TakesTargets, IsInFunction}
use Rattle.run_laws.proofs.ChainLemmas.{IsTold, last_executed, leads_out, leaving, told}
use Rattle.run_laws.proofs.FlowLemmas.{steps_follow_flow}
use Rattle.run_laws.proofs.MoveLemmas.{IsMove, IsToTarget, moves}
use Rattle.run_laws.proofs.MoveLemmas.IsMove.{on, by_jump, by_call, by_return, out}
use Rattle.run_laws.proofs.ReachLemmas.{callee_of_call, callee_of_target, call_alone, chosen_there, listed_there, some_there}
use Rattle.run_laws.proofs.RunLemmas.{IsKept, each_run}
use Rattle.run_laws.proofs.StayLemmas.{frames_stay_in_functions}

-- ---- one move

module _ (facts : Facts) (rules : Rules) (targets : TakesTargets facts rules) (frame : Frame) (callers : List Frame) (address word to : ℕ) (last : frame.last ≡ Some address) where
  at : last_of frame ≡ address
  at = ap (λ (o : Option ℕ). unwrap_or o 0) last

  known_branch : is_target rules.branches (last_of frame) to ≡ true → Contains (targets_of facts.branches address) to
  known_branch e = listed_there (targets_of facts.branches address) to (sym (λ i. is_target (targets.branches i) (at i) to) ∙ e)

  known_call : is_target rules.calls (last_of frame) to ≡ true → is_target facts.calls address to ≡ true
  known_call e = sym (λ i. is_target (targets.calls i) (at i) to) ∙ e

  no_call_parts : (a b : Bool) → (a || b) ≡ false → (a ≡ true → ⊥) × (b ≡ true → ⊥)
  no_call_parts true b e = absurd (false≢true (sym e))
  no_call_parts false true e = absurd (false≢true (sym e))
  no_call_parts false false e = (λ f. false≢true f, λ f. false≢true f)

  abbrev flow : FlowKind
  flow = flow_of word address

  jump_there : IsTakenTo flow to → IsToTarget rules flow (last_of frame) to → is_call flow ≡ false → flow.ret ≡ false → Contains (jumps_of facts address flow) to
  jump_there (jump e) target no_call no_return =
      Contains-append_left (option_to_list flow.jump) (cond flow.indirect (targets_of facts.branches address) []) to (some_there flow.jump to e)
  jump_there (call e) target no_call no_return = absurd ((no_call_parts (is_some flow.call) flow.call_any no_call).0 (ap is_some e))
  jump_there (call_any e) target no_call no_return = absurd ((no_call_parts (is_some flow.call) flow.call_any no_call).1 e)
  jump_there (ret e) target no_call no_return = absurd (false≢true (sym no_return ∙ e))
  jump_there (indirect e) target no_call no_return =
      Contains-append_right (option_to_list flow.jump) (cond flow.indirect (targets_of facts.branches address) []) to
      (chosen_there flow.indirect (targets_of facts.branches address) to e (known_branch (target.indirect e)))

  call_there : IsTakenTo flow to → IsToTarget rules flow (last_of frame) to → is_call flow ≡ true → Contains (callees_by facts address flow) to
  call_there (jump e) target is = absurd (let n = (call_alone word address is).no_jump in let f : None ≡ Some to = sym n ∙ e in cc)
  call_there (call e) target is = callee_of_call facts address flow to e
  call_there (call_any e) target is = callee_of_target facts address flow to e (known_call (target.call_any e))
  call_there (ret e) target is = absurd (false≢true (sym (call_alone word address is).no_return ∙ e))
  call_there (indirect e) target is = absurd (false≢true (sym (call_alone word address is).direct ∙ e))

module _ (facts : Facts) (rules : Rules) (targets : TakesTargets facts rules) (frame : Frame) (callers : List Frame) (totals : ℕ → ℕ) (i : Executed) (to : ℕ) (after : Watch)
    (last : frame.last ≡ Some i.address) where
  abbrev before : Watch
  before = record { frames = frame ∷ callers; totals = totals }

  goes_to : (i.done.entry.taken ≡ false → GoesBehind (executed_flow i) i.done.entry.word i.address to) → (i.done.entry.taken ≡ true → IsTakenTo (executed_flow i) to)
      → leaves (frame ∷ callers) (executed_flow i) i.done.entry.taken ≡ false → IsMove rules frame callers totals (executed_flow i) i.done.entry.taken to after
      → GoesTo facts rules.functions i to before after
  goes_to untaken away stays (on t counter are counts) =
      behind t (untaken t) (record { youngest = frame; callers = callers; were = refl; counter = counter; are = are; counts = counts })
  goes_to untaken away stays (by_jump t target no_call no_return counter are counts) =
      jumps t (jump_there facts rules targets frame callers i.address i.done.entry.word to last (away t) target no_call no_return)
      (record { youngest = frame; callers = callers; were = refl; counter = counter; are = are; counts = counts })
  goes_to untaken away stays (by_call t target is are totals_are) =
      calls t (call_there facts rules targets frame callers i.address i.done.entry.word to last (away t) target is) are totals_are
  goes_to untaken away stays (by_return t no_call back caller others split at_call counter are counts) =
      returns frame caller others t back (ap (λ (cs : List Frame). frame ∷ cs) split) at_call
      (record { youngest = caller; callers = others; were = refl; counter = counter; are = are; counts = counts })
  goes_to untaken away stays (out t no_call back none are) = absurd (false≢true (sym stays ∙ leaving (executed_flow i) i.done.entry.taken frame callers t back none))

-- ---- along a run

-- a run that goes on is where its last instruction leads
abbrev IsLed : List Executed → ℕ → Type 0
IsLed [] to = Unit {0}
IsLed (i ∷ executed) to =
    (i.done.entry.taken ≡ false → GoesBehind (flow_of i.done.entry.word i.address) i.done.entry.word i.address to)
    × (i.done.entry.taken ≡ true → IsTakenTo (flow_of i.done.entry.word i.address) to)

record LedOn (run : Run) : Type 0 where
  led : run.end ≡ None → IsLed run.executed (run.state.registers pc)

not_over : (end : End) {A : Type 0} → Some end ≡ None → A
not_over end e = absurd (cc)

module _ (machine : Machine) (image : Image) (rules : Rules) (entry : ℕ) (start : Start) where
  led_kept : IsKept machine image rules entry start LedOn
  led_kept = record {
    begins_so = record { led = λ going. tt };
    goes_on_so = λ run watch went so going allowed is.
        let follows : FollowsFlow (flow_of (current_word run.state) (run.state.registers pc)) (current_word run.state) (run.state.registers pc) went = steps_follow_flow machine image run.state went is in
        record { led = λ open_end. (follows.on, follows.taken) };
    ends_so = λ run watch so going allowed is. record { led = λ open_end. not_over Finished open_end };
    stops_so = λ run watch why so going allowed is. record { led = λ open_end. not_over (Halted why) open_end };
    breaks_so = λ run breach so. record { led = λ open_end. not_over (Broken breach) open_end };
  }

  led_on : (n : ℕ) → LedOn (run_of machine image rules entry start n)
  led_on n = each_run machine image rules entry start LedOn led_kept n

module _ (facts : Facts) (rules : Rules) (targets : TakesTargets facts rules) (run : Run) (told : IsTold run) (so : LedOn run) (going : run.end ≡ None) (watch : Watch)
    (i : Executed) (before : List Executed) (is : run.executed ≡ i ∷ before) where
  moved_on : watch_at rules run ≡ Ok watch → GoesTo facts rules.functions i (run.state.registers pc) run.watch watch
  moved_on e =
      let frame = told.youngest in
      let to = run.state.registers pc in
      let last : frame.last ≡ Some i.address = told.last ∙ ap last_executed is in
      let here : last_of frame ≡ i.address = ap (λ (o : Option ℕ). unwrap_or o 0) last in
      let led : IsLed (i ∷ before) to = subst (λ (es : List Executed). IsLed es to) is (so.led going) in
      let stays : leaves (frame ∷ told.callers) (executed_flow i) i.done.entry.taken ≡ false =
      sym (ap (λ (fs : List Frame). leaves fs (executed_flow i) i.done.entry.taken) told.are)
      ∙ sym (ap (λ (es : List Executed). leads_out es run.watch.frames) is) ∙ told.stays going in
      let judged_move = moves rules run.watch watch i.done.entry to frame told.callers told.are (sym (ap (λ (es : List Executed). watch_before rules es run.watch to) is) ∙ e) in
      subst (λ (fs : List Frame). GoesTo facts rules.functions i to (record { frames = fs; totals = run.watch.totals }) watch) (sym told.are)
      (goes_to facts rules targets frame told.callers run.watch.totals i to watch last led.0 led.1 stays
      (subst (λ (a : ℕ). IsMove rules frame told.callers run.watch.totals (flow_of i.done.entry.word a) i.done.entry.taken to watch) here judged_move))

pub runs_go_by_flow : RunsGoByFlow
runs_go_by_flow machine image facts rules entry start n i before watch targets going is e =
    moved_on facts rules targets (run_of machine image rules entry start n) (told machine image rules entry start n) (led_on machine image rules entry start n) going watch i before is e

pub frames_are_listed : FramesAreListed
frames_are_listed machine image facts rules entry start n started are =
    All-weaker (IsInFunction image facts entry) (λ (frame : Frame). Any (λ f. f.entry ≡ frame.function) rules.functions) (λ (frame : Frame) p. are.functions.whole frame.function p.function)
    (run_of machine image rules entry start n).watch.frames
    (frames_stay_in_functions machine image facts rules entry start n started (record { branches = are.branches; calls = are.calls }))
