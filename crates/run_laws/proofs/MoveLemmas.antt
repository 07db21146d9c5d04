-- What a move makes of the frames.
use Rattle.std.proofs.Common.{◌≡◌, ℕ, Bool, true, false, cond, not, ◌&&◌, ◌==◌, ◌≤◌, eqb, List, [], ◌∷◌, refl, sym, ap, ◌∙◌, arith}
use Rattle.std.specs.Prelude.{Option, Some, None, Result, Ok, Err, nat_lt}
use Rattle.std.proofs.lemmas.Bool.{false≢true}
use Rattle.std.proofs.lemmas.Bool.Decides.{nat_tests}
use Rattle.wx_base.specs.declared.fact_kind.FactKind.{FactKind}
use Rattle.wx_base.specs.declared.fact_kind.FactKind.TheVariants.{Branch, Call, Return, Loop, Total}
use Rattle.wx_base.specs.declared.flow.FlowKind.{FlowKind}
use Rattle.wx_base.specs.Bits.{add_words}
use Rattle.wx_base.specs.Flow.{flow_of}
use Rattle.wx_base.specs.Monitor.{at_head as into_head}
use Rattle.wx_base.specs.Monitor.{BoundedLoop, Function, Rules, Watch, Frame, opened, called, count_into, exceeds, goes_back, is_call, is_target, judged, judged_in, jumped, last_of, loop_at, moved_within, returned, total_into, with_counts}
use Rattle.wx_base.specs.Recurrence.{Entry}
use Rattle.wx_base.specs.State.{replaced}
use Rattle.run_laws.specs.Moving.{Counts}
use Rattle.run_laws.specs.Moving.Counts.{at_head, elsewhere}

-- the frame with other counters
abbrev pub counted : Frame → (ℕ → ℕ) → Frame
counted frame counter = record frame { counter = counter }

-- an indirect jump or call leads to where the rules say
pub record IsToTarget (rules : Rules) (flow : FlowKind) (from to : ℕ) : Type 0 where
  pub indirect : flow.indirect ≡ true → is_target rules.branches from to ≡ true
  pub call_any : flow.call_any ≡ true → is_target rules.calls from to ≡ true

-- a move of the youngest frame that breaks no rule: on, by a jump, by a call, by a return, or out of the start's function
pub data IsMove (rules : Rules) (frame : Frame) (callers : List Frame) (totals : ℕ → ℕ) (flow : FlowKind) (taken : Bool) (to : ℕ) (after : Watch) : Type 0 where
  on : taken ≡ false → (counter : ℕ → ℕ) → after.frames ≡ counted frame counter ∷ callers → Counts rules.functions frame to totals counter after.totals
      → IsMove rules frame callers totals flow taken to after
  by_jump : taken ≡ true → IsToTarget rules flow (last_of frame) to → is_call flow ≡ false → flow.ret ≡ false
      → (counter : ℕ → ℕ) → after.frames ≡ counted frame counter ∷ callers → Counts rules.functions frame to totals counter after.totals
      → IsMove rules frame callers totals flow taken to after
  by_call : taken ≡ true → IsToTarget rules flow (last_of frame) to → is_call flow ≡ true → after.frames ≡ opened to ∷ frame ∷ callers → after.totals ≡ totals
      → IsMove rules frame callers totals flow taken to after
  by_return : taken ≡ true → is_call flow ≡ false → flow.ret ≡ true → (caller : Frame) (others : List Frame) → callers ≡ caller ∷ others
      → to ≡ add_words (last_of caller) 4 → (counter : ℕ → ℕ) → after.frames ≡ counted caller counter ∷ others
      → Counts rules.functions caller to totals counter after.totals → IsMove rules frame callers totals flow taken to after
  out : taken ≡ true → is_call flow ≡ false → flow.ret ≡ true → callers ≡ [] → after.frames ≡ [] → IsMove rules frame callers totals flow taken to after

-- ---- moves inside a function

-- only the counters change, and the totals
record IsWithin (functions : List Function) (frame : Frame) (callers : List Frame) (totals : ℕ → ℕ) (to : ℕ) (after : Watch) : Type 0 where
  counter : ℕ → ℕ
  frames : after.frames ≡ counted frame counter ∷ callers
  counts : Counts functions frame to totals counter after.totals

-- a judgement that breaks no rule
abbrev pub passed : Watch → Result Watch FactKind
passed watch = Ok watch

pub same_watch : (a b : Watch) → passed a ≡ passed b → a ≡ b
same_watch a b e = cc

not_less : (m n : ℕ) → nat_lt m n ≡ false → n ≤ m
not_less m n e = grind (arith, nat_tests)

module _ (functions : List Function) (frame : Frame) (callers : List Frame) (totals : ℕ → ℕ) (to : ℕ) (after : Watch) where
  within_total : (back over : Bool) → (back && over) ≡ false → back ≡ true → over ≡ false
  within_total true over e is = e
  within_total false over e is = absurd (false≢true is)

  at_loop : (loop : BoundedLoop) → loop_at functions frame.function to ≡ Some loop → (b c : Bool)
      → nat_lt loop.maxcount (count_into loop frame) ≡ b → (goes_back loop frame && exceeds (total_into loop frame totals) loop.totalcount) ≡ c
      → cond b (Err Loop) (cond c (Err Total) (Ok (with_counts loop frame callers totals))) ≡ Ok after → IsWithin functions frame callers totals to after
  at_loop loop found true c stay whole e = cc
  at_loop loop found false true stay whole e = cc
  at_loop loop found false false stay whole e =
      let same : with_counts loop frame callers totals ≡ after = same_watch (with_counts loop frame callers totals) after e in
      record {
        counter = replaced frame.counter loop.head (count_into loop frame);
        frames = sym (ap (λ (w : Watch). w.frames) same);
        counts = at_head loop found refl (not_less loop.maxcount (count_into loop frame) stay) (sym (ap (λ (w : Watch). w.totals) same))
            (within_total (goes_back loop frame) (exceeds (total_into loop frame totals) loop.totalcount) whole);
      }

  at_some_head : (loop : Option BoundedLoop) → loop_at functions frame.function to ≡ loop → into_head loop frame callers totals ≡ Ok after → IsWithin functions frame callers totals to after
  at_some_head None found e =
      let still : Watch = record { frames = frame ∷ callers; totals = totals } in
      let same : still ≡ after = same_watch still after e in
      record {
        counter = frame.counter;
        frames = sym (ap (λ (w : Watch). w.frames) same);
        counts = elsewhere found refl (sym (ap (λ (w : Watch). w.totals) same));
      }
  at_some_head (Some loop) found e =
      at_loop loop found (nat_lt loop.maxcount (count_into loop frame)) (goes_back loop frame && exceeds (total_into loop frame totals) loop.totalcount) refl refl e

  within : moved_within functions frame callers totals to ≡ Ok after → IsWithin functions frame callers totals to after
  within e = at_some_head (loop_at functions frame.function to) refl e

-- ---- moves by a jump, a call or a return

same_number : (m n : ℕ) → eqb m n ≡ true → m ≡ n
same_number m n e = grind (arith, nat_tests)

module _ (rules : Rules) (frame : Frame) (totals : ℕ → ℕ) (flow : FlowKind) (to : ℕ) (after : Watch) where
  return_behind : (caller : Frame) (others : List Frame) → is_call flow ≡ false → flow.ret ≡ true → (b : Bool) → (to == add_words (last_of caller) 4) ≡ b
      → cond b (moved_within rules.functions caller others totals to) (Err Return) ≡ Ok after → IsMove rules frame (caller ∷ others) totals flow true to after
  return_behind caller others no_call ret true is e =
      let w = within rules.functions caller others totals to after e in
      by_return refl no_call ret caller others refl (same_number to (add_words (last_of caller) 4) is) w.counter w.frames w.counts
  return_behind caller others no_call ret false is e = cc

  returns : (callers : List Frame) → is_call flow ≡ false → flow.ret ≡ true → returned rules.functions callers totals to ≡ Ok after → IsMove rules frame callers totals flow true to after
  returns [] no_call ret e = out refl no_call ret refl (sym (ap (λ (w : Watch). w.frames) (same_watch (record { frames = []; totals = totals }) after e)))
  returns (caller ∷ others) no_call ret e = return_behind caller others no_call ret (to == add_words (last_of caller) 4) refl e

  jump_or_return : (callers : List Frame) → IsToTarget rules flow (last_of frame) to → is_call flow ≡ false → (b : Bool) → flow.ret ≡ b
      → cond b (returned rules.functions callers totals to) (moved_within rules.functions frame callers totals to) ≡ Ok after → IsMove rules frame callers totals flow true to after
  jump_or_return callers target no_call true ret e = returns callers no_call ret e
  jump_or_return callers target no_call false ret e =
      let w = within rules.functions frame callers totals to after e in by_jump refl target no_call ret w.counter w.frames w.counts

  call_or_not : (callers : List Frame) → IsToTarget rules flow (last_of frame) to → (b : Bool) → is_call flow ≡ b
      → cond b (Ok (called frame callers totals to)) (cond flow.ret (returned rules.functions callers totals to) (moved_within rules.functions frame callers totals to)) ≡ Ok after
      → IsMove rules frame callers totals flow true to after
  call_or_not callers target true is e =
      let same : called frame callers totals to ≡ after = same_watch (called frame callers totals to) after e in
      by_call refl target is (sym (ap (λ (w : Watch). w.frames) same)) (sym (ap (λ (w : Watch). w.totals) same))
  call_or_not callers target false is e = jump_or_return callers target is flow.ret refl e

  -- a test that is not failed
  told : (asks known : Bool) → (asks && not known) ≡ false → asks ≡ true → known ≡ true
  told asks true e a = refl
  told asks false e a = absurd (false≢true (sym e ∙ ap (λ b. b && true) a))

  targets_told : (callers : List Frame) (b c : Bool) → (flow.indirect && not (is_target rules.branches (last_of frame) to)) ≡ b → (flow.call_any && not (is_target rules.calls (last_of frame) to)) ≡ c
      → cond b (Err Branch) (cond c (Err Call) (cond (is_call flow) (Ok (called frame callers totals to)) (cond flow.ret (returned rules.functions callers totals to) (moved_within rules.functions frame callers totals to)))) ≡ Ok after
      → IsMove rules frame callers totals flow true to after
  targets_told callers true c p q e = cc
  targets_told callers false true p q e = cc
  targets_told callers false false p q e =
      call_or_not callers (record { indirect = told flow.indirect (is_target rules.branches (last_of frame) to) p; call_any = told flow.call_any (is_target rules.calls (last_of frame) to) q })
      (is_call flow) refl e

  by_taken : (callers : List Frame) (taken : Bool) → cond taken (jumped rules frame callers totals flow to) (moved_within rules.functions frame callers totals to) ≡ Ok after → IsMove rules frame callers totals flow taken to after
  by_taken callers true e = targets_told callers _ _ refl refl e
  by_taken callers false e = let w = within rules.functions frame callers totals to after e in on refl w.counter w.frames w.counts

-- each move that is judged without a breach is one of these
pub moves : (rules : Rules) (watch after : Watch) (from : Entry) (to : ℕ) (frame : Frame) (callers : List Frame) → watch.frames ≡ frame ∷ callers → judged rules watch from to ≡ Ok after
    → IsMove rules frame callers watch.totals (flow_of from.word (last_of frame)) from.taken to after
unfolding judged
moves rules watch after from to frame callers are e =
    by_taken rules frame watch.totals (flow_of from.word (last_of frame)) to after callers from.taken
    (sym (ap (λ (frames : List Frame). judged_in rules frames watch.totals from to) are) ∙ e)
