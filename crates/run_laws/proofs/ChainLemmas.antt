-- The frames of a run and its open calls.
use Rattle.std.proofs.Common.{◌≡◌, ℕ, Bool, true, false, cond, ◌&&◌, List, [], ◌∷◌, ◌++◌, map, refl, sym, ap, subst, ◌∙◌, inl, inr}
use Rattle.std.specs.Prelude.{◌⊎◌, Option, Some, None, Ok, All, IsTrue, is_some, slice_get, unwrap_or}
use Rattle.std.proofs.lemmas.Bool.{false≢true}
use Rattle.std.proofs.lemmas.List.Elements.{All-cons, All-nil, All-tail}
use Rattle.wx_base.specs.declared.flow.FlowKind.{FlowKind}
use Rattle.wx_base.specs.declared.image.Image.{Image}
use Rattle.wx_base.specs.declared.machine.Machine.{Machine}
use Rattle.wx_base.specs.Flow.{flow_of}
use Rattle.wx_base.specs.Monitor.{Rules, Watch, Frame, HaveCalled, OpenCall, chain_of, frames_at, is_outermost, last_of, leaves, opened}
use Rattle.wx_base.specs.Recurrence.{Entry}
use Rattle.wx_base.specs.Run.{Start, Run, Executed, End, Finished, Halted, Broken, end_after, entry_at, extended, run_of, watch_before}
use Rattle.wx_base.specs.State.{State, pc}
use Rattle.wx_base.specs.Step.{current_word}
use Rattle.run_laws.specs.Chains.{FramesTellLast, RunsHaveCalled, LooksHaveCalled, ChangesCalls, MovesChangeCalls}
use Rattle.run_laws.specs.Chains.ChangesCalls.{opens, closes, jumps, goes_on}
use Rattle.run_laws.proofs.MoveLemmas.{IsMove, counted, moves, same_watch}
use Rattle.run_laws.proofs.MoveLemmas.IsMove.{on, by_jump, by_call, by_return, out}
use Rattle.run_laws.proofs.RunLemmas.{IsKept, each_run}

-- ---- open calls

-- counters play no part in them
chain_counted : (frame : Frame) (counter : ℕ → ℕ) (callers : List Frame) → chain_of (counted frame counter ∷ callers) ≡ chain_of (frame ∷ callers)
chain_counted frame counter [] = refl
chain_counted frame counter (caller ∷ callers) = refl

-- the return of the start's own function leaves
pub leaving : (flow : FlowKind) (taken : Bool) (frame : Frame) (callers : List Frame) → taken ≡ true → flow.ret ≡ true → callers ≡ [] → leaves (frame ∷ callers) flow taken ≡ true
leaving flow taken frame callers t r e = λ i. t i && r i && is_outermost (frame ∷ e i)

changes : (rules : Rules) (frame : Frame) (callers : List Frame) (totals : ℕ → ℕ) (flow : FlowKind) (taken : Bool) (to : ℕ) (after : Watch)
    → leaves (frame ∷ callers) flow taken ≡ false → IsMove rules frame callers totals flow taken to after
    → ChangesCalls flow taken frame to (chain_of (frame ∷ callers)) (chain_of after.frames)
changes rules frame callers totals flow taken to after stays (on t counter e counts) = goes_on t (ap chain_of e ∙ chain_counted frame counter callers)
changes rules frame callers totals flow taken to after stays (by_jump t target no_call no_return counter e counts) = jumps t no_call no_return (ap chain_of e ∙ chain_counted frame counter callers)
changes rules frame callers totals flow taken to after stays (by_call t target call e totals_are) = opens t call (ap chain_of e)
changes rules frame callers totals flow taken to after stays (by_return t no_call ret caller others are behind counter e counts) =
    let call : OpenCall = record { site = last_of caller; callee = frame.function } in
    let before : chain_of (frame ∷ callers) ≡ chain_of (caller ∷ others) ++ call ∷ [] = ap (λ (cs : List Frame). chain_of (frame ∷ cs)) are in
    let less : chain_of (caller ∷ others) ≡ chain_of after.frames = sym (ap chain_of e ∙ chain_counted caller counter others) in
    closes (last_of caller) t no_call ret (before ∙ ap (λ (c : List OpenCall). c ++ call ∷ []) less) behind
changes rules frame callers totals flow taken to after stays (out t no_call ret none e) = absurd (false≢true (sym stays ∙ leaving flow taken frame callers t ret none))

pub moves_change_calls : MovesChangeCalls
moves_change_calls rules watch after from to frame callers are stays e =
    let flow = flow_of from.word (last_of frame) in
    subst (λ (frames : List Frame). ChangesCalls flow from.taken frame to (chain_of frames) (chain_of after.frames)) (sym are)
    (changes rules frame callers watch.totals flow from.taken to after (sym (ap (λ (frames : List Frame). leaves frames flow from.taken) are) ∙ stays)
    (moves rules watch after from to frame callers are e))

-- ---- frames

-- whether a frame has executed an instruction
abbrev pub HasCalled : Frame → Type 0
HasCalled frame = IsTrue (is_some frame.last)

-- a youngest frame, and callers that have
pub record AreCallers (frames : List Frame) : Type 0 where
  pub youngest : Frame
  pub callers : List Frame
  pub are : frames ≡ youngest ∷ callers
  pub all : All HasCalled callers

have_called : (frames : List Frame) → AreCallers frames → HaveCalled frames
have_called frames c = subst (λ (fs : List Frame). HaveCalled fs) (sym c.are) (record { each = c.all })

-- a move has led out of the start's function
record HasLeft (frames : List Frame) (flow : FlowKind) (taken : Bool) (after : List Frame) : Type 0 where
  left : leaves frames flow taken ≡ true
  none : after ≡ []

-- what a move leaves
move_called : (rules : Rules) (frame : Frame) (callers : List Frame) (totals : ℕ → ℕ) (flow : FlowKind) (taken : Bool) (to : ℕ) (after : Watch)
    → HasCalled frame → All HasCalled callers → IsMove rules frame callers totals flow taken to after → AreCallers after.frames ⊎ HasLeft (frame ∷ callers) flow taken after.frames
move_called rules frame callers totals flow taken to after last all (on t counter e counts) = inl (record { youngest = counted frame counter; callers = callers; are = e; all = all })
move_called rules frame callers totals flow taken to after last all (by_jump t target no_call no_return counter e counts) = inl (record { youngest = counted frame counter; callers = callers; are = e; all = all })
move_called rules frame callers totals flow taken to after last all (by_call t target call e totals_are) = inl (record { youngest = opened to; callers = frame ∷ callers; are = e; all = All-cons HasCalled frame callers last all })
move_called rules frame callers totals flow taken to after last all (by_return t no_call ret caller others are behind counter e counts) =
    inl (record { youngest = counted caller counter; callers = others; are = e; all = All-tail HasCalled caller others (subst (λ (cs : List Frame). All HasCalled cs) are all) })
move_called rules frame callers totals flow taken to after last all (out t no_call ret none e) = inr (record { left = leaving flow taken frame callers t ret none; none = e })

-- ---- along a run

-- the address executed last
abbrev pub last_executed : List Executed → Option ℕ
last_executed executed = slice_get (map (λ i. i.address) executed) 0

-- whether the instruction executed last leads out of the start's function
abbrev pub leads_out : List Executed → List Frame → Bool
leads_out [] frames = false
leads_out (i ∷ executed) frames = leaves frames (flow_of i.done.entry.word i.address) i.done.entry.taken

-- the frames of a run tell what was executed, and a run that goes on is in the start's function or in one that was called
pub record IsTold (run : Run) : Type 0 where
  pub youngest : Frame
  pub callers : List Frame
  pub are : run.watch.frames ≡ youngest ∷ callers
  pub last : youngest.last ≡ last_executed run.executed
  pub all : All HasCalled callers
  pub stays : run.end ≡ None → leads_out run.executed run.watch.frames ≡ false

outermost_at : (frames : List Frame) (address : ℕ) → is_outermost (frames_at frames address) ≡ is_outermost frames
outermost_at [] address = refl
outermost_at (frame ∷ []) address = refl
outermost_at (frame ∷ caller ∷ callers) address = refl

leaves_at : (frames : List Frame) (address : ℕ) (flow : FlowKind) (taken : Bool) → leaves (frames_at frames address) flow taken ≡ leaves frames flow taken
leaves_at frames address flow taken = ap (λ b. taken && flow.ret && b) (outermost_at frames address)

goes_on_inside : (b : Bool) → cond b (Some Finished) None ≡ None → b ≡ false
goes_on_inside true e = cc
goes_on_inside false e = refl

has_last : (frame : Frame) (a : ℕ) → frame.last ≡ Some a → HasCalled frame
has_last frame a e = ap is_some e

module _ (rules : Rules) (run : Run) (told : IsTold run) (watch : Watch) (to : ℕ) where
  -- the frames when the machine looks at the next instruction
  looked : (executed : List Executed) → run.executed ≡ executed → watch_before rules executed run.watch to ≡ Ok watch
      → AreCallers watch.frames ⊎ ((leads_out executed run.watch.frames ≡ true) × (watch.frames ≡ []))
  looked [] is e = inl (subst (λ (w : Watch). AreCallers w.frames) (same_watch run.watch watch e) (record { youngest = told.youngest; callers = told.callers; are = told.are; all = told.all }))
  looked (i ∷ executed) is e =
      let last : told.youngest.last ≡ Some i.address = told.last ∙ ap last_executed is in
      let at : last_of told.youngest ≡ i.address = ap (λ (o : Option ℕ). unwrap_or o 0) last in
      let flow = flow_of i.done.entry.word (last_of told.youngest) in
      elim (move_called rules told.youngest told.callers run.watch.totals flow i.done.entry.taken to watch (has_last told.youngest i.address last) told.all
      (moves rules run.watch watch i.done.entry to told.youngest told.callers told.are e)) [
        | inl c ↦ inl c
        | inr l ↦ inr (
          ap (λ (fs : List Frame). leaves fs (flow_of i.done.entry.word i.address) i.done.entry.taken) told.are
              ∙ ap (λ (a : ℕ). leaves (told.youngest ∷ told.callers) (flow_of i.done.entry.word a) i.done.entry.taken) (sym at) ∙ l.left,
          l.none,
        )
      ]

  pub looked_in : run.end ≡ None → watch_before rules run.executed run.watch to ≡ Ok watch → AreCallers watch.frames
  looked_in going e = elim (looked run.executed refl e) [ inl c ↦ c | inr l ↦ absurd (false≢true (sym (told.stays going) ∙ l.0)) ]

  pub looked_called : watch_before rules run.executed run.watch to ≡ Ok watch → HaveCalled watch.frames
  looked_called e = elim (looked run.executed refl e) [
    | inl c ↦ have_called watch.frames c
    | inr l ↦ subst (λ (fs : List Frame). HaveCalled fs) (sym l.1) (record { each = All-nil HasCalled })
  ]

module _ (machine : Machine) (image : Image) (rules : Rules) (entry : ℕ) (start : Start) where
  told_on : (run : Run) (watch : Watch) (e : Entry) (state : State) (end : Option End) → AreCallers watch.frames
      → (end ≡ None → leaves watch.frames (flow_of e.word (run.state.registers pc)) e.taken ≡ false) → IsTold (extended machine run watch e state end)
  told_on run watch e state end c stays = record {
    youngest = record c.youngest { last = Some (run.state.registers pc) };
    callers = c.callers;
    are = ap (λ (fs : List Frame). frames_at fs (run.state.registers pc)) c.are;
    last = refl;
    all = c.all;
    stays = λ going. leaves_at watch.frames (run.state.registers pc) (flow_of e.word (run.state.registers pc)) e.taken ∙ stays going;
  }

  -- an end changes nothing
  told_still : (run : Run) (end : End) → IsTold run → IsTold (record run { end = Some end })
  told_still run end told = record {
    youngest = told.youngest;
    callers = told.callers;
    are = told.are;
    last = told.last;
    all = told.all;
    stays = λ open_end. let none : Some end ≡ None = open_end in cc;
  }

  pub told_kept : IsKept machine image rules entry start IsTold
  told_kept = record {
    begins_so = record { youngest = opened entry; callers = []; are = refl; last = refl; all = All-nil HasCalled; stays = λ going. refl };
    goes_on_so = λ run watch went told going allowed is.
        told_on run watch (entry_at machine run went.taken went.slow) went.state (end_after run watch went.taken)
        (looked_in rules run told watch (run.state.registers pc) going allowed)
        (λ open_end. goes_on_inside (leaves watch.frames (flow_of (current_word run.state) (run.state.registers pc)) went.taken) open_end);
    ends_so = λ run watch told going allowed is.
        told_on run watch (entry_at machine run false false) run.state (Some Finished)
        (looked_in rules run told watch (run.state.registers pc) going allowed)
        (λ open_end. let none : Some Finished ≡ None = open_end in cc);
    stops_so = λ run watch why told going allowed is. told_still run (Halted why) told;
    breaks_so = λ run breach told. told_still run (Broken breach) told;
  }

  pub told : (n : ℕ) → IsTold (run_of machine image rules entry start n)
  told n = each_run machine image rules entry start IsTold told_kept n

pub frames_tell_last : FramesTellLast
frames_tell_last machine image rules entry start n =
    let t = told machine image rules entry start n in record { youngest = t.youngest; callers = t.callers; are = t.are; last = t.last }

pub runs_have_called : RunsHaveCalled
runs_have_called machine image rules entry start n =
    let t = told machine image rules entry start n in
    have_called (run_of machine image rules entry start n).watch.frames (record { youngest = t.youngest; callers = t.callers; are = t.are; all = t.all })

pub looks_have_called : LooksHaveCalled
looks_have_called machine image rules entry start n watch e =
    let run = run_of machine image rules entry start n in
    looked_called rules run (told machine image rules entry start n) watch (run.state.registers pc) e
