-- The frames and the open calls of a run. This project's own.
use Rattle.std.specs.Prelude.{◌≡◌, ℕ, ◌++◌, Bool, true, false, List, [], ◌∷◌, map, slice_get, Ok}
use Rattle.wx_base.specs.declared.flow.FlowKind.{FlowKind}
use Rattle.wx_base.specs.declared.image.Image.{Image}
use Rattle.wx_base.specs.declared.machine.Machine.{Machine}
use Rattle.wx_base.specs.Bits.{add_words}
use Rattle.wx_base.specs.Flow.{flow_of}
use Rattle.wx_base.specs.Monitor.{Rules, Watch, Frame, HaveCalled, OpenCall, chain_of, is_call, judged, last_of, leaves}
use Rattle.wx_base.specs.Recurrence.{Entry}
use Rattle.wx_base.specs.Run.{Executed, Start, run_of, watch_at}

-- there is a youngest frame, and it tells the address executed last, none where nothing was executed
pub record TellLast (executed : List Executed) (frames : List Frame) : Type 0 where
  pub youngest : Frame
  pub callers : List Frame
  pub are : frames ≡ youngest ∷ callers
  pub last : youngest.last ≡ slice_get (map (λ i. i.address) executed) 0

abbrev pub FramesTellLast : Type 0
FramesTellLast = (machine : Machine) (image : Image) (rules : Rules) (entry : ℕ) (start : Start) (n : ℕ)
    → TellLast (run_of machine image rules entry start n).executed (run_of machine image rules entry start n).watch.frames

-- every open call of a run was made by an instruction that the run executed
abbrev pub RunsHaveCalled : Type 0
RunsHaveCalled = (machine : Machine) (image : Image) (rules : Rules) (entry : ℕ) (start : Start) (n : ℕ)
    → HaveCalled (run_of machine image rules entry start n).watch.frames

-- so it is when the machine looks at the next instruction
abbrev pub LooksHaveCalled : Type 0
LooksHaveCalled = (machine : Machine) (image : Image) (rules : Rules) (entry : ℕ) (start : Start) (n : ℕ) (watch : Watch)
    → watch_at rules (run_of machine image rules entry start n) ≡ Ok watch → HaveCalled watch.frames

-- What a move of the youngest frame to an address makes of the open calls: a call that is taken puts one behind them, made at
-- the frame's last address; a return that is taken closes the last of them and leads to the address behind it; every other move
-- leaves them.
pub data ChangesCalls (flow : FlowKind) (taken : Bool) (frame : Frame) (to : ℕ) (before after : List OpenCall) : Type 0 where
  opens : taken ≡ true → is_call flow ≡ true → after ≡ before ++ record { site = last_of frame; callee = to } ∷ []
      → ChangesCalls flow taken frame to before after
  closes : (site : ℕ) → taken ≡ true → is_call flow ≡ false → flow.ret ≡ true
      → before ≡ after ++ record { site = site; callee = frame.function } ∷ [] → to ≡ add_words site 4
      → ChangesCalls flow taken frame to before after
  jumps : taken ≡ true → is_call flow ≡ false → flow.ret ≡ false → after ≡ before → ChangesCalls flow taken frame to before after
  goes_on : taken ≡ false → after ≡ before → ChangesCalls flow taken frame to before after

-- each move that breaks no rule does so, but for the return that ends the run
abbrev pub MovesChangeCalls : Type 0
MovesChangeCalls = (rules : Rules) (watch after : Watch) (from : Entry) (to : ℕ) (frame : Frame) (callers : List Frame)
    → watch.frames ≡ frame ∷ callers → leaves watch.frames (flow_of from.word (last_of frame)) from.taken ≡ false
    → judged rules watch from to ≡ Ok after
    → ChangesCalls (flow_of from.word (last_of frame)) from.taken frame to (chain_of watch.frames) (chain_of after.frames)
