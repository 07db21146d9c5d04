-- The frames of a run, and the open calls that they tell.
use Rattle.std.proofs.Common.{◌≡◌, ℕ, ◌++◌, true, List, [], ◌∷◌, length, refl, sym, ap, ◌∙◌, inl, inr, arith, length-append}
use Rattle.std.specs.Prelude.{◌⊎◌, Some}
use Rattle.std.proofs.lemmas.List.{map-append}
use Rattle.wx_base.specs.declared.image.Image.{Image}
use Rattle.wx_base.specs.Monitor.{Frame, chain_of, frames_at, is_call, last_of}
use Rattle.flow_block.specs.Sites.{flow_at}
use Rattle.flow_ctx.specs.declared.unfolded.Call.{Call}
use Rattle.flow_ctx.specs.Nodes.{entry_after}
use Rattle.ctx_laws.specs.Following.{IsFrameOf, call_of, calls_of}
use Rattle.ctx_laws.proofs.Lists.{heads, tails}
use Rattle.ctx_laws.proofs.Nodes.{entry_behind}

-- the frame with other counters
abbrev pub counted : Frame → (ℕ → ℕ) → Frame
counted frame counter = record frame { counter = counter }

-- the call that opened a frame
abbrev pub opening : Frame → Frame → Call
opening frame caller = record { site = last_of caller; entry = frame.function }

pub calls_pushed : (frame caller : Frame) (callers : List Frame) → calls_of (frame ∷ caller ∷ callers) ≡ calls_of (caller ∷ callers) ++ opening frame caller ∷ []
calls_pushed frame caller callers = map-append call_of (chain_of (caller ∷ callers)) (record { site = last_of caller; callee = frame.function } ∷ [])

pub calls_counted : (frame : Frame) (counter : ℕ → ℕ) (callers : List Frame) → calls_of (counted frame counter ∷ callers) ≡ calls_of (frame ∷ callers)
calls_counted frame counter [] = refl
calls_counted frame counter (caller ∷ callers) = refl

pub calls_executed : (frames : List Frame) (address : ℕ) → calls_of (frames_at frames address) ≡ calls_of frames
calls_executed [] address = refl
calls_executed (frame ∷ []) address = refl
calls_executed (frame ∷ caller ∷ callers) address = refl

module _ (image : Image) (first : ℕ) where
  -- a frame that made a call
  pub record MadeCall (frame : Frame) : Type 0 where
    pub last : frame.last ≡ Some (last_of frame)
    pub call : is_call (flow_at image (last_of frame)) ≡ true

  -- frames that begin with the start's, each but the youngest of which made a call
  pub data AreOpen : List Frame → Type 0 where
    outermost : (frame : Frame) → frame.function ≡ first → AreOpen (frame ∷ [])
    above : (frame caller : Frame) (callers : List Frame) → MadeCall caller → AreOpen (caller ∷ callers) → AreOpen (frame ∷ caller ∷ callers)

  pub entry_of : (start : ℕ) (frame : Frame) (callers : List Frame) → start ≡ first → AreOpen (frame ∷ callers) → frame.function ≡ entry_after start (calls_of (frame ∷ callers))
  entry_of start frame callers begins (outermost f e) = e ∙ sym begins
  entry_of start frame callers begins (above f caller others made open_before) =
      sym (ap (entry_after start) (calls_pushed frame caller others) ∙ entry_behind start (calls_of (caller ∷ others)) (opening frame caller))

  pub open_counted : (frame : Frame) (counter : ℕ → ℕ) (callers : List Frame) → AreOpen (frame ∷ callers) → AreOpen (counted frame counter ∷ callers)
  open_counted frame counter callers (outermost f e) = outermost (counted frame counter) e
  open_counted frame counter callers (above f caller others made rest) = above (counted frame counter) caller others made rest

  pub open_executed : (frames : List Frame) (address : ℕ) → AreOpen frames → AreOpen (frames_at frames address)
  open_executed frames address (outermost frame e) = outermost (record frame { last = Some address }) e
  open_executed frames address (above frame caller others made rest) = above (record frame { last = Some address }) caller others made rest

  pub open_below : (frame caller : Frame) (callers : List Frame) → AreOpen (frame ∷ caller ∷ callers) → AreOpen (caller ∷ callers) × MadeCall caller
  open_below frame caller callers (above f c cs made rest) = (rest, made)

-- ---- the frame of a chain

pub calls_length : (frame : Frame) (callers : List Frame) → length (calls_of (frame ∷ callers)) ≡ length callers
calls_length frame [] = refl
calls_length frame (caller ∷ callers) =
    let one = ap length (calls_pushed frame caller callers) in
    omega (arith, one, length-append (calls_of (caller ∷ callers)) (opening frame caller ∷ []), calls_length caller callers)

module _ (frames : List Frame) (chain : List Call) (mover : Frame) (callers : List Frame) (are : frames ≡ mover ∷ callers) where
  top_or_below : (younger older : List Frame) (frame : Frame) → frames ≡ younger ++ frame ∷ older → calls_of (frame ∷ older) ≡ chain
      → ((frame ≡ mover) × (calls_of frames ≡ chain)) ⊎ IsFrameOf callers chain frame
  top_or_below [] older frame e calls = inl (heads frame mover older callers (sym e ∙ are), ap calls_of e ∙ calls)
  top_or_below (y ∷ ys) older frame e calls = inr (record { younger = ys; older = older; are = tails mover y callers (ys ++ frame ∷ older) (sym are ∙ e); calls = calls })

  -- a frame of a chain is the youngest, or one of its callers
  pub frame_cases : (frame : Frame) → IsFrameOf frames chain frame → ((frame ≡ mover) × (calls_of frames ≡ chain)) ⊎ IsFrameOf callers chain frame
  frame_cases frame of = top_or_below of.younger of.older frame of.are of.calls

  -- if the chain is that of all frames, it is the youngest
  pub frame_top : (frame : Frame) → IsFrameOf frames chain frame → calls_of frames ≡ chain → frame ≡ mover
  frame_top frame of all = elim (frame_cases frame of) [
    | inl top ↦ top.0
    | inr below ↦
        let whole : length chain ≡ length callers = ap length (sym all ∙ ap calls_of are) ∙ calls_length mover callers in
        let part : length chain ≡ length below.older = ap length (sym below.calls) ∙ calls_length frame below.older in
        absurd (omega (arith, whole, part, ap length below.are, length-append below.younger (frame ∷ below.older)))
  ]

pub frame_pushed : (frames : List Frame) (chain : List Call) (frame upper : Frame) → IsFrameOf frames chain frame → IsFrameOf (upper ∷ frames) chain frame
frame_pushed frames chain frame upper of = record { younger = upper ∷ of.younger; older = of.older; are = ap (λ (fs : List Frame). upper ∷ fs) of.are; calls = of.calls }
