-- What a move makes of a run's activations.
use Rattle.std.proofs.Common.{◌≡◌, ℕ, ◌+◌, true, false, cond, eqb, not, ◌&&◌, List, [], ◌∷◌, ◌++◌, length, map, get_or, reverse, Result, Ok, Err, All, ap, ◌∙◌, subst, refl, arith}
use Rattle.std.specs.Prelude.{IfOk}
use Rattle.std.proofs.lemmas.List.{reverse-append, get_or_append_left, get_or_push, length_push}
use Rattle.std.proofs.lemmas.Bool.{eq-eqb, ne_eqb, cond-true, cond-false}
use Rattle.wx_base.specs.declared.fact_kind.FactKind.TheVariants as fact
use Rattle.wx_base.specs.declared.flow.FlowKind.{FlowKind}
use Rattle.wx_base.specs.Bits.{add_words}
use Rattle.wx_base.specs.Monitor as monitor
use Rattle.flow_graph.specs.declared.program.Function.{Function}
use Rattle.run_machine.specs.declared.frame.Frame.{Frame}
use Rattle.run_machine.specs.Judging.{frame_of, IsFrame}

-- what follows from a fact on the value of an `Ok`
pub if_ok : {X E : Type 0} (r : Result X E) (P Q : X → Type 0) → ((x : X) → P x → Q x) → IfOk r P → IfOk r Q
if_ok (Ok x) P Q f p = f x p
if_ok (Err e) P Q f p = tt

-- the frames of the callers when the youngest is taken off
pub popped : (functions : List Function) (old new : List Frame) (caller : Frame) → old ≡ new ++ caller ∷ [] → map (frame_of functions) (reverse old) ≡ frame_of functions caller ∷ map (frame_of functions) (reverse new)
popped functions old new caller e =
    ap (λ (frames : List Frame). map (frame_of functions) (reverse frames)) e
    ∙ ap (map (frame_of functions)) (reverse-append new (caller ∷ []))

-- and all are still those of the program
pub caller_is : (functions : List Function) (old new : List Frame) (caller : Frame) → old ≡ new ++ caller ∷ [] → All (λ frame. IsFrame functions frame) old → IsFrame functions caller
caller_is functions old new caller e all =
    let P : Frame → Type 0 = λ frame. IsFrame functions frame in
    let longer : length old ≡ length new + 1 = ap length e ∙ length_push new caller in
    subst P (ap (λ (frames : List Frame). get_or frames (length new) caller) e ∙ get_or_push new caller caller (length new) refl) (all (length new) caller (omega arith))

pub rest_are : (functions : List Function) (old new : List Frame) (caller : Frame) → old ≡ new ++ caller ∷ [] → All (λ frame. IsFrame functions frame) old → All (λ frame. IsFrame functions frame) new
rest_are functions old new caller e all k d lt =
    let P : Frame → Type 0 = λ frame. IsFrame functions frame in
    let longer : length old ≡ length new + 1 = ap length e ∙ length_push new caller in
    subst P (ap (λ (frames : List Frame). get_or frames k d) e ∙ get_or_append_left new (caller ∷ []) d k lt) (all k d (omega arith))

-- a return to the address behind the call
pub goes_back : (functions : List monitor.Function) (callers rest : List monitor.Frame) (frame : monitor.Frame) (totals : ℕ → ℕ) (to : ℕ) → callers ≡ frame ∷ rest → to ≡ add_words (monitor.last_of frame) 4
    → monitor.returned functions callers totals to ≡ monitor.moved_within functions frame rest totals to
goes_back functions callers rest frame totals to e there =
    ap (λ (frames : List monitor.Frame). monitor.returned functions frames totals to) e
    ∙ cond-true (eqb to (add_words (monitor.last_of frame) 4)) (monitor.moved_within functions frame rest totals to) _ (eq-eqb to _ there)

-- a return to elsewhere
pub goes_wrong : (functions : List monitor.Function) (callers rest : List monitor.Frame) (frame : monitor.Frame) (totals : ℕ → ℕ) (to : ℕ) → callers ≡ frame ∷ rest → (to ≡ add_words (monitor.last_of frame) 4 → ⊥)
    → monitor.returned functions callers totals to ≡ Err fact.Return
goes_wrong functions callers rest frame totals to e there =
    ap (λ (frames : List monitor.Frame). monitor.returned functions frames totals to) e
    ∙ cond-false (eqb to (add_words (monitor.last_of frame) 4)) (monitor.moved_within functions frame rest totals to) _ (ne_eqb to _ there)

module _ (rules : monitor.Rules) (frame : monitor.Frame) (callers : List monitor.Frame) (totals : ℕ → ℕ) (flow : FlowKind) (to : ℕ) where
  -- a jump that is no call and goes where it may
  jumps : (flow.indirect && not (monitor.is_target rules.branches (monitor.last_of frame) to)) ≡ false → (flow.call_any && not (monitor.is_target rules.calls (monitor.last_of frame) to)) ≡ false → monitor.is_call flow ≡ false
      → monitor.jumped rules frame callers totals flow to ≡ cond flow.ret (monitor.returned rules.functions callers totals to) (monitor.moved_within rules.functions frame callers totals to)
  jumps branch call calls =
      cond-false (flow.indirect && not (monitor.is_target rules.branches (monitor.last_of frame) to)) (Err fact.Branch) _ branch
      ∙ cond-false (flow.call_any && not (monitor.is_target rules.calls (monitor.last_of frame) to)) (Err fact.Call) _ call
      ∙ cond-false (monitor.is_call flow) (Ok (monitor.called frame callers totals to)) _ calls

  pub returns : (flow.indirect && not (monitor.is_target rules.branches (monitor.last_of frame) to)) ≡ false → (flow.call_any && not (monitor.is_target rules.calls (monitor.last_of frame) to)) ≡ false → monitor.is_call flow ≡ false → flow.ret ≡ true
      → monitor.jumped rules frame callers totals flow to ≡ monitor.returned rules.functions callers totals to
  returns branch call calls ret =
      jumps branch call calls ∙ cond-true flow.ret (monitor.returned rules.functions callers totals to) (monitor.moved_within rules.functions frame callers totals to) ret

  pub goes_on : (flow.indirect && not (monitor.is_target rules.branches (monitor.last_of frame) to)) ≡ false → (flow.call_any && not (monitor.is_target rules.calls (monitor.last_of frame) to)) ≡ false → monitor.is_call flow ≡ false → flow.ret ≡ false
      → monitor.jumped rules frame callers totals flow to ≡ monitor.moved_within rules.functions frame callers totals to
  goes_on branch call calls ret =
      jumps branch call calls ∙ cond-false flow.ret (monitor.returned rules.functions callers totals to) (monitor.moved_within rules.functions frame callers totals to) ret
