-- What holds of every run that starts on an image: it stays in what is reached.
use Rattle.std.proofs.Common.{◌≡◌, ℕ, true, false, List, [], ◌∷◌, refl, sym, ap, subst, ◌∙◌, inl}
use Rattle.std.specs.Prelude.{Option, Some, None, Ok, All, unwrap_or}
use Rattle.std.proofs.lemmas.List.Elements.{All-cons, All-nil, All-head, All-weaker}
use Rattle.wx_base.specs.declared.facts.Facts.{Facts}
use Rattle.wx_base.specs.declared.image.Image.{Image}
use Rattle.wx_base.specs.declared.machine.Machine.{Machine}
use Rattle.wx_base.specs.Flow.{flow_of}
use Rattle.wx_base.specs.Functions.{code_at, leads_at, ways_at, IsReached}
use Rattle.wx_base.specs.Monitor.{Rules, Watch, Frame, last_of, leaves, opened}
use Rattle.wx_base.specs.Paths.{Path}
use Rattle.wx_base.specs.Paths.Path.{here}
use Rattle.wx_base.specs.Run.{IsStart, Start, Run, Executed, End, Finished, Halted, Broken, run_of, watch_at, watch_before}
use Rattle.wx_base.specs.State.{pc}
use Rattle.wx_base.specs.Step.{current_word}
use Rattle.run_laws.specs.Flowing.{IsTakenTo, GoesBehind, FollowsFlow}
use Rattle.run_laws.specs.Reached.{TakesTargets, IsInFunction, RunsStayInReached, FramesStayInFunctions}
use Rattle.run_laws.proofs.ChainLemmas.{IsTold, last_executed, leads_out, told_kept}
use Rattle.run_laws.proofs.FlowLemmas.{steps_follow_flow}
use Rattle.run_laws.proofs.ImageLemmas.{IsOfImage, ends_at_code, image_kept}
use Rattle.run_laws.proofs.InsideLemmas.{AreInside, IsCaller, LooksInside, executed_inside, move_inside}
use Rattle.run_laws.proofs.MoveLemmas.{IsMove, moves, same_watch}
use Rattle.run_laws.proofs.ReachLemmas.{none_there}
use Rattle.run_laws.proofs.RunLemmas.{IsKept, each_run}
use Rattle.run_laws.proofs.StepLemmas.{goes}

module _ (machine : Machine) (image : Image) (facts : Facts) (rules : Rules) (entry : ℕ) (start : Start) (started : IsStart machine image entry start) (targets : TakesTargets facts rules) where
  abbrev AllReached : List Executed → Type 0
  AllReached executed = All (λ i. IsReached image facts entry i.address) executed

  -- where a run that goes on is: at its entry with the start's frame, or where its last instruction leads
  abbrev IsLed : List Executed → List Frame → ℕ → Type 0
  IsLed [] frames to = (frames ≡ opened entry ∷ []) × (to ≡ entry)
  IsLed (i ∷ executed) frames to =
      (i.done.entry.taken ≡ false → GoesBehind (flow_of i.done.entry.word i.address) i.done.entry.word i.address to)
      × (i.done.entry.taken ≡ true → IsTakenTo (flow_of i.done.entry.word i.address) to)

  pub record IsInside (run : Run) : Type 0 where
    pub told : IsTold run
    pub of_image : IsOfImage machine image rules entry start started run
    pub reached : AllReached run.executed
    pub inside : AreInside image facts entry run.watch.frames
    pub led : run.end ≡ None → IsLed run.executed run.watch.frames (run.state.registers pc)

  -- ---- where the machine looks

  module _ (run : Run) (so : IsInside run) (going : run.end ≡ None) (watch : Watch) where
    looks : (executed : List Executed) → run.executed ≡ executed → IsLed executed run.watch.frames (run.state.registers pc)
        → watch_before rules executed run.watch (run.state.registers pc) ≡ Ok watch → LooksInside image facts entry watch.frames (run.state.registers pc)
    looks [] is led e =
        let same : run.watch ≡ watch = same_watch run.watch watch e in
        let to = run.state.registers pc in
        subst (λ (w : Watch). LooksInside image facts entry w.frames to) same (record {
          youngest = opened entry;
          callers = [];
          are = led.0;
          function = inl refl;
          path = subst (λ (x : ℕ). Path (ways_at image facts) [] entry x) (sym led.1) (here entry (none_there entry));
          led = subst (λ (x : ℕ). Path (leads_at image facts) [] entry x) (sym led.1) (here entry (none_there entry));
          all = All-nil (IsCaller image facts entry);
        })
    looks (i ∷ executed) is led e =
        let told = so.told in
        let frame = told.youngest in
        let last : frame.last ≡ Some i.address = told.last ∙ ap last_executed is in
        let at : last_of frame ≡ i.address = ap (λ (o : Option ℕ). unwrap_or o 0) last in
        let here_inside : AreInside image facts entry (frame ∷ told.callers) = subst (λ (fs : List Frame). AreInside image facts entry fs) told.are so.inside in
        let reached : IsReached image facts entry i.address = All-head (λ i. IsReached image facts entry i.address) i executed (subst AllReached is so.reached) in
        let code : code_at image i.address ≡ Some i.done.entry.word = All-head (λ i. code_at image i.address ≡ Some i.done.entry.word) i executed
        (subst (λ (es : List Executed). All (λ i. code_at image i.address ≡ Some i.done.entry.word) es) is so.of_image.words) in
        let stays : leaves (frame ∷ told.callers) (flow_of i.done.entry.word i.address) i.done.entry.taken ≡ false =
        sym (ap (λ (fs : List Frame). leaves fs (flow_of i.done.entry.word i.address) i.done.entry.taken) told.are)
        ∙ sym (ap (λ (es : List Executed). leads_out es run.watch.frames) is) ∙ told.stays going in
        let to = run.state.registers pc in
        let move = moves rules run.watch watch i.done.entry to frame told.callers told.are e in
        move_inside image facts entry rules targets frame told.callers here_inside.0 here_inside.1 i.address i.done.entry.word to last reached code run.watch.totals i.done.entry.taken watch led.0 led.1 stays
        (subst (λ (a : ℕ). IsMove rules frame told.callers run.watch.totals (flow_of i.done.entry.word a) i.done.entry.taken to watch) at move)

    pub looks_inside : watch_at rules run ≡ Ok watch → LooksInside image facts entry watch.frames (run.state.registers pc)
    looks_inside e = looks run.executed refl (so.led going) e

  -- ---- along a run

  -- what is executed there is reached
  one_more_reached : (run : Run) (i : Executed) → AllReached run.executed → IsReached image facts entry i.address → AllReached (i ∷ run.executed)
  one_more_reached run i all one = All-cons (λ i. IsReached image facts entry i.address) i run.executed one all

  still : (run : Run) (end : End) → IsTold (record run { end = Some end }) → IsOfImage machine image rules entry start started (record run { end = Some end }) → IsInside run → IsInside (record run { end = Some end })
  still run end told of_image so = record {
    told = told;
    of_image = of_image;
    reached = so.reached;
    inside = so.inside;
    led = λ open_end. let none : Some end ≡ None = open_end in absurd (cc);
  }

  pub inside_kept : IsKept machine image rules entry start IsInside
  inside_kept =
      let told = told_kept machine image rules entry start in
      let words = image_kept machine image rules entry start started in
      record {
        begins_so = record {
          told = told.begins_so;
          of_image = words.begins_so;
          reached = All-nil (λ i. IsReached image facts entry i.address);
          inside = (record { function = inl refl; last = λ a e. let none : None ≡ Some a = e in absurd (cc) }, All-nil (IsCaller image facts entry));
          led = λ going. (refl, started.entered);
        };
        goes_on_so = λ run watch went so going allowed is.
            let looked = looks_inside run so going watch allowed in
            let follows : FollowsFlow (flow_of (current_word run.state) (run.state.registers pc)) (current_word run.state) (run.state.registers pc) went = steps_follow_flow machine image run.state went is in
            record {
              told = told.goes_on_so run watch went so.told going allowed is;
              of_image = words.goes_on_so run watch went so.of_image going allowed is;
              reached = one_more_reached run _ so.reached (record { code = (goes machine image run.state went is).code; path = looked.led });
              inside = executed_inside image facts entry watch.frames (run.state.registers pc) looked;
              led = λ open_end. (follows.on, follows.taken);
            };
        ends_so = λ run watch so going allowed is.
            let looked = looks_inside run so going watch allowed in
            record {
              told = told.ends_so run watch so.told going allowed is;
              of_image = words.ends_so run watch so.of_image going allowed is;
              reached = one_more_reached run _ so.reached (record { code = ends_at_code machine image run.state is; path = looked.led });
              inside = executed_inside image facts entry watch.frames (run.state.registers pc) looked;
              led = λ open_end. let none : Some Finished ≡ None = open_end in absurd (cc);
            };
        stops_so = λ run watch why so going allowed is.
            still run (Halted why) (told.stops_so run watch why so.told going allowed is) (words.stops_so run watch why so.of_image going allowed is) so;
        breaks_so = λ run breach so. still run (Broken breach) (told.breaks_so run breach so.told) (words.breaks_so run breach so.of_image) so;
      }

  pub inside_run : (n : ℕ) → IsInside (run_of machine image rules entry start n)
  inside_run n = each_run machine image rules entry start IsInside inside_kept n

pub runs_stay_in_reached : RunsStayInReached
runs_stay_in_reached machine image facts rules entry start n started targets = (inside_run machine image facts rules entry start started targets n).reached

module _ (image : Image) (facts : Facts) (entry : ℕ) where
  caller_inside : (frame : Frame) → IsCaller image facts entry frame → IsInFunction image facts entry frame
  caller_inside frame c = c.inside

  frames_inside : (frames : List Frame) → AreInside image facts entry frames → All (IsInFunction image facts entry) frames
  frames_inside [] inside = All-nil (IsInFunction image facts entry)
  frames_inside (frame ∷ callers) inside =
      All-cons (IsInFunction image facts entry) frame callers inside.0
      (All-weaker (IsCaller image facts entry) (IsInFunction image facts entry) caller_inside callers inside.1)

pub frames_stay_in_functions : FramesStayInFunctions
frames_stay_in_functions machine image facts rules entry start n started targets =
    frames_inside image facts entry (run_of machine image rules entry start n).watch.frames (inside_run machine image facts rules entry start started targets n).inside
