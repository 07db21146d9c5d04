-- Counters and totals stay within the bounds of the facts.
use Rattle.std.proofs.Common.{◌≡◌, ℕ, ◌+◌, ◌≤◌, Bool, true, false, cond, List, [], ◌∷◌, map, refl, sym, ap, subst, ◌∙◌, inl, inr, arith}
use Rattle.std.specs.Prelude.{All, Option, Some, None, nat_lt}
use Rattle.std.proofs.lemmas.Bool.{cases_eq, le-ltb, ltb-false}
use Rattle.std.proofs.lemmas.Option.{same_Some}
use Rattle.std.proofs.lemmas.List.Elements.{All-cons, All-head, All-nil, All-tail}
use Rattle.wx_base.specs.declared.facts.Facts.{Facts}
use Rattle.wx_base.specs.declared.facts.LoopFact.{LoopFact}
use Rattle.wx_base.specs.declared.image.Image.{Image}
use Rattle.wx_base.specs.declared.machine.Machine.{Machine}
use Rattle.wx_base.specs.Functions.{fact_of, fact_on}
use Rattle.wx_base.specs.Monitor as monitor
use Rattle.wx_base.specs.Monitor.{BoundedLoop, Frame, Watch, count_into, exceeds, frames_at, goes_back, loop_at, opened, total_into}
use Rattle.wx_base.specs.State.{replaced}
use Rattle.flow_graph.specs.declared.program.Function.{Function}
use Rattle.flow_graph.specs.declared.program.Program.{Program}
use Rattle.flow_graph.specs.Program.{IsProgram, judged_function}
use Rattle.run_laws.specs.Moving.{Counts, MovesYoungest}
use Rattle.run_laws.specs.Moving.Counts.{at_head, elsewhere}
use Rattle.ctx_laws.proofs.Programs.{IsFunctionAt, judged_loop, loop_is}
use Rattle.ctx_laws.proofs.Frames.{counted}
use Rattle.ctx_laws.proofs.Counters.{put_elsewhere, put_there}

-- what frames and totals count is within the bounds that facts give
pub record AreBounded (facts : Facts) (frames : List Frame) (totals : ℕ → ℕ) : Type 0 where
  pub counters : (head : ℕ) (fact : LoopFact) → fact_of facts head ≡ Some fact → All (λ f. f.counter head ≤ fact.maxcount) frames
  pub totals_are : (head : ℕ) (fact : LoopFact) → fact_of facts head ≡ Some fact → exceeds (totals head) fact.totalcount ≡ false

none_exceeds : (bound : Option ℕ) → exceeds 0 bound ≡ false
none_exceeds None = refl
none_exceeds (Some most) = le-ltb most 0 (omega arith)

pub not_exceeded : (number total : ℕ) (bound : Option ℕ) → bound ≡ Some total → exceeds number bound ≡ false → number ≤ total
not_exceeded number total bound e h = let f : nat_lt total number ≡ false = ap (exceeds number) (sym e) ∙ h in ltb-false total number f

module _ (facts : Facts) where
  pub bounded_first : (entry : ℕ) → AreBounded facts (opened entry ∷ []) (λ head. 0)
  bounded_first entry = record {
    counters = λ head fact e. All-cons (λ (f : Frame). f.counter head ≤ fact.maxcount) (opened entry) [] (omega arith) (All-nil (λ (f : Frame). f.counter head ≤ fact.maxcount));
    totals_are = λ head fact e. none_exceeds fact.totalcount;
  }

  pub bounded_executed : (frames : List Frame) (totals : ℕ → ℕ) (address : ℕ) → AreBounded facts frames totals → AreBounded facts (frames_at frames address) totals
  bounded_executed [] totals address b = b
  bounded_executed (frame ∷ frames) totals address b = record {
    counters = λ head fact e.
        let P : Frame → Type 0 = λ f. f.counter head ≤ fact.maxcount in
        let all = b.counters head fact e in
        All-cons P (record frame { last = Some address }) frames (All-head P frame frames all) (All-tail P frame frames all);
    totals_are = b.totals_are;
  }

  pub bounded_pushed : (frames : List Frame) (totals : ℕ → ℕ) (to : ℕ) → AreBounded facts frames totals → AreBounded facts (opened to ∷ frames) totals
  bounded_pushed frames totals to b = record {
    counters = λ head fact e. All-cons (λ (f : Frame). f.counter head ≤ fact.maxcount) (opened to) frames (omega arith) (b.counters head fact e);
    totals_are = b.totals_are;
  }

  pub bounded_below : (frame : Frame) (frames : List Frame) (totals : ℕ → ℕ) → AreBounded facts (frame ∷ frames) totals → AreBounded facts frames totals
  bounded_below frame frames totals b = record {
    counters = λ head fact e. All-tail (λ (f : Frame). f.counter head ≤ fact.maxcount) frame frames (b.counters head fact e);
    totals_are = b.totals_are;
  }

module _ (image : Image) (facts : Facts) (start : ℕ) (machine : Machine) (program : Program) (built : IsProgram image facts start machine program) where
  abbrev judging : List monitor.Function
  judging = map judged_function program.functions

  module _ (frames : List Frame) (totals : ℕ → ℕ) (to : ℕ) (after : Watch) (move : MovesYoungest judging frames totals to after) (place : ℕ) (g : Function)
      (function : IsFunctionAt image facts start machine program built place g) (is_of : move.youngest.function ≡ g.entry) (b : AreBounded facts frames totals) where
    -- the fact on a loop's head
    fact_is : (bl : BoundedLoop) → loop_at judging move.youngest.function to ≡ Some bl → fact_of facts bl.head ≡ Some (fact_on bl)
    fact_is bl e =
        let info = judged_loop image facts start machine program built place g to bl function (ap (λ a. loop_at judging a to) (sym is_of) ∙ e) in
        let loop = loop_is image facts start machine program built place g info.info function info.listed in
        subst (λ (x : BoundedLoop). fact_of facts x.head ≡ Some (fact_on x)) info.is loop.bounds

    all_before : (head : ℕ) (fact : LoopFact) → fact_of facts head ≡ Some fact → All (λ f. f.counter head ≤ fact.maxcount) (move.youngest ∷ move.callers)
    all_before head fact e = subst (λ (fs : List Frame). All (λ f. f.counter head ≤ fact.maxcount) fs) move.were (b.counters head fact e)

    module _ (head : ℕ) (fact : LoopFact) (is : fact_of facts head ≡ Some fact) where
      youngest_within : move.youngest.counter head ≤ fact.maxcount
      youngest_within = All-head (λ (f : Frame). f.counter head ≤ fact.maxcount) move.youngest move.callers (all_before head fact is)

      within_after : (counter totals_after : ℕ → ℕ) → Counts judging move.youngest to totals counter totals_after → counter head ≤ fact.maxcount
      within_after counter totals_after (at_head bl found counter_is few totals_is in_total) = elim (cases_eq head bl.head) [
        | inl same ↦
            let facts_are : fact_on bl ≡ fact = same_Some (fact_on bl) fact (sym (fact_is bl found) ∙ ap (fact_of facts) (sym same) ∙ is) in
            let value : counter head ≡ count_into bl move.youngest = ap (λ (h : ℕ → ℕ). h head) counter_is ∙ ap (replaced move.youngest.counter bl.head (count_into bl move.youngest)) same ∙ put_there move.youngest.counter bl.head (count_into bl move.youngest) in
            let most : bl.maxcount ≡ fact.maxcount = ap (λ (x : LoopFact). x.maxcount) facts_are in
            omega arith
        | inr other ↦
            let value : counter head ≡ move.youngest.counter head = ap (λ (h : ℕ → ℕ). h head) counter_is ∙ put_elsewhere move.youngest.counter bl.head (count_into bl move.youngest) head other in
            omega (arith, youngest_within)
      ]
      within_after counter totals_after (elsewhere none counter_is totals_is) =
          let value : counter head ≡ move.youngest.counter head = ap (λ (h : ℕ → ℕ). h head) counter_is in omega (arith, youngest_within)

      total_within : (bl : BoundedLoop) → (back : Bool) → goes_back bl move.youngest ≡ back → fact_on bl ≡ fact → head ≡ bl.head
          → (goes_back bl move.youngest ≡ true → exceeds (total_into bl move.youngest totals) bl.totalcount ≡ false) → exceeds (total_into bl move.youngest totals) fact.totalcount ≡ false
      total_within bl true back facts_are same in_total = ap (λ (x : LoopFact). exceeds (total_into bl move.youngest totals) x.totalcount) (sym facts_are) ∙ in_total back
      total_within bl false back facts_are same in_total =
          ap (λ t. exceeds (cond t (totals bl.head + 1) (totals bl.head)) fact.totalcount) back ∙ ap (λ a. exceeds (totals a) fact.totalcount) (sym same) ∙ b.totals_are head fact is

      totals_within : (counter totals_after : ℕ → ℕ) → Counts judging move.youngest to totals counter totals_after → exceeds (totals_after head) fact.totalcount ≡ false
      totals_within counter totals_after (at_head bl found counter_is few totals_is in_total) = elim (cases_eq head bl.head) [
        | inl same ↦
            let facts_are : fact_on bl ≡ fact = same_Some (fact_on bl) fact (sym (fact_is bl found) ∙ ap (fact_of facts) (sym same) ∙ is) in
            let value : totals_after head ≡ total_into bl move.youngest totals = ap (λ (h : ℕ → ℕ). h head) totals_is ∙ ap (replaced totals bl.head (total_into bl move.youngest totals)) same ∙ put_there totals bl.head (total_into bl move.youngest totals) in
            ap (λ k. exceeds k fact.totalcount) value ∙ total_within bl (goes_back bl move.youngest) refl facts_are same in_total
        | inr other ↦
            let value : totals_after head ≡ totals head = ap (λ (h : ℕ → ℕ). h head) totals_is ∙ put_elsewhere totals bl.head (total_into bl move.youngest totals) head other in
            ap (λ k. exceeds k fact.totalcount) value ∙ b.totals_are head fact is
      ]
      totals_within counter totals_after (elsewhere none counter_is totals_is) =
          ap (λ (h : ℕ → ℕ). exceeds (h head) fact.totalcount) totals_is ∙ b.totals_are head fact is

    pub bounded_moved : AreBounded facts after.frames after.totals
    bounded_moved = record {
      counters = λ head fact e.
          let P : Frame → Type 0 = λ f. f.counter head ≤ fact.maxcount in
          subst (λ (fs : List Frame). All P fs) (sym move.are)
          (All-cons P (counted move.youngest move.counter) move.callers (within_after head fact e move.counter after.totals move.counts) (All-tail P move.youngest move.callers (all_before head fact e)));
      totals_are = λ head fact e. totals_within head fact e move.counter after.totals move.counts;
    }
