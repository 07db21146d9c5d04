use Rattle.std.proofs.Common.{◌≡◌, length, get_or, slice_get, Some, sym, ap, ◌∙◌, arith}
use Rattle.std.proofs.lemmas.Option.{slice_get-get_or}
use Rattle.cache_class.specs.declared.class.Class.{Class}
use Rattle.cache_class.specs.declared.class.Class.TheVariants.{AlwaysHit}
use Rattle.xdd_table.specs.Diagram.{Combination, time}
use Rattle.cert_judge.specs.Settled.{settled_event}
use Rattle.cert_judge.proofs.KeepLemmas.{keeps_self, keeps_twice}
use Rattle.cert_judge.proofs.SettledLemmas.{none_settled, one_more_settled, settled_at_end}
use Rattle.cert_judge.proofs.settling.settle.Goals as goal

pub loop-event-init : goal.loop-event-init
loop-event-init c = record {
  within = c.requires.within;
  times = λ f. ap (λ (g : Combination). time c.args.table.now g c.args.d.place) (sym (none_settled c.args.classes.now f));
  kept = keeps_self c.args.table.now;
}

pub settle_event-requires : goal.settle_event-requires
settle_event-requires c = c.loop-event.invariant.within

pub returns-in_err-answer-clause-kept : goal.returns-in_err-answer-clause-kept
returns-in_err-answer-clause-kept c =
    keeps_twice c.args.table.now c.loop-event.table c.settle_event.new.table c.loop-event.invariant.kept c.settle_event.ensures.kept

pub loop-event-preserved : goal.loop-event-preserved
loop-event-preserved c = record {
  within = c.in_ok-answer.ensures.within;
  times = λ f.
      let classes = c.args.classes.now in
      let class : Class = get_or classes c.loop-event.event AlwaysHit in
      let is : slice_get classes c.loop-event.event ≡ Some class = slice_get-get_or classes c.loop-event.event AlwaysHit c.loop-event-test.true in
      c.in_ok-answer.ensures.times f ∙ (c.loop-event.invariant.times (settled_event class c.loop-event.event f)
      ∙ ap (λ (g : Combination). time c.args.table.now g c.args.d.place) (one_more_settled classes c.loop-event.event class f is));
  kept = keeps_twice c.args.table.now c.loop-event.table c.settle_event.new.table c.loop-event.invariant.kept c.settle_event.ensures.kept;
}

pub returns-clause-times : goal.returns-clause-times
returns-clause-times c =
    let all : c.loop-event.event ≡ length c.args.classes.now = omega (arith, c.loop-event-test.false, c.loop-event.auto.event-end) in
    λ f. c.loop-event.invariant.times f ∙ ap (λ (g : Combination). time c.args.table.now g c.args.d.place) (settled_at_end c.args.classes.now c.loop-event.event f all)

pub returns-clause-within : goal.returns-clause-within
returns-clause-within c = c.loop-event.invariant.within

pub returns-clause-kept : goal.returns-clause-kept
returns-clause-kept c = c.loop-event.invariant.kept
