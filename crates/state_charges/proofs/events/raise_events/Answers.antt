use Rattle.std.proofs.Common.{◌≡◌, ℕ, length, get_or, slice_get, Some, subst, arith}
use Rattle.std.proofs.lemmas.Option.{slice_get-get_or}
use Rattle.xdd_table.specs.Diagram.{time}
use Rattle.cert_judge.proofs.KeepLemmas.{keeps_self, keeps_twice}
use Rattle.state_charges.specs.declared.miss.Miss.{Miss}
use Rattle.state_charges.specs.Raising.{IsEarly, IsListedRise, Raises}
use Rattle.state_charges.proofs.RaisingLemmas.{listed_raised, raised_by_more, raised_by_none}
use Rattle.state_charges.proofs.events.raise_events.Goals as goal

abbrev no_miss : Miss
no_miss = record { event = 0; group = 0 }

pub loop-k-init : goal.loop-k-init
loop-k-init c = record {
  kept = keeps_self c.args.table.now;
  raises = raised_by_none (IsListedRise (λ f. time c.args.table.now f c.args.cost.place) c.args.misses.now) c.args.amounts.now;
}

pub raise_event-requires-clause-cost : goal.raise_event-requires-clause-cost
raise_event-requires-clause-cost c = omega (arith, c.requires.cost, c.loop-k.invariant.kept.grows)

pub raise_event-requires-clause-group : goal.raise_event-requires-clause-group
raise_event-requires-clause-group c =
    let k = c.loop-k.k in
    let misses = c.args.misses.now in
    let less = c.requires.groups k (get_or misses k no_miss) (slice_get-get_or misses k no_miss c.loop-k-test.true) in
    omega (arith, less, c.loop-k.invariant.raises.long)

pub returns-in_err-raise_event-clause-kept : goal.returns-in_err-raise_event-clause-kept
returns-in_err-raise_event-clause-kept c =
    keeps_twice c.args.table.now c.loop-k.table c.raise_event.new.table c.loop-k.invariant.kept c.raise_event.ensures.kept

pub loop-k-preserved : goal.loop-k-preserved
loop-k-preserved c =
    let k = c.loop-k.k in
    let misses = c.args.misses.now in
    let place = c.args.cost.place in
    let x : Miss = get_or misses k no_miss in
    let stands : slice_get misses k ≡ Some x = slice_get-get_or misses k no_miss c.loop-k-test.true in
    record {
      kept = keeps_twice c.args.table.now c.loop-k.table c.raise_event.new.table c.loop-k.invariant.kept c.raise_event.ensures.kept;
      raises = raised_by_more (IsListedRise (λ f. time c.args.table.now f place) misses) k c.args.amounts.now c.loop-k.amounts c.raise_event.new.amounts
          c.loop-k.invariant.raises
          (listed_raised (λ f. time c.args.table.now f place) (λ f. time c.loop-k.table f place) misses k x c.loop-k.amounts c.raise_event.new.amounts
          (λ f. c.loop-k.invariant.kept.times f place c.requires.cost) stands c.in_ok-raise_event.ensures.raises);
    }

pub returns-clause-raises : goal.returns-clause-raises
returns-clause-raises c =
    let done : c.loop-k.k ≡ length c.args.misses.now = omega arith in
    subst (λ (n : ℕ). Raises (IsEarly (IsListedRise (λ f. time c.args.table.now f c.args.cost.place) c.args.misses.now) n) c.args.amounts.now c.loop-k.amounts) done c.loop-k.invariant.raises

pub returns-clause-kept : goal.returns-clause-kept
returns-clause-kept c = c.loop-k.invariant.kept
