use Rattle.cert_rules.specs.Rules.{HasBound}
use Rattle.cert_check.specs.Judging.{Breaks}
use Rattle.cert_check.proofs.BreakLemmas.{bound_breaks, denied, handed_on}
use Rattle.cert_check.proofs.ChargeLemmas.{groups_apart}
use Rattle.cert_check.proofs.rules.judge.Goals as goal

pub total_counts-requires : goal.total_counts-requires
total_counts-requires c = c.requires.unfolded.unfolded

pub judge_lists-requires-clause-unfolding : goal.judge_lists-requires-clause-unfolding
judge_lists-requires-clause-unfolding c = c.requires.unfolded.unfolded

pub returns-in_err-judge_lists-clause-refused : goal.returns-in_err-judge_lists-clause-refused
returns-in_err-judge_lists-clause-refused c =
    handed_on (Breaks c.args.u.now c.args.m.now c.args.classes.now c.args.c.now) _ c.in_err-judge_lists.field-0.0 c.from_residual-in_err-judge_lists.ensures
    (c.in_err-judge_lists.ensures.refused c.args.m.now)

pub new-requires : goal.new-requires
new-requires c = rw c.as_slice.ensures (groups_apart c.args.c.now.charges c.in_ok-judge_lists.ensures.shape.charges.ascending)

pub edge_prices-requires-clause-unfolding : goal.edge_prices-requires-clause-unfolding
edge_prices-requires-clause-unfolding c = c.requires.unfolded.unfolded

pub judge_vectors-requires-clause-subject : goal.judge_vectors-requires-clause-subject
judge_vectors-requires-clause-subject c = record {
  unfolded = c.requires.unfolded;
  few = c.requires.few;
  machine = c.requires.machine;
  classed = c.requires.classes;
  shape = c.in_ok-judge_lists.ensures.shape;
  small = c.in_ok-judge_lists.ensures.small;
}

pub judge_vectors-requires-clause-charges : goal.judge_vectors-requires-clause-charges
judge_vectors-requires-clause-charges c = record { each = rw c.as_slice.ensures at c.in_ok-charges.ensures }

pub judge_vectors-requires-clause-prices : goal.judge_vectors-requires-clause-prices
judge_vectors-requires-clause-prices c = record {
  are = c.in_ok-prices.ensures.prices;
  costs_small = c.in_ok-prices.ensures.bound.0;
  returns_small = c.in_ok-prices.ensures.bound.1;
}

pub returns-then-not-bound-clause-refused : goal.returns-then-not-bound-clause-refused
returns-then-not-bound-clause-refused c =
    let u = c.args.u.now in
    let k = c.args.c.now in
    let lists = c.in_ok-judge_lists.ensures in
    bound_breaks u c.args.m.now c.args.classes.now k c.broken.result c.broken.ensures lists.shape lists.small lists.start c.in_ok-diagrams.ensures.ends c.in_ok-diagrams.ensures.edges
    (denied c.in_ok-bound.bound (HasBound u k) c.in_ok-bound.ensures c.if-not-bound.true)

pub returns-clause-accepted : goal.returns-clause-accepted
returns-clause-accepted c =
    let lists = c.in_ok-judge_lists.ensures in
    record {
      shape = lists.shape;
      numbers = lists.small;
      start = lists.start;
      finishes = c.in_ok-diagrams.ensures.ends.each;
      edges = c.in_ok-diagrams.ensures.edges.each;
      bound = c.in_ok-bound.ensures.0 c.if-not-bound.false;
    }
