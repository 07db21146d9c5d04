use Rattle.std.proofs.Common.{◌≡◌, ℕ, ◌+◌, ◌<◌, List, length, get_or, slice_get, Some, false, refl, sym, ap, subst, ◌∙◌, arith}
use Rattle.std.proofs.lemmas.Option.{slice_get-get_or}
use Rattle.flow_ctx.specs.declared.unfolded.Edge.{Edge}
use Rattle.xdd_table.specs.declared.node.Dd.{Dd}
use Rattle.cert_check.specs.Places.{IsCost}
use Rattle.cert_check.proofs.CostLemmas.{costs_all, costs_more, costs_none, edges_all, edges_more}
use Rattle.cert_check.proofs.ListLemmas.{one_longer}
use Rattle.cert_check.proofs.StayLemmas.{keeps_self, keeps_twice, site_stays}
use Rattle.cert_check.proofs.edges.costs_along.Goals as goal

abbrev none : Edge
none = record { from = 0; to = 0; taken = false }

pub loop-number-init : goal.loop-number-init
loop-number-init c =
    let s = c.args.subject.now in
    let first = c.args.stretch.now.first in
    record {
      from = omega arith;
      below = c.requires.range.order;
      long = ap (λ (xs : List Dd). first + length xs) c.new-costs.ensures.items ∙ omega arith;
      costs = subst (λ (xs : List Dd). (k : ℕ) (e : Edge) (d : Dd) → slice_get s.unfolded.now.edges (first + k) ≡ Some e → slice_get xs k ≡ Some d
          → IsCost c.args.table.now s.unfolded.now s.machine.now c.args.v.now e d) (sym c.new-costs.ensures.items)
          (costs_none c.args.table.now s.unfolded.now s.machine.now c.args.v.now first);
      pays = λ number g l. absurd (omega (arith, g, l));
      site = c.requires.site;
      right = c.requires.right;
      kept = keeps_self c.args.table.now;
    }

pub paid_cost-requires-clause-number : goal.paid_cost-requires-clause-number
paid_cost-requires-clause-number c = omega (arith, c.loop-number-test.true, c.requires.range.within)

pub paid_cost-requires-clause-from : goal.paid_cost-requires-clause-from
paid_cost-requires-clause-from c = λ edge at. c.requires.range.inside c.loop-number.number edge c.loop-number.invariant.from c.loop-number-test.true at

pub loop-number-preserved : goal.loop-number-preserved
loop-number-preserved c =
    let s = c.args.subject.now in
    let u = s.unfolded.now in
    let m = s.machine.now in
    let v = c.args.v.now in
    let first = c.args.stretch.now.first in
    let i = c.loop-number.number in
    let inv = c.loop-number.invariant in
    let within : i < length u.edges = omega (arith, c.loop-number-test.true, c.requires.range.within) in
    let edge = get_or u.edges i none in
    let at = slice_get-get_or u.edges i none within in
    let old = c.loop-number.table in
    let new = c.paid_cost.new.table in
    let kept = c.paid_cost.ensures.kept in
    let found = rw c.in-Some.is at (c.in_ok-cost.ensures.cost edge at) in
    let grown = c.in_ok-push-in-Some.ensures.items in
    record {
      from = omega (arith, inv.from);
      below = omega (arith, c.loop-number-test.true);
      long = let more = one_longer c.loop-number.costs.items c.push.new.self.items c.in-Some.cost (length c.loop-number.costs.items) refl grown in omega (arith, more, inv.long);
      costs = costs_more old new kept u m v first i edge c.in-Some.cost c.loop-number.costs.items c.push.new.self.items inv.long at found.1 grown inv.costs;
      pays = edges_more u m s.classes.now s.certificate.now v first i found.0 inv.pays;
      site = site_stays old new kept u s.classes.now s.certificate.now c.args.site.now.node c.args.site.now.classes.now c.args.site.now.charged inv.site;
      right = c.paid_cost.ensures.right;
      kept = keeps_twice c.args.table.now old new inv.kept kept;
    }

pub returns-in_err-cost-clause-kept : goal.returns-in_err-cost-clause-kept
returns-in_err-cost-clause-kept c = keeps_twice c.args.table.now c.loop-number.table c.paid_cost.new.table c.loop-number.invariant.kept c.paid_cost.ensures.kept

pub returns-in_err-push-in-Some-clause-kept : goal.returns-in_err-push-in-Some-clause-kept
returns-in_err-push-in-Some-clause-kept c = keeps_twice c.args.table.now c.loop-number.table c.paid_cost.new.table c.loop-number.invariant.kept c.paid_cost.ensures.kept

pub returns-in-None-clause-costs : goal.returns-in-None-clause-costs
returns-in-None-clause-costs c = λ pays.
    let u = c.args.subject.now.unfolded.now in
    let i = c.loop-number.number in
    let within : i < length u.edges = omega (arith, c.loop-number-test.true, c.requires.range.within) in
    let edge = get_or u.edges i none in
    let at = slice_get-get_or u.edges i none within in
    (rw c.in-None.is at (c.in_ok-cost.ensures.cost edge at)) (pays.each i edge at (c.requires.range.inside i edge c.loop-number.invariant.from c.loop-number-test.true at))

pub returns-in-None-clause-kept : goal.returns-in-None-clause-kept
returns-in-None-clause-kept c = keeps_twice c.args.table.now c.loop-number.table c.paid_cost.new.table c.loop-number.invariant.kept c.paid_cost.ensures.kept

pub returns-clause-costs : goal.returns-clause-costs
returns-clause-costs c =
    let s = c.args.subject.now in
    let node = c.args.site.now.node in
    let stretch = c.args.stretch.now in
    let inv = c.loop-number.invariant in
    let done : c.loop-number.number ≡ stretch.end = omega (arith, inv.below, c.loop-number-test.false) in (
      edges_all s.unfolded.now s.machine.now s.classes.now s.certificate.now node c.args.v.now stretch.first stretch.end c.requires.range
          (λ number g l. inv.pays number g (omega (arith, l, done))),
      rw c.new.ensures (costs_all c.loop-number.table s.unfolded.now s.machine.now node c.args.v.now stretch.first stretch.end c.loop-number.costs.items c.requires.range (inv.long ∙ done) inv.costs),
    )

pub returns-clause-kept : goal.returns-clause-kept
returns-clause-kept c = c.loop-number.invariant.kept
