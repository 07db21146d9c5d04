use Rattle.std.proofs.Common.{◌+◌, subst, arith}
use Rattle.cert_check.specs.Judging.{Breaks}
use Rattle.cert_check.specs.Progress.{HasCostsOr}
use Rattle.cert_check.proofs.BreakLemmas.{handed_on}
use Rattle.cert_check.proofs.ListLemmas.{cut_next}
use Rattle.cert_check.proofs.NameLemmas.{edge_breaks, finish_breaks}
use Rattle.cert_check.proofs.ProgressLemmas.{costs_all, finishes_all, progress_costs_stay, progress_finishes_stay}
use Rattle.cert_check.proofs.StayLemmas.{keeps_twice}
use Rattle.cert_check.proofs.nodes.judge_vectors.Goals as goal

pub returns-in_err-add_finishes-clause-refused : goal.returns-in_err-add_finishes-clause-refused
returns-in_err-add_finishes-clause-refused c =
    let s = c.args.subject.now in
    handed_on (Breaks s.unfolded.now s.machine.now s.classes.now s.certificate.now) _ c.in_err-add_finishes.field-0.0 c.from_residual.ensures
    (finish_breaks s.unfolded.now s.machine.now s.classes.now s.certificate.now c.requires.subject.shape c.requires.subject.small c.requires.start
    c.in_err-add_finishes.field-0.0 c.in_err-add_finishes.ensures.refused)

pub returns-in_err-add_finishes-clause-kept : goal.returns-in_err-add_finishes-clause-kept
returns-in_err-add_finishes-clause-kept c = keeps_twice c.args.table.now c.loop-node.table c.add_finishes.new.table c.loop-node.invariant.kept c.add_finishes.ensures.kept

pub go_on-requires-clause-so_far : goal.go_on-requires-clause-so_far
go_on-requires-clause-so_far c =
    let s = c.args.subject.now in
    progress_costs_stay s.unfolded.now s.machine.now s.classes.now s.certificate.now c.loop-node.table c.add_finishes.new.table c.add_finishes.ensures.kept c.loop-node.node
    c.loop-node.paid.costs.items c.loop-node.paid.refused c.loop-node.invariant.costs

pub returns-in_err-go_on-clause-kept : goal.returns-in_err-go_on-clause-kept
returns-in_err-go_on-clause-kept c =
    keeps_twice c.args.table.now c.loop-node.table c.go_on.new.table c.loop-node.invariant.kept
    (keeps_twice c.loop-node.table c.add_finishes.new.table c.go_on.new.table c.add_finishes.ensures.kept c.go_on.ensures.kept)

pub loop-node-preserved : goal.loop-node-preserved
loop-node-preserved c =
    let s = c.args.subject.now in
    record {
      cut = cut_next s.unfolded.now.edges c.loop-node.node c.loop-node.first c.end_of_edges-end.result c.end_of_edges-end.ensures;
      finishes = progress_finishes_stay s.unfolded.now s.machine.now s.classes.now s.certificate.now c.add_finishes.new.table c.go_on.new.table c.go_on.ensures.kept
          (c.loop-node.node + 1) c.add_finishes.new.finishes.items c.in_ok-add_finishes.ensures.finishes;
      costs = c.in_ok-go_on.ensures.costs;
      right = c.renew-vectors.ensures c.go_on.new.table s.unfolded.now s.machine.now c.go_on.ensures.right;
      kept = keeps_twice c.args.table.now c.loop-node.table c.go_on.new.table c.loop-node.invariant.kept
          (keeps_twice c.loop-node.table c.add_finishes.new.table c.go_on.new.table c.add_finishes.ensures.kept c.go_on.ensures.kept);
    }

pub returns-in-Some-clause-refused : goal.returns-in-Some-clause-refused
returns-in-Some-clause-refused c =
    let s = c.args.subject.now in
    let ends = (finishes_all s.unfolded.now s.machine.now s.classes.now s.certificate.now c.loop-node.table c.loop-node.node c.loop-node.finishes.items
    (omega (arith, c.loop-node-test.false, c.loop-node.auto.node-end, c.requires.subject.shape.families)) c.loop-node.invariant.finishes).1 in
    edge_breaks s.unfolded.now s.machine.now s.classes.now s.certificate.now c.requires.subject.shape c.requires.subject.small c.requires.start ends c.in-Some.refused
    (subst (λ o. HasCostsOr c.loop-node.table s.unfolded.now s.machine.now s.classes.now s.certificate.now c.loop-node.node c.loop-node.paid.costs.items o)
    c.in-Some.is c.loop-node.invariant.costs)

pub returns-clause-ends : goal.returns-clause-ends
returns-clause-ends c =
    let s = c.args.subject.now in
    (finishes_all s.unfolded.now s.machine.now s.classes.now s.certificate.now c.loop-node.table c.loop-node.node c.loop-node.finishes.items
    (omega (arith, c.loop-node-test.false, c.loop-node.auto.node-end, c.requires.subject.shape.families)) c.loop-node.invariant.finishes).1

pub returns-clause-edges : goal.returns-clause-edges
returns-clause-edges c =
    let s = c.args.subject.now in
    (costs_all s.unfolded.now s.machine.now s.classes.now s.certificate.now c.loop-node.table c.loop-node.node c.loop-node.paid.costs.items
    (omega (arith, c.loop-node-test.false, c.loop-node.auto.node-end, c.requires.subject.shape.families))
    (subst (λ o. HasCostsOr c.loop-node.table s.unfolded.now s.machine.now s.classes.now s.certificate.now c.loop-node.node c.loop-node.paid.costs.items o)
    c.in-None.is c.loop-node.invariant.costs)).1
