use Rattle.std.proofs.Common.{arith}
use Rattle.cert_check.proofs.ProgressLemmas.{costs_more}
use Rattle.cert_check.proofs.nodes.add_costs.Goals as goal

pub returns-clause-costs : goal.returns-clause-costs
returns-clause-costs c =
    let s = c.args.subject.now in
    costs_more s.unfolded.now s.machine.now s.classes.now s.certificate.now c.args.table.now c.node_costs.new.table c.node_costs.ensures.kept c.args.node
    c.args.costs.now.items c.push.new.self.items c.in-Ok.found (omega (arith, c.requires.node, c.requires.subject.shape.families)) c.requires.so_far
    c.in-Ok.ensures.costs c.in-Ok.ensures.pays c.in_ok-push-in-Ok.ensures.items
