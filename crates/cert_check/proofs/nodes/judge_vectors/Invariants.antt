use Rattle.xdd_table.specs.Diagram.{Keeps}
use Rattle.node_exits.specs.NodeExits.{IsRight}
use Rattle.cert_check.specs.Judging.{IsCut}
use Rattle.cert_check.specs.Progress.{HasCostsOr, HasFinishes}
use Rattle.cert_check.proofs.nodes.judge_vectors.Given as goal

abbrev pub invariant-loop-node : goal.invariant-loop-node
invariant-loop-node l =
    let s = l.subject in
    record {
      cut : IsCut s.unfolded.now.edges l.node l.first;
      finishes : HasFinishes l.table s.unfolded.now s.machine.now s.classes.now s.certificate.now l.node l.finishes.items;
      costs : HasCostsOr l.table s.unfolded.now s.machine.now s.classes.now s.certificate.now l.node l.paid.costs.items l.paid.refused;
      right : IsRight l.table s.unfolded.now s.machine.now l.work;
      kept : Keeps l.fn.table l.table;
    }
