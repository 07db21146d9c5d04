use Rattle.std.proofs.Common.{◌≡◌, ℕ, ◌+◌, ◌<◌, ◌≤◌, length, slice_get, Some}
use Rattle.flow_ctx.specs.declared.unfolded.Edge.{Edge}
use Rattle.xdd_table.specs.declared.node.Dd.{Dd}
use Rattle.xdd_table.specs.Diagram.{Keeps}
use Rattle.node_exits.specs.NodeExits.{IsRight}
use Rattle.cert_check.specs.Judging.{IsSite, VectorPaysEdge}
use Rattle.cert_check.specs.Places.{IsCost}
use Rattle.cert_check.proofs.edges.costs_along.Given as goal

abbrev pub invariant-loop-number : goal.invariant-loop-number
invariant-loop-number l =
    let s = l.subject in
    record {
      from : l.stretch.first ≤ l.number;
      below : l.number ≤ l.stretch.end;
      long : l.stretch.first + length l.costs.items ≡ l.number;
      costs : (k : ℕ) (e : Edge) (d : Dd) → slice_get s.unfolded.now.edges (l.stretch.first + k) ≡ Some e → slice_get l.costs.items k ≡ Some d → IsCost l.table s.unfolded.now s.machine.now l.v e d;
      pays : (number : ℕ) → l.stretch.first ≤ number → number < l.number → VectorPaysEdge s.unfolded.now s.machine.now s.classes.now s.certificate.now l.v number;
      site : IsSite l.table s.unfolded.now s.classes.now s.certificate.now l.site.node l.site.classes.now l.site.charged;
      right : IsRight l.table s.unfolded.now s.machine.now l.work;
      kept : Keeps l.fn.table l.table;
    }
