use Rattle.std.proofs.Common.{◌<◌, ℕ, List, length, get_or, sym, ap, ◌∙◌, subst, arith, length-set}
use Rattle.graph_loops.specs.Graph.{AreVertices}
use Rattle.graph_loops.proofs.OrderLemmas.{vertex_there, vertices_more}
use Rattle.graph_loops.proofs.order.release.Goals as goal
use Rattle.graph_loops.proofs.order.release.Goals.{then-index-eq1+in_ok-push, else-index-eq1}

pub index-requires : goal.index-requires
index-requires c = omega (arith, vertex_there _ c.args.targets.now c.loop-u.u-index c.requires.targets (omega arith), c.loop-u.waiting.ok.0, c.loop-u.invariant.count)

pub index-requires-in-loop-u : goal.index-requires-in-loop-u
index-requires-in-loop-u c = omega (arith, vertex_there _ c.args.targets.now c.loop-u.u-index c.requires.targets (omega arith), c.loop-u.waiting.ok.0, c.loop-u.invariant.count)

pub index_mut-requires : goal.index_mut-requires
index_mut-requires c = omega (arith, vertex_there _ c.args.targets.now c.loop-u.u-index c.requires.targets (omega arith), c.loop-u.waiting.ok.0, c.loop-u.invariant.count)

pub loop-u-preserved : goal.loop-u-preserved
loop-u-preserved c =
    let n = length c.args.waiting.now.items in
    let u = get_or c.args.targets.now c.loop-u.u-index 0 in
    let within : u < n = vertex_there n c.args.targets.now c.loop-u.u-index c.requires.targets (omega arith) in
    record {
      count = length-set c.loop-u.waiting.items u c.saturating_sub.result ∙ c.loop-u.invariant.count;
      queue = elim c.if-index-eq1.branch [
        | then-index-eq1+in_ok-push w ↦ vertices_more n c.loop-u.queue.items c.if-index-eq1.queue.items u (ap (λ v. v.items) w.queue-is ∙ w.in_ok-push.ensures.items) c.loop-u.invariant.queue within
        | else-index-eq1 w ↦ subst (λ (vs : List ℕ). AreVertices n vs) (sym (ap (λ v. v.items) w.queue-is)) c.loop-u.invariant.queue
      ];
    }
