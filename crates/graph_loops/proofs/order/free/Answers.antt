use Rattle.std.proofs.Common.{ℕ, List, length, sym, ap, ◌∙◌, subst, arith}
use Rattle.graph_loops.specs.Graph.{AreVertices}
use Rattle.graph_loops.proofs.OrderLemmas.{vertices_more}
use Rattle.graph_loops.proofs.order.free.Goals as goal
use Rattle.graph_loops.proofs.order.free.Goals.{then-count-eq0+in_ok-push, else-count-eq0}

pub loop-v-preserved : goal.loop-v-preserved
loop-v-preserved c =
    let n = length c.args.waiting.now in
    let free = c.if-count-eq0.free.items in
    elim c.if-count-eq0.branch [
      | then-count-eq0+in_ok-push w ↦ vertices_more n c.loop-v.free.items free c.loop-v.v (ap (λ v. v.items) w.free-is ∙ w.in_ok-push.ensures.items) c.loop-v.invariant (omega arith)
      | else-count-eq0 w ↦ subst (λ (vs : List ℕ). AreVertices n vs) (sym (ap (λ v. v.items) w.free-is)) c.loop-v.invariant
    ]
