use Rattle.std.proofs.Common.{ℕ, List, sym, subst, arith}
use Rattle.graph_loops.specs.Graph.{AreVertices}
use Rattle.test_flow.proofs.Vertices.{no_vertices, one_more}
use Rattle.test_flow.proofs.graphs.vertices_of.Goals as goal

pub loop-word-init : goal.loop-word-init
loop-word-init c = subst (λ (list : List ℕ). AreVertices c.args.count list) (sym c.new-vertices.ensures.items) (no_vertices c.args.count)

pub loop-word-preserved : goal.loop-word-preserved
loop-word-preserved c =
    subst (λ (list : List ℕ). AreVertices c.args.count list) (sym c.in_ok-push.ensures.items)
    (one_more c.args.count c.loop-word.vertices.items c.in_ok-vertex.vertex c.loop-word.invariant (omega arith))
