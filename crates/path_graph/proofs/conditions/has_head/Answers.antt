use Rattle.std.proofs.Common.{◌≡◌, ℕ, List, subst}
use Rattle.std.specs.List.{All}
use Rattle.path_graph.specs.Graph.{arc_at}
use Rattle.path_graph.proofs.TestedLemmas.{has_head_at}
use Rattle.path_graph.proofs.conditions.has_head.Goals as goal

pub returns-then-go_to : goal.returns-then-go_to
returns-then-go_to c = λ e.
    let g = c.args.graph.now in
    let head = c.target_of-head.result in
    has_head_at g c.args.arcs.now c.args.marks.now c.requires head
    (subst (λ (xs : List ℕ). All (λ a. (arc_at g a).to ≡ head) xs) c.as_slice-in-Some.ensures (c.go_to.ensures c.if-go_to.true)) (c.enter_at.ensures e)
