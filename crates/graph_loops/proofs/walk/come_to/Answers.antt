use Rattle.std.proofs.Common.{false, option_to_list, sym, ◌∙◌, inl, inr}
use Rattle.std.proofs.lemmas.Bool.{false≢true}
use Rattle.std.proofs.lemmas.List.{get_or_read}
use Rattle.graph_loops.proofs.WalkLemmas.{came_before, came_new, marked_more}
use Rattle.graph_loops.proofs.walk.come_to.Goals as goal
use Rattle.graph_loops.proofs.walk.come_to.Goals.{then-index-via-then-index, then-index-via-else-index+then-is_avoided}

pub returns-then-index-clause-came : goal.returns-then-index-clause-came
returns-then-index-clause-came c =
    came_before c.args.queue.now.items (option_to_list c.args.avoided) c.args.v
    (elim c.then-index.branch [
      | then-index-via-then-index w ↦ inr ((c.requires.marked.exact c.args.v).0 (sym (get_or_read c.args.marks.now.items c.args.v _ c.requires.vertex c.index.ensures false) ∙ w.if-index.true))
      | then-index-via-else-index+then-is_avoided w ↦ inl (w.is_avoided.ensures.0 w.if-is_avoided.true)
    ])

pub returns-clause-marked : goal.returns-clause-marked
returns-clause-marked c = rw c.in_ok-push.ensures.items (marked_more c.args.marks.now.items c.args.queue.now.items c.args.v c.requires.vertex c.requires.marked)

pub returns-clause-came : goal.returns-clause-came
returns-clause-came c = rw c.in_ok-push.ensures.items
    (came_new c.args.queue.now.items (option_to_list c.args.avoided) c.args.v (λ a. false≢true (sym c.if-is_avoided.false ∙ c.is_avoided.ensures.1 a)))
