use Rattle.std.proofs.Common.{false, sym, ◌∙◌}
use Rattle.std.proofs.lemmas.List.{get_or_read}
use Rattle.cache_kept.proofs.WalkLemmas.{came_before, came_new, marked_more}
use Rattle.cache_kept.proofs.walk.come_to.Goals as goal

pub returns-then-index-clause-came : goal.returns-then-index-clause-came
returns-then-index-clause-came c =
    came_before c.args.queue.now.items c.args.inside.now c.args.node
    ((c.requires.marked.exact c.args.node).0 (sym (get_or_read c.args.marks.now.items c.args.node _ c.requires.node c.index.ensures false) ∙ c.if-index.true))

pub returns-clause-marked : goal.returns-clause-marked
returns-clause-marked c = rw c.in_ok-push.ensures.items (marked_more c.args.marks.now.items c.args.queue.now.items c.args.node c.requires.node c.requires.marked)

pub returns-clause-came : goal.returns-clause-came
returns-clause-came c = rw c.in_ok-push.ensures.items (came_new c.args.queue.now.items c.args.inside.now c.args.node c.if-not-inside-at.false)
