use Rattle.std.proofs.Common.{sym}
use Rattle.xdd_ops.proofs.DifferenceLemmas.{leaves_difference, split_difference, all_differences_more}
use Rattle.xdd_ops.proofs.difference.+greatest_difference.Goals as goal

pub returns-in-Some-clause-greatest : goal.returns-in-Some-clause-greatest
returns-in-Some-clause-greatest t c = c.requires.memo.each c.args.a.place c.args.b.place c.in-Some.most.now (sym c.in-Some.ensures.value)

pub returns-in-Leaves-clause-greatest : goal.returns-in-Leaves-clause-greatest
returns-in-Leaves-clause-greatest t c = rw c.saturating_sub.ensures (leaves_difference c.args.table.now c.args.a.place c.args.b.place c.in-Leaves.t c.in-Leaves.u c.in-Leaves.ensures.parts)

pub returns-in_ok-insert-in-Branches-clause-greatest : goal.returns-in_ok-insert-in-Branches-clause-greatest
returns-in_ok-insert-in-Branches-clause-greatest t c = rw c.max-most.ensures
    (split_difference c.args.table.now c.args.a.place c.args.b.place c.in-Branches.split.event c.in-Branches.split.hits c.in-Branches.split.misses c.in-Branches.ensures.parts.parts
    c.in_ok-hit-in-Branches.hit c.in_ok-missed-in-Branches.missed c.in_ok-hit-in-Branches.ensures.greatest c.in_ok-missed-in-Branches.ensures.greatest)

pub returns-in_ok-insert-in-Branches-clause-memo : goal.returns-in_ok-insert-in-Branches-clause-memo
returns-in_ok-insert-in-Branches-clause-memo t c =
    all_differences_more c.args.table.now c.args.a.place c.args.b.place c.max-most.result _ _ c.in_ok-missed-in-Branches.ensures.memo
    (returns-in_ok-insert-in-Branches-clause-greatest t c) c.in_ok-insert-in-Branches.ensures.updates.0
