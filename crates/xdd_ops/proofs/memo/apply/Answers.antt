use Rattle.std.proofs.Common.{◌+◌, ◌*◌, ◌≤◌, length, false, arith}
use Rattle.xdd_table.specs.Diagram.{Combination}
use Rattle.xdd_ops.proofs.MemoLemmas.{old_times, old_after, old_events}
use Rattle.xdd_ops.proofs.PassLemmas.{more_leaves}
use Rattle.xdd_ops.proofs.CountLemmas.{pairs_bound, none_kept}
use Rattle.xdd_ops.proofs.memo.apply.Goals as goal

pub of_leaves-requires : goal.of_leaves-requires
of_leaves-requires g c = let f : Combination = λ e. false in rw (c.in-Leaves.ensures.parts.first f, c.in-Leaves.ensures.parts.second f) at (c.requires.can f f)

pub returns-in_err-time-in-Leaves-clause-only : goal.returns-in_err-time-in-Leaves-clause-only
returns-in_err-time-in-Leaves-clause-only g c = more_leaves _ _ _ _ _ _ _ c.in-Leaves.ensures.parts c.of_leaves.ensures.only

pub returns-in_ok-time-in-Leaves-clause-only : goal.returns-in_ok-time-in-Leaves-clause-only
returns-in_ok-time-in-Leaves-clause-only g c = more_leaves _ _ _ _ _ _ _ c.in-Leaves.ensures.parts c.of_leaves.ensures.only

pub returns-in-Branches-clause-times : goal.returns-in-Branches-clause-times
returns-in-Branches-clause-times g c = old_times _ _ c.join.ensures.passes.kept _ _ _ c.requires.first c.requires.second c.join.result (rw c.in-Branches.ensures.parts.same at c.join.ensures.answer)

pub returns-in-Branches-clause-after : goal.returns-in-Branches-clause-after
returns-in-Branches-clause-after g c = old_after _ _ c.join.ensures.passes.kept _ _ _ c.requires.first c.requires.second c.join.result (rw c.in-Branches.ensures.parts.same at c.join.ensures.answer)

pub returns-in-Branches-clause-events : goal.returns-in-Branches-clause-events
returns-in-Branches-clause-events g c = old_events _ _ c.join.ensures.passes.kept _ _ _ c.requires.first c.requires.second c.join.result (rw c.in-Branches.ensures.parts.same at c.join.ensures.answer)

pub returns-in-Branches-clause-steps : goal.returns-in-Branches-clause-steps
returns-in-Branches-clause-steps g c m n first second =
    let most : length c.join.new.answers.entries + 1 ≤ m * n = pairs_bound c.args.table.now c.args.pair.0.place c.args.pair.1.place m n _ (none_kept _ c.new-answers.ensures.empty) c.join.new.answers.entries
    c.join.ensures.unique (rw c.in-Branches.ensures.parts.same at c.join.ensures.below) first second in
    omega (arith, c.join.ensures.bound, c.new-answers.ensures.len)
