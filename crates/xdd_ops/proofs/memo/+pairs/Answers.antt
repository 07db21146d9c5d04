use Rattle.std.proofs.Common.{false, sym, ◌∙◌, arith}
use Rattle.xdd_table.specs.Diagram.{Combination}
use Rattle.xdd_ops.proofs.ApplyLemmas.{keeps_self}
use Rattle.xdd_ops.proofs.MemoLemmas.{hit_after, miss_after, halves_answer, answers_kept, answers_stay, answers_more, below_hits, below_misses, below_then, below_insert, still_absent, on_ok}
use Rattle.xdd_ops.proofs.PassLemmas.{passes_leaves, passes_misses, passes_more}
use Rattle.xdd_ops.proofs.CountLemmas.{one_more}
use Rattle.xdd_ops.proofs.memo.+pairs.Goals as goal

pub join-returns-in_err-hit-clause-below : goal.join-returns-in_err-hit-clause-below
join-returns-in_err-hit-clause-below g t c = below_hits _ _ c.requires.table c.meet.ensures.passes.kept _ _ _ _ _ c.requires.parts _ _ c.meet.ensures.below

pub join-returns-in_err-miss-clause-below : goal.join-returns-in_err-miss-clause-below
join-returns-in_err-miss-clause-below g t c = below_then _ _ _ _ _ _ _
    (below_hits _ _ c.requires.table c.meet.ensures.passes.kept _ _ _ _ _ c.requires.parts _ _ c.meet.ensures.below)
    (below_misses _ _ c.requires.table c.meet.ensures.passes.kept _ _ _ _ _ c.requires.parts _ _ c.meet-2.ensures.below)

pub join-returns-in_err-miss-clause-passes : goal.join-returns-in_err-miss-clause-passes
join-returns-in_err-miss-clause-passes g t c = passes_misses _ _ _ _ _ _ _ _ _ _ _ _ _ _ c.requires.parts c.meet.ensures.passes c.meet-2.ensures.passes

pub join-branch-table-requires-clause-hit_after : goal.join-branch-table-requires-clause-hit_after
join-branch-table-requires-clause-hit_after g t c =
    hit_after _ _ _ c.requires.table _ _ _ _ _ _ _ _ _ _ _ _ _ c.requires.parts c.requires.first c.requires.second c.meet.ensures.passes c.meet-2.ensures.passes c.in_ok-hit.ensures.answer c.in_ok-miss.ensures.answer

pub join-branch-table-requires-clause-miss_after : goal.join-branch-table-requires-clause-miss_after
join-branch-table-requires-clause-miss_after g t c =
    miss_after _ _ _ c.requires.table _ _ _ _ _ _ _ _ _ _ _ _ _ c.requires.parts c.requires.first c.requires.second c.meet.ensures.passes c.meet-2.ensures.passes c.in_ok-hit.ensures.answer c.in_ok-miss.ensures.answer

pub join-returns-in_err-answer-clause-below : goal.join-returns-in_err-answer-clause-below
join-returns-in_err-answer-clause-below g t c = below_then _ _ _ _ _ _ _
    (below_hits _ _ c.requires.table c.meet.ensures.passes.kept _ _ _ _ _ c.requires.parts _ _ c.meet.ensures.below)
    (below_misses _ _ c.requires.table c.meet.ensures.passes.kept _ _ _ _ _ c.requires.parts _ _ c.meet-2.ensures.below)

pub join-returns-in_err-answer-clause-passes : goal.join-returns-in_err-answer-clause-passes
join-returns-in_err-answer-clause-passes g t c =
    passes_more _ _ _ _ _ _ _ _ _ (passes_misses _ _ _ _ _ _ _ _ _ _ _ _ _ _ c.requires.parts c.meet.ensures.passes c.meet-2.ensures.passes) c.branch-table.ensures.kept c.branch-table.ensures.table

pub join-returns-clause-answer : goal.join-returns-clause-answer
join-returns-clause-answer g t c =
    halves_answer _ _ _ c.requires.table _ _ _ _ _ _ _ _ _ _ _ _ _ c.requires.parts c.requires.first c.requires.second c.meet.ensures.passes c.meet-2.ensures.passes c.in_ok-hit.ensures.answer c.in_ok-miss.ensures.answer
    _ _ c.branch-table.ensures.kept c.in_ok-answer.ensures.within c.in_ok-answer.ensures.times c.in_ok-answer.ensures.after c.in_ok-answer.ensures.events

pub join-returns-clause-memo : goal.join-returns-clause-memo
join-returns-clause-memo g t c = answers_kept _ _ c.meet-2.ensures.passes.table c.branch-table.ensures.kept _ _ c.in_ok-miss.ensures.memo

pub join-returns-clause-below : goal.join-returns-clause-below
join-returns-clause-below g t c = below_then _ _ _ _ _ _ _
    (below_hits _ _ c.requires.table c.meet.ensures.passes.kept _ _ _ _ _ c.requires.parts _ _ c.meet.ensures.below)
    (below_misses _ _ c.requires.table c.meet.ensures.passes.kept _ _ _ _ _ c.requires.parts _ _ c.meet-2.ensures.below)

pub join-returns-clause-passes : goal.join-returns-clause-passes
join-returns-clause-passes g t c =
    passes_more _ _ _ _ _ _ _ _ _ (passes_misses _ _ _ _ _ _ _ _ _ _ _ _ _ _ c.requires.parts c.meet.ensures.passes c.meet-2.ensures.passes) c.branch-table.ensures.kept c.branch-table.ensures.table

pub meet-of_leaves-requires : goal.meet-of_leaves-requires
meet-of_leaves-requires g t c = let f : Combination = λ e. false in rw (c.in-Leaves.ensures.parts.first f, c.in-Leaves.ensures.parts.second f) at (c.requires.can f f)

pub meet-returns-in_err-time-in-Leaves-clause-passes : goal.meet-returns-in_err-time-in-Leaves-clause-passes
meet-returns-in_err-time-in-Leaves-clause-passes g t c =
    passes_leaves _ _ _ _ _ _ _ _ _ _ c.in-Leaves.ensures.parts c.requires.table (keeps_self c.args.table.now) c.of_leaves.ensures.stays c.of_leaves.ensures.able c.of_leaves.ensures.only

pub meet-returns-in-Some-get-clause-answer : goal.meet-returns-in-Some-get-clause-answer
meet-returns-in-Some-get-clause-answer g t c = c.requires.memo.each c.args.pair.0.place c.args.pair.1.place c.in-Some-get.known.now (sym c.in-Some-get.ensures.value)

pub meet-returns-in_ok-time-in-Leaves-clause-memo : goal.meet-returns-in_ok-time-in-Leaves-clause-memo
meet-returns-in_ok-time-in-Leaves-clause-memo g t c = on_ok c.leaf.result _ (answers_kept _ _ c.requires.table c.leaf.ensures.kept _ _ (answers_stay _ _ _ _ c.of_leaves.ensures.stays c.requires.memo))

pub meet-returns-in_ok-time-in-Leaves-clause-passes : goal.meet-returns-in_ok-time-in-Leaves-clause-passes
meet-returns-in_ok-time-in-Leaves-clause-passes g t c =
    passes_leaves _ _ _ _ _ _ _ _ _ _ c.in-Leaves.ensures.parts c.leaf.ensures.table c.leaf.ensures.kept c.of_leaves.ensures.stays c.of_leaves.ensures.able c.of_leaves.ensures.only

pub meet-returns-in_ok-insert-in-Branches-clause-memo : goal.meet-returns-in_ok-insert-in-Branches-clause-memo
meet-returns-in_ok-insert-in-Branches-clause-memo g t c =
    answers_more _ _ _ _ _ _ _ c.in_ok-answer-in-Branches.ensures.memo (rw c.in-Branches.ensures.parts.same at c.in_ok-answer-in-Branches.ensures.answer) c.in_ok-insert-in-Branches.ensures.updates.0

pub meet-returns-in_ok-insert-in-Branches-clause-below : goal.meet-returns-in_ok-insert-in-Branches-clause-below
meet-returns-in_ok-insert-in-Branches-clause-below g t c = below_insert _ _ _ _ _ _ _ (rw c.in-Branches.ensures.parts.same at c.join.ensures.below) c.in_ok-insert-in-Branches.ensures.updates.0

pub meet-returns-in_ok-insert-in-Branches-clause-steps : goal.meet-returns-in_ok-insert-in-Branches-clause-steps
meet-returns-in_ok-insert-in-Branches-clause-steps g t c =
    omega (
      arith,
      c.in_ok-answer-in-Branches.ensures.steps,
      one_more _ _ _
          (c.in_ok-insert-in-Branches.ensures.old ∙ still_absent _ _ _ _ _ (rw c.in-Branches.ensures.parts.same at c.join.ensures.below) (sym c.in_default-get.ensures.value)) c.in_ok-insert-in-Branches.ensures.len,
    )
