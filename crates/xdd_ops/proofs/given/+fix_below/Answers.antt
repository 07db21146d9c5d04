use Rattle.std.proofs.Common.{sym, arith}
use Rattle.xdd_ops.proofs.ApplyLemmas.{keeps_twice}
use Rattle.xdd_ops.proofs.GivenLemmas.{miss_fixed, hit_fixed, below_fixed, hit_after, miss_after, all_fixed_kept, all_fixed_more}
use Rattle.xdd_ops.proofs.given.+fix_below.Goals as goal

pub returns-then-miss-clause-fixed : goal.returns-then-miss-clause-fixed
returns-then-miss-clause-fixed t c = rw (← c.if-root-event.true, c.if-miss.true)
    (miss_fixed c.args.table.now c.in-Branch.ensures.table c.args.d.place c.in-Branch.root c.in-Branch.hit c.in-Branch.missed c.requires.within c.in-Branch.ensures.value)

pub returns-else-miss-clause-fixed : goal.returns-else-miss-clause-fixed
returns-else-miss-clause-fixed t c = rw (← c.if-root-event.true, c.if-miss.false)
    (hit_fixed c.args.table.now c.in-Branch.ensures.table c.args.d.place c.in-Branch.root c.in-Branch.hit c.in-Branch.missed c.requires.within c.in-Branch.ensures.value)

pub returns-in-Some-clause-fixed : goal.returns-in-Some-clause-fixed
returns-in-Some-clause-fixed t c = c.requires.memo.each c.args.d.place c.in-Some.known.now (sym c.in-Some.ensures.value)

pub returns-in_err-missed-in-Branch-clause-kept : goal.returns-in_err-missed-in-Branch-clause-kept
returns-in_err-missed-in-Branch-clause-kept t c = keeps_twice c.args.table.now c.fix_below.new.table c.fix_below-in-Branch.new.table c.fix_below.ensures.kept c.fix_below-in-Branch.ensures.kept

pub branch-table-requires-clause-hit_after : goal.branch-table-requires-clause-hit_after
branch-table-requires-clause-hit_after t c =
    hit_after c.args.table.now c.fix_below.new.table c.fix_below-in-Branch.new.table c.fix_below-in-Branch.new.table c.in-Branch.ensures.table c.fix_below.ensures.kept c.fix_below-in-Branch.ensures.kept
    (keeps_twice c.args.table.now c.fix_below.new.table c.fix_below-in-Branch.new.table c.fix_below.ensures.kept c.fix_below-in-Branch.ensures.kept)
    c.args.d.place c.in-Branch.root c.args.event c.args.miss c.in-Branch.hit c.in-Branch.missed c.in_ok-hit-in-Branch.hit.place c.in_ok-missed-in-Branch.missed.place c.args.d.place
    c.requires.within c.in-Branch.ensures.value (omega arith) c.in_ok-hit-in-Branch.ensures.fixed c.in_ok-missed-in-Branch.ensures.fixed

pub branch-table-requires-clause-miss_after : goal.branch-table-requires-clause-miss_after
branch-table-requires-clause-miss_after t c =
    miss_after c.args.table.now c.fix_below.new.table c.fix_below-in-Branch.new.table c.fix_below-in-Branch.new.table c.in-Branch.ensures.table c.fix_below.ensures.kept c.fix_below-in-Branch.ensures.kept
    (keeps_twice c.args.table.now c.fix_below.new.table c.fix_below-in-Branch.new.table c.fix_below.ensures.kept c.fix_below-in-Branch.ensures.kept)
    c.args.d.place c.in-Branch.root c.args.event c.args.miss c.in-Branch.hit c.in-Branch.missed c.in_ok-hit-in-Branch.hit.place c.in_ok-missed-in-Branch.missed.place c.args.d.place
    c.requires.within c.in-Branch.ensures.value (omega arith) c.in_ok-hit-in-Branch.ensures.fixed c.in_ok-missed-in-Branch.ensures.fixed

pub returns-in_err-answer-in-Branch-clause-kept : goal.returns-in_err-answer-in-Branch-clause-kept
returns-in_err-answer-in-Branch-clause-kept t c =
    keeps_twice c.args.table.now c.fix_below-in-Branch.new.table c.branch-table.new.self
    (keeps_twice c.args.table.now c.fix_below.new.table c.fix_below-in-Branch.new.table c.fix_below.ensures.kept c.fix_below-in-Branch.ensures.kept) c.branch-table.ensures.kept

pub returns-in_err-insert-in-Branch-clause-kept : goal.returns-in_err-insert-in-Branch-clause-kept
returns-in_err-insert-in-Branch-clause-kept t c =
    keeps_twice c.args.table.now c.fix_below-in-Branch.new.table c.branch-table.new.self
    (keeps_twice c.args.table.now c.fix_below.new.table c.fix_below-in-Branch.new.table c.fix_below.ensures.kept c.fix_below-in-Branch.ensures.kept) c.branch-table.ensures.kept

pub returns-in_ok-insert-in-Branch-clause-kept : goal.returns-in_ok-insert-in-Branch-clause-kept
returns-in_ok-insert-in-Branch-clause-kept t c =
    keeps_twice c.args.table.now c.fix_below-in-Branch.new.table c.branch-table.new.self
    (keeps_twice c.args.table.now c.fix_below.new.table c.fix_below-in-Branch.new.table c.fix_below.ensures.kept c.fix_below-in-Branch.ensures.kept) c.branch-table.ensures.kept

pub returns-in_ok-insert-in-Branch-clause-fixed : goal.returns-in_ok-insert-in-Branch-clause-fixed
returns-in_ok-insert-in-Branch-clause-fixed t c =
    let two = keeps_twice c.args.table.now c.fix_below.new.table c.fix_below-in-Branch.new.table c.fix_below.ensures.kept c.fix_below-in-Branch.ensures.kept in
    below_fixed c.args.table.now c.fix_below.new.table c.fix_below-in-Branch.new.table c.branch-table.new.self c.in-Branch.ensures.table c.fix_below.ensures.kept c.fix_below-in-Branch.ensures.kept
    (keeps_twice c.args.table.now c.fix_below-in-Branch.new.table c.branch-table.new.self two c.branch-table.ensures.kept)
    c.args.d.place c.in-Branch.root c.args.event c.args.miss c.in-Branch.hit c.in-Branch.missed c.in_ok-hit-in-Branch.hit.place c.in_ok-missed-in-Branch.missed.place c.in_ok-answer-in-Branch.answer.place
    c.requires.within c.in-Branch.ensures.value (omega arith) c.in_ok-hit-in-Branch.ensures.fixed c.in_ok-missed-in-Branch.ensures.fixed
    c.in_ok-answer-in-Branch.ensures.within c.in_ok-answer-in-Branch.ensures.times c.in_ok-answer-in-Branch.ensures.after c.in_ok-answer-in-Branch.ensures.events

pub returns-in_ok-insert-in-Branch-clause-memo : goal.returns-in_ok-insert-in-Branch-clause-memo
returns-in_ok-insert-in-Branch-clause-memo t c =
    all_fixed_more c.branch-table.new.self c.args.event c.args.miss c.args.d.place c.in_ok-answer-in-Branch.answer _ _
    (all_fixed_kept c.fix_below-in-Branch.new.table c.branch-table.new.self c.fix_below-in-Branch.ensures.table c.branch-table.ensures.kept c.args.event c.args.miss _ c.in_ok-missed-in-Branch.ensures.memo)
    (returns-in_ok-insert-in-Branch-clause-fixed t c)
    c.in_ok-insert-in-Branch.ensures.updates.0
