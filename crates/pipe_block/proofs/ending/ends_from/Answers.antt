use Rattle.pipe_block.proofs.EndLemmas.{ends_are, finish_stays, leaving_at_stays, leavings_self, leavings_twice}
use Rattle.pipe_block.proofs.Plans.{keeps_twice}
use Rattle.pipe_block.proofs.ending.ends_from.Goals as goal

pub returns-clause-ends : goal.returns-clause-ends
returns-clause-ends c =
    let m = c.args.m.now in
    let from = c.args.from.now.slots in
    let b = c.args.b.now in
    let few = c.requires.timed.few in
    let walk = c.in_ok-walked.ensures in
    let new = c.add_wanted.new.table in
    let made = c.add_wanted.new.made.items in
    ends_are new made m from b c.ends_with.result c.in_ok-number.number c.in_ok-other.other c.args.taken c.in_ok-finish.finish
    c.ends_with.ensures.finish c.ends_with.ensures.here c.ends_with.ensures.there
    (finish_stays c.finish_from.new.table new m from b c.in_ok-finish.finish
    (keeps_twice c.finish_from.new.table c.add_leaving.new.table new c.add_leaving.ensures.kept c.add_wanted.ensures.kept) (c.in_ok-finish.ensures.finish m from b few walk))
    (leaving_at_stays c.add_leaving.new.table new c.add_leaving.new.made.items made m from b c.add_wanted.ensures.kept c.add_wanted.ensures.leavings c.args.taken c.in_ok-number.number
    (c.in_ok-number.ensures.leaving from b few walk))
    (c.in_ok-other.ensures.leaving from b few walk)

pub returns-clause-number : goal.returns-clause-number
returns-clause-number c = record { number = c.in_ok-number.number; is = c.ends_with.ensures.here }

pub returns-in_err-walked-clause-leavings : goal.returns-in_err-walked-clause-leavings
returns-in_err-walked-clause-leavings c = leavings_self c.args.made.now.items

pub returns-in_err-finish-clause-leavings : goal.returns-in_err-finish-clause-leavings
returns-in_err-finish-clause-leavings c = leavings_self c.args.made.now.items

pub returns-in_err-other-clause-leavings : goal.returns-in_err-other-clause-leavings
returns-in_err-other-clause-leavings c = leavings_twice c.args.made.now.items c.add_leaving.new.made.items c.add_wanted.new.made.items c.add_leaving.ensures.leavings c.add_wanted.ensures.leavings

pub returns-clause-leavings : goal.returns-clause-leavings
returns-clause-leavings c = leavings_twice c.args.made.now.items c.add_leaving.new.made.items c.add_wanted.new.made.items c.add_leaving.ensures.leavings c.add_wanted.ensures.leavings

pub returns-in_err-number-clause-kept : goal.returns-in_err-number-clause-kept
returns-in_err-number-clause-kept c = keeps_twice c.args.table.now c.finish_from.new.table c.add_leaving.new.table c.finish_from.ensures.kept c.add_leaving.ensures.kept

pub returns-in_err-other-clause-kept : goal.returns-in_err-other-clause-kept
returns-in_err-other-clause-kept c =
    keeps_twice c.args.table.now c.add_leaving.new.table c.add_wanted.new.table
    (keeps_twice c.args.table.now c.finish_from.new.table c.add_leaving.new.table c.finish_from.ensures.kept c.add_leaving.ensures.kept) c.add_wanted.ensures.kept

pub returns-clause-kept : goal.returns-clause-kept
returns-clause-kept c =
    keeps_twice c.args.table.now c.add_leaving.new.table c.add_wanted.new.table
    (keeps_twice c.args.table.now c.finish_from.new.table c.add_leaving.new.table c.finish_from.ensures.kept c.add_leaving.ensures.kept) c.add_wanted.ensures.kept

pub finish_from-requires : goal.finish_from-requires
finish_from-requires c = c.in_ok-walked.ensures.leads.within

pub add_leaving-requires-clause-within : goal.add_leaving-requires-clause-within
add_leaving-requires-clause-within c = c.in_ok-walked.ensures.leads.within

pub add_wanted-requires-clause-within : goal.add_wanted-requires-clause-within
add_wanted-requires-clause-within c = c.in_ok-walked.ensures.leads.within
