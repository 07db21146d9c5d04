use Rattle.state_families.proofs.LeavingLemmas.{keeps_self, left_ok}
use Rattle.state_families.proofs.work.leave_along.Goals as goal

pub leave_at-requires-clause-right : goal.leave_at-requires-clause-right
leave_at-requires-clause-right c =
    let s = c.args.subject.now in
    let nodes = c.args.table.now in
    c.kept_answers_stay.ensures.right nodes nodes c.args.work.now.pool c.intern.new.self s.machine.now s.unfolded.now c.args.work.now.memo (keeps_self nodes)
    (c.kept_answers_stay.ensures.pool c.args.work.now.pool c.intern.new.self (record { slots = c.args.source.now }) c.in_ok-place.place c.in_ok-place.ensures.place) c.requires.right

pub returns-clause-left : goal.returns-clause-left
returns-clause-left c =
    let s = c.args.subject.now in
    left_ok c.leave_at.new.table c.leave_at.new.memo.leavings c.intern.new.self c.in_ok-place.place s.unfolded.now s.machine.now c.args.edge c.args.source.now c.leave_at.result
    c.in_ok-place.ensures.place.at c.leave_at.ensures.leaving
