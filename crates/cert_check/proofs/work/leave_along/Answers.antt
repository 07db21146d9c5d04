use Rattle.std.proofs.Common.{sym, subst, ◌^◌, ◌∙◌}
use Rattle.std.proofs.lemmas.Option.{slice_get_within, same_Some}
use Rattle.pipe_time.specs.declared.vector.Vector.{Vector}
use Rattle.wx_base.specs.Vector.{AreWithin}
use Rattle.cert_check.proofs.ResultLemmas.{are_within}
use Rattle.cert_check.proofs.StayLemmas.{keeps_self}
use Rattle.cert_check.proofs.work.leave_along.Goals as goal

pub leave_from-requires-clause-node : goal.leave_from-requires-clause-node
leave_from-requires-clause-node c = record { machine = c.requires.machine; unfolded = c.requires.unfolded; within = c.requires.node }

pub leave_from-requires-clause-place : goal.leave_from-requires-clause-place
leave_from-requires-clause-place c = slice_get_within c.place_of.new.self.pool c.in_ok-place.place c.args.v.now.slots c.in_ok-place.ensures.place

pub leave_from-requires-clause-small : goal.leave_from-requires-clause-small
leave_from-requires-clause-small c = λ from at.
    subst (λ (w : Vector). AreWithin (10 ^ 18) w.slots) (same_Some c.args.v.now.slots from (sym c.in_ok-place.ensures.place ∙ at))
    (are_within (10 ^ 18) c.args.v.now.slots.slots c.requires.small.slots)

pub leave_from-requires-clause-right : goal.leave_from-requires-clause-right
leave_from-requires-clause-right c =
    let s = c.args.subject.now in
    c.place_of.ensures.right c.args.table.now s.unfolded.now s.machine.now c.requires.right

pub returns-in_err-place-clause-right : goal.returns-in_err-place-clause-right
returns-in_err-place-clause-right c =
    let s = c.args.subject.now in
    c.place_of.ensures.right c.args.table.now s.unfolded.now s.machine.now c.requires.right

pub returns-in_err-place-clause-kept : goal.returns-in_err-place-clause-kept
returns-in_err-place-clause-kept c = keeps_self c.args.table.now

pub returns-clause-answer : goal.returns-clause-answer
returns-clause-answer c = c.leave_from.ensures.leaving c.args.v.now.slots c.in_ok-place.ensures.place
