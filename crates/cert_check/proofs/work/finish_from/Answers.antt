use Rattle.std.proofs.Common.{sym, subst, ◌^◌, ◌∙◌}
use Rattle.std.proofs.lemmas.Option.{slice_get_within, same_Some}
use Rattle.pipe_time.specs.declared.vector.Vector.{Vector}
use Rattle.wx_base.specs.Vector.{AreWithin}
use Rattle.node_exits.specs.NodeExits.{IsNodeFinish}
use Rattle.cert_check.specs.Places.{IsFinish}
use Rattle.cert_check.proofs.ResultLemmas.{are_within, ok_more}
use Rattle.cert_check.proofs.StayLemmas.{keeps_self}
use Rattle.cert_check.proofs.work.finish_from.Goals as goal

pub finish_of-requires-clause-node : goal.finish_of-requires-clause-node
finish_of-requires-clause-node c = record { machine = c.requires.machine; unfolded = c.requires.unfolded; within = c.requires.node }

pub finish_of-requires-clause-place : goal.finish_of-requires-clause-place
finish_of-requires-clause-place c = slice_get_within c.place_of.new.self.pool c.in_ok-place.place c.args.v.now.slots c.in_ok-place.ensures.place

pub finish_of-requires-clause-small : goal.finish_of-requires-clause-small
finish_of-requires-clause-small c = λ from at.
    subst (λ (w : Vector). AreWithin (10 ^ 18) w.slots) (same_Some c.args.v.now.slots from (sym c.in_ok-place.ensures.place ∙ at))
    (are_within (10 ^ 18) c.args.v.now.slots.slots c.requires.small.slots)

pub finish_of-requires-clause-right : goal.finish_of-requires-clause-right
finish_of-requires-clause-right c =
    let s = c.args.subject.now in
    c.place_of.ensures.right c.args.table.now s.unfolded.now s.machine.now c.requires.right

pub returns-in_err-place-clause-right : goal.returns-in_err-place-clause-right
returns-in_err-place-clause-right c =
    let s = c.args.subject.now in
    c.place_of.ensures.right c.args.table.now s.unfolded.now s.machine.now c.requires.right

pub returns-in_err-place-clause-kept : goal.returns-in_err-place-clause-kept
returns-in_err-place-clause-kept c = keeps_self c.args.table.now

pub returns-clause-finish : goal.returns-clause-finish
returns-clause-finish c =
    let s = c.args.subject.now in
    let v = c.args.v.now in
    let nodes = c.finish_of.new.table in
    ok_more c.finish_of.result (IsNodeFinish nodes s.unfolded.now s.machine.now c.args.node v.slots) (IsFinish nodes s.unfolded.now s.machine.now c.args.node v)
    (λ d is. record { diagram = is.diagram; each = is.each }) (c.finish_of.ensures.finish v.slots c.in_ok-place.ensures.place)
