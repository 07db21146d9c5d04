use Rattle.std.proofs.Common.{◌^◌, ◌∙◌, length, sym, subst, arith}
use Rattle.std.proofs.lemmas.Option.{same_Some, slice_get_within}
use Rattle.wx_base.specs.Vector.{AreWithin}
use Rattle.xdd_table.specs.Diagram.{time}
use Rattle.pipe_time.specs.declared.vector.Vector.{Vector}
use Rattle.cert_judge.specs.Settled.{settled}
use Rattle.cert_judge.proofs.KeepLemmas.{keeps_twice, keeps_thrice}
use Rattle.state_charges.proofs.VectorLemmas.{is_leaving, vector_raised}
use Rattle.state_charges.proofs.vectors.raise_vector.Goals as goal

pub leave_from-requires-clause-place : goal.leave_from-requires-clause-place
leave_from-requires-clause-place c = slice_get_within c.place_of.new.self.pool c.in_ok-place.place c.args.v.now c.in_ok-place.ensures.place

pub leave_from-requires-clause-small : goal.leave_from-requires-clause-small
leave_from-requires-clause-small c = λ from at.
    subst (λ (v : Vector). AreWithin (10 ^ 18) v.slots) (same_Some c.args.v.now from (sym c.in_ok-place.ensures.place ∙ at)) c.requires.small

pub leave_from-requires-clause-right : goal.leave_from-requires-clause-right
leave_from-requires-clause-right c =
    let s = c.args.departure.now.site in
    c.place_of.ensures.right c.args.table.now s.unfolded.now s.machine.now c.requires.right

pub leaving-requires : goal.leaving-requires
leaving-requires c =
    let a = c.in_ok-number.ensures.leaving c.args.v.now c.in_ok-place.ensures.place in
    slice_get_within c.leave_from.new.work.memo.leavings c.in_ok-number.number a.leaving a.listed

pub settle-requires-clause-within : goal.settle-requires-clause-within
settle-requires-clause-within c =
    let s = c.args.departure.now.site in
    let l = c.leaving.result.now in
    let is = is_leaving c.leave_from.new.table s.unfolded.now s.machine.now s.node c.args.v.now c.args.departure.now.taken c.leave_from.new.work c.in_ok-number.number l
    (c.in_ok-number.ensures.leaving c.args.v.now c.in_ok-place.ensures.place) c.leaving.ensures in
    (is.diagrams 0 l.cost (omega arith)).within

pub settle-requires-clause-few : goal.settle-requires-clause-few
settle-requires-clause-few c = c.requires.departure.few

pub raise_events-requires-clause-groups : goal.raise_events-requires-clause-groups
raise_events-requires-clause-groups c = λ k x at. (c.requires.departure.first k x at).group

pub returns-in_err-cost-clause-kept : goal.returns-in_err-cost-clause-kept
returns-in_err-cost-clause-kept c =
    keeps_twice c.args.table.now c.leave_from.new.table c.settle.new.table c.leave_from.ensures.kept c.settle.ensures.kept

pub returns-in_err-raise_events-clause-kept : goal.returns-in_err-raise_events-clause-kept
returns-in_err-raise_events-clause-kept c =
    keeps_thrice c.args.table.now c.leave_from.new.table c.settle.new.table c.raise_events.new.table
    c.leave_from.ensures.kept c.settle.ensures.kept c.raise_events.ensures.kept

pub returns-clause-kept : goal.returns-clause-kept
returns-clause-kept c =
    keeps_thrice c.args.table.now c.leave_from.new.table c.settle.new.table c.raise_events.new.table
    c.leave_from.ensures.kept c.settle.ensures.kept c.raise_events.ensures.kept

pub returns-clause-right : goal.returns-clause-right
returns-clause-right c =
    let s = c.args.departure.now.site in
    c.exits_stay.ensures.work c.leave_from.new.table c.raise_events.new.table s.unfolded.now s.machine.now c.leave_from.new.work
    (keeps_twice c.leave_from.new.table c.settle.new.table c.raise_events.new.table c.settle.ensures.kept c.raise_events.ensures.kept)
    c.leave_from.ensures.right

pub returns-clause-raises : goal.returns-clause-raises
returns-clause-raises c =
    let d = c.args.departure.now in
    let l = c.leaving.result.now in
    let is = is_leaving c.leave_from.new.table d.site.unfolded.now d.site.machine.now d.site.node c.args.v.now d.taken c.leave_from.new.work c.in_ok-number.number l
    (c.in_ok-number.ensures.leaving c.args.v.now c.in_ok-place.ensures.place) c.leaving.ensures in
    vector_raised d.site.machine.now d.block.now d.classes.now d.taken d.misses.now c.args.v.now (length c.args.amounts.now)
    (λ f. time c.settle.new.table f c.in_ok-cost.cost.place) c.requires.departure.first
    (λ f. c.in_ok-cost.ensures.times f ∙ (is.each d.block.now c.requires.departure.is).cost (settled d.classes.now f))
    c.args.amounts.now c.raise_events.new.amounts c.in_ok-raise_events.ensures.raises
