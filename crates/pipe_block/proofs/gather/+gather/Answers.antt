use Rattle.std.proofs.Common.{◌+◌, ◌<◌, ◌≤◌, true, false, sym, arith, rules}
use Rattle.pipe_block.specs.Times.{AreDiagrams}
use Rattle.pipe_block.specs.Rows.{AreFrom, LeadsTo, parts, row_at}
use Rattle.pipe_block.proofs.Arrivals.{bundle_eq, bundle_eq_sound}
use Rattle.pipe_block.proofs.Plans.{keeps_twice, extends_self, adds_half, adds_twice, adds_row}
use Rattle.pipe_block.proofs.Gathers.{from_after, gathered_kept}
use Rattle.pipe_block.proofs.Gathering.{gathered_more, gather_branch, gather_leaf}
use Rattle.pipe_block.proofs.Walking.{on_ok, if_ok_four}
use Rattle.pipe_block.proofs.gather.+gather.Goals as goal

pub returns-then-event-eq-END-clause-leads : goal.returns-then-event-eq-END-clause-leads
returns-then-event-eq-END-clause-leads t c =
    if_ok_four c.arrive.result _ _ _ _ (λ d. LeadsTo c.arrive.new.plan c.arrive.new.rows.keys c.args.table.now c.args.bundle.now d.place)
    c.arrive.ensures.each c.arrive.ensures.within c.arrive.ensures.after c.arrive.ensures.events
    (λ d each within after less. gather_leaf c.args.table.now c.arrive.new.plan c.arrive.new.rows.keys c.args.bundle.now d.place c.leaf_row.result c.leaf_row.ensures within each after less)

pub returns-then-event-eq-END-clause-known : goal.returns-then-event-eq-END-clause-known
returns-then-event-eq-END-clause-known t c =
    on_ok c.arrive.result _
    (gathered_kept c.args.plan.now c.arrive.new.plan c.args.rows.now.keys c.arrive.new.rows.keys c.args.table.now _ c.arrive.ensures.kept c.arrive.ensures.rows c.requires.known)

pub returns-then-event-eq-END-clause-given : goal.returns-then-event-eq-END-clause-given
returns-then-event-eq-END-clause-given t c =
    adds_row c.args.rows.now.keys c.arrive.new.rows.keys c.leaf_row.result (row_at c.args.table.now c.args.bundle.now) c.args.level c.leaf_row.ensures c.arrive.ensures.only

pub returns-in-Some-clause-leads : goal.returns-in-Some-clause-leads
returns-in-Some-clause-leads t c = c.requires.known.each c.args.bundle.now c.in-Some.answer.now (sym c.in-Some.ensures.value)

pub gather-requires : goal.gather-requires
gather-requires t c =
    let e = c.first_event-event.result in
    let bound : e ≤ 12 = c.first_event-event.ensures.bound in
    let level : c.args.level ≤ e = c.first_event-event.ensures.level c.args.level c.requires.level c.requires.from in
    let l : e < 12 = omega (arith, c.if-event-eq-END.false) in
    let ds : AreDiagrams c.args.table.now 12 (parts c.cofactors-hits.result) = c.cofactors-hits.ensures.events 12 c.requires.diagrams in
    let from : AreFrom c.args.table.now (e + 1) (parts c.cofactors-hits.result) = from_after c.args.table.now c.cofactors-hits.result e c.cofactors-hits.ensures.after in
    search rules

pub returns-in_err-hit-clause-given : goal.returns-in_err-hit-clause-given
returns-in_err-hit-clause-given t c =
    adds_half (row_at c.args.table.now c.args.bundle.now) (row_at c.args.table.now c.cofactors-hits.result) c.args.level c.first_event-event.result false
    (c.first_event-event.ensures.level c.args.level c.requires.level c.requires.from) c.cofactors-hits.ensures.times c.args.rows.now.keys c.gather.new.rows.keys c.gather.ensures.given

pub gather-requires-2 : goal.gather-requires-2
gather-requires-2 t c =
    let e = c.first_event-event.result in
    let bound : e ≤ 12 = c.first_event-event.ensures.bound in
    let level : c.args.level ≤ e = c.first_event-event.ensures.level c.args.level c.requires.level c.requires.from in
    let l : e < 12 = omega (arith, c.if-event-eq-END.false) in
    let ds : AreDiagrams c.args.table.now 12 (parts c.cofactors-misses.result) = c.cofactors-misses.ensures.events 12 c.requires.diagrams in
    let from : AreFrom c.args.table.now (e + 1) (parts c.cofactors-misses.result) = from_after c.args.table.now c.cofactors-misses.result e c.cofactors-misses.ensures.after in
    search rules

pub returns-in_err-miss-clause-kept : goal.returns-in_err-miss-clause-kept
returns-in_err-miss-clause-kept t c = keeps_twice c.args.plan.now c.gather.new.plan c.gather-2.new.plan c.gather.ensures.kept c.gather-2.ensures.kept

pub returns-in_err-miss-clause-given : goal.returns-in_err-miss-clause-given
returns-in_err-miss-clause-given t c =
    let lv = c.first_event-event.ensures.level c.args.level c.requires.level c.requires.from in
    adds_twice c.args.rows.now.keys c.gather.new.rows.keys c.gather-2.new.rows.keys (row_at c.args.table.now c.args.bundle.now) c.args.level
    (adds_half (row_at c.args.table.now c.args.bundle.now) (row_at c.args.table.now c.cofactors-hits.result) c.args.level c.first_event-event.result false lv c.cofactors-hits.ensures.times c.args.rows.now.keys c.gather.new.rows.keys c.gather.ensures.given)
    (adds_half (row_at c.args.table.now c.args.bundle.now) (row_at c.args.table.now c.cofactors-misses.result) c.args.level c.first_event-event.result true lv c.cofactors-misses.ensures.times c.gather.new.rows.keys c.gather-2.new.rows.keys c.gather-2.ensures.given)

pub returns-in_err-answer-clause-given : goal.returns-in_err-answer-clause-given
returns-in_err-answer-clause-given t c =
    let lv = c.first_event-event.ensures.level c.args.level c.requires.level c.requires.from in
    adds_twice c.args.rows.now.keys c.gather.new.rows.keys c.gather-2.new.rows.keys (row_at c.args.table.now c.args.bundle.now) c.args.level
    (adds_half (row_at c.args.table.now c.args.bundle.now) (row_at c.args.table.now c.cofactors-hits.result) c.args.level c.first_event-event.result false lv c.cofactors-hits.ensures.times c.args.rows.now.keys c.gather.new.rows.keys c.gather.ensures.given)
    (adds_half (row_at c.args.table.now c.args.bundle.now) (row_at c.args.table.now c.cofactors-misses.result) c.args.level c.first_event-event.result true lv c.cofactors-misses.ensures.times c.gather.new.rows.keys c.gather-2.new.rows.keys c.gather-2.ensures.given)

pub returns-in_err-insert-clause-given : goal.returns-in_err-insert-clause-given
returns-in_err-insert-clause-given t c =
    let lv = c.first_event-event.ensures.level c.args.level c.requires.level c.requires.from in
    adds_twice c.args.rows.now.keys c.gather.new.rows.keys c.gather-2.new.rows.keys (row_at c.args.table.now c.args.bundle.now) c.args.level
    (adds_half (row_at c.args.table.now c.args.bundle.now) (row_at c.args.table.now c.cofactors-hits.result) c.args.level c.first_event-event.result false lv c.cofactors-hits.ensures.times c.args.rows.now.keys c.gather.new.rows.keys c.gather.ensures.given)
    (adds_half (row_at c.args.table.now c.args.bundle.now) (row_at c.args.table.now c.cofactors-misses.result) c.args.level c.first_event-event.result true lv c.cofactors-misses.ensures.times c.gather.new.rows.keys c.gather-2.new.rows.keys c.gather-2.ensures.given)

pub returns-clause-given : goal.returns-clause-given
returns-clause-given t c =
    let lv = c.first_event-event.ensures.level c.args.level c.requires.level c.requires.from in
    adds_twice c.args.rows.now.keys c.gather.new.rows.keys c.gather-2.new.rows.keys (row_at c.args.table.now c.args.bundle.now) c.args.level
    (adds_half (row_at c.args.table.now c.args.bundle.now) (row_at c.args.table.now c.cofactors-hits.result) c.args.level c.first_event-event.result false lv c.cofactors-hits.ensures.times c.args.rows.now.keys c.gather.new.rows.keys c.gather.ensures.given)
    (adds_half (row_at c.args.table.now c.args.bundle.now) (row_at c.args.table.now c.cofactors-misses.result) c.args.level c.first_event-event.result true lv c.cofactors-misses.ensures.times c.gather.new.rows.keys c.gather-2.new.rows.keys c.gather-2.ensures.given)

pub returns-in_err-answer-clause-kept : goal.returns-in_err-answer-clause-kept
returns-in_err-answer-clause-kept t c =
    keeps_twice c.args.plan.now c.gather-2.new.plan c.branch-plan.new.self
    (keeps_twice c.args.plan.now c.gather.new.plan c.gather-2.new.plan c.gather.ensures.kept c.gather-2.ensures.kept) c.branch-plan.ensures.kept

pub returns-in_err-insert-clause-kept : goal.returns-in_err-insert-clause-kept
returns-in_err-insert-clause-kept t c =
    keeps_twice c.args.plan.now c.gather-2.new.plan c.branch-plan.new.self
    (keeps_twice c.args.plan.now c.gather.new.plan c.gather-2.new.plan c.gather.ensures.kept c.gather-2.ensures.kept) c.branch-plan.ensures.kept

pub returns-clause-kept : goal.returns-clause-kept
returns-clause-kept t c =
    keeps_twice c.args.plan.now c.gather-2.new.plan c.branch-plan.new.self
    (keeps_twice c.args.plan.now c.gather.new.plan c.gather-2.new.plan c.gather.ensures.kept c.gather-2.ensures.kept) c.branch-plan.ensures.kept

pub returns-clause-leads : goal.returns-clause-leads
returns-clause-leads t c =
    let e = c.first_event-event.result in
    let bound : e ≤ 12 = c.first_event-event.ensures.bound in
    let l : e < 12 = omega (arith, c.if-event-eq-END.false) in
    gather_branch c.args.table.now c.args.bundle.now c.cofactors-hits.result c.cofactors-misses.result e c.gather.new.plan c.gather-2.new.plan c.gather.new.rows.keys c.gather-2.new.rows.keys
    c.in_ok-hit.hit.place c.in_ok-miss.miss.place c.cofactors-hits.ensures c.cofactors-misses.ensures c.in_ok-hit.ensures.leads c.gather-2.ensures.kept c.gather-2.ensures.rows c.in_ok-miss.ensures.leads
    c.branch-plan.new.self c.in_ok-answer.answer.place l c.first_event-event.ensures.first (λ n ds. c.first_event-event.ensures.below n ds l)
    c.in_ok-answer.ensures.within c.in_ok-answer.ensures.times c.in_ok-answer.ensures.after c.in_ok-answer.ensures.events

pub returns-clause-known : goal.returns-clause-known
unfolding bundle_eq
returns-clause-known t c =
    gathered_more c.args.table.now bundle_eq bundle_eq_sound c.branch-plan.new.self c.gather-2.new.rows.keys c.args.bundle.now c.in_ok-answer.answer _ _
    (gathered_kept c.gather-2.new.plan c.branch-plan.new.self c.gather-2.new.rows.keys c.gather-2.new.rows.keys c.args.table.now _ c.branch-plan.ensures.kept (extends_self c.gather-2.new.rows.keys) c.in_ok-miss.ensures.known)
    (returns-clause-leads t c)
    c.in_ok-insert.ensures.updates.0
