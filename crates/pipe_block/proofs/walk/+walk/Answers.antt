use Rattle.std.proofs.Common.{◌≡◌, ◌+◌, ◌<◌, true, false, length, sym, ap, ◌∙◌, arith, rules}
use Rattle.pipe_block.specs.Walks.{IsState, LeadsOn, row_of_state}
use Rattle.pipe_block.proofs.Arrivals.{state_eq, state_eq_sound}
use Rattle.pipe_block.proofs.Plans.{keeps_twice, extends_self, adds_twice, adds_none}
use Rattle.pipe_block.proofs.Steps.{decided_is_state}
use Rattle.pipe_block.proofs.Walking.{walked_kept, walked_more, walk_branch, walk_on, walk_last, adds_decided, adds_passed, adds_last, on_ok, if_ok, if_ok_four}
use Rattle.pipe_block.proofs.walk.+walk.Goals as goal

pub returns-in-Some-get-clause-leads : goal.returns-in-Some-get-clause-leads
returns-in-Some-get-clause-leads t c = c.requires.known.each c.args.state.now c.in-Some-get.answer.now (sym c.in-Some-get.ensures.value)

pub walk-requires : goal.walk-requires
walk-requires t c =
    let s : IsState c.args.course.now.insns.now c.args.course.now.events.now c.decide.result =
    rw c.decide.ensures (decided_is_state c.args.course.now.insns.now c.args.course.now.events.now c.args.state.now c.in-Some.kind false c.in-Some.ensures.some c.requires.state) in
    let a : c.decide.result.at ≡ c.args.state.now.at = ap (λ x. x.at) c.decide.ensures in
    let d : c.decide.result.decided ≡ c.args.state.now.decided + 1 = ap (λ x. x.decided) c.decide.ensures in
    let l : c.args.state.now.decided < length c.args.course.now.events.now = c.in-Some.ensures.within in
    search rules

pub walk-requires-in-Some : goal.walk-requires-in-Some
walk-requires-in-Some t c =
    let s : IsState c.args.course.now.insns.now c.args.course.now.events.now c.decide-in-Some.result =
    rw c.decide-in-Some.ensures (decided_is_state c.args.course.now.insns.now c.args.course.now.events.now c.args.state.now c.in-Some.kind true c.in-Some.ensures.some c.requires.state) in
    let a : c.decide-in-Some.result.at ≡ c.args.state.now.at = ap (λ x. x.at) c.decide-in-Some.ensures in
    let d : c.decide-in-Some.result.decided ≡ c.args.state.now.decided + 1 = ap (λ x. x.decided) c.decide-in-Some.ensures in
    let l : c.args.state.now.decided < length c.args.course.now.events.now = c.in-Some.ensures.within in
    search rules

pub returns-in_err-miss-clause-kept : goal.returns-in_err-miss-clause-kept
returns-in_err-miss-clause-kept t c = keeps_twice c.args.plan.now c.walk.new.plan c.walk-in-Some.new.plan c.walk.ensures.kept c.walk-in-Some.ensures.kept

pub returns-in_err-answer-clause-kept : goal.returns-in_err-answer-clause-kept
returns-in_err-answer-clause-kept t c = keeps_twice c.args.plan.now c.walk-in-Some.new.plan c.branch-plan.new.self
    (keeps_twice c.args.plan.now c.walk.new.plan c.walk-in-Some.new.plan c.walk.ensures.kept c.walk-in-Some.ensures.kept) c.branch-plan.ensures.kept

pub returns-in_err-insert-clause-kept : goal.returns-in_err-insert-clause-kept
returns-in_err-insert-clause-kept t c = keeps_twice c.args.plan.now c.walk-in-Some.new.plan c.branch-plan.new.self
    (keeps_twice c.args.plan.now c.walk.new.plan c.walk-in-Some.new.plan c.walk.ensures.kept c.walk-in-Some.ensures.kept) c.branch-plan.ensures.kept

pub returns-in-Some-clause-kept : goal.returns-in-Some-clause-kept
returns-in-Some-clause-kept t c = keeps_twice c.args.plan.now c.walk-in-Some.new.plan c.branch-plan.new.self
    (keeps_twice c.args.plan.now c.walk.new.plan c.walk-in-Some.new.plan c.walk.ensures.kept c.walk-in-Some.ensures.kept) c.branch-plan.ensures.kept

pub returns-in-Some-clause-leads : goal.returns-in-Some-clause-leads
returns-in-Some-clause-leads t c =
    walk_branch c.args.course.now.machine.now c.args.course.now.insns.now c.args.course.now.events.now c.args.state.now c.in-Some.kind
    c.walk.new.plan c.walk-in-Some.new.plan c.walk.new.rows.keys c.walk-in-Some.new.rows.keys c.in_ok-hit.hit.place c.in_ok-miss.miss.place
    (rw c.decide.ensures at c.in_ok-hit.ensures.leads) c.walk-in-Some.ensures.kept c.walk-in-Some.ensures.rows (rw c.decide-in-Some.ensures at c.in_ok-miss.ensures.leads)
    c.branch-plan.new.self c.in_ok-answer.answer.place c.in-Some.ensures.some c.in-Some.ensures.within
    c.in_ok-answer.ensures.within c.in_ok-answer.ensures.times c.in_ok-answer.ensures.after c.in_ok-answer.ensures.events

pub returns-in-Some-clause-known : goal.returns-in-Some-clause-known
unfolding state_eq
returns-in-Some-clause-known t c =
    let m = c.args.course.now.machine.now in
    let insns = c.args.course.now.insns.now in
    let events = c.args.course.now.events.now in
    walked_more m insns events state_eq state_eq_sound c.branch-plan.new.self c.walk-in-Some.new.rows.keys c.args.state.now c.in_ok-answer.answer _ _
    (walked_kept m insns events c.walk-in-Some.new.plan c.branch-plan.new.self c.walk-in-Some.new.rows.keys c.walk-in-Some.new.rows.keys _ c.branch-plan.ensures.kept (extends_self c.walk-in-Some.new.rows.keys) c.in_ok-miss.ensures.known)
    (returns-in-Some-clause-leads t c)
    c.in_ok-insert.ensures.updates.0

pub returns-then-next-course-clause-leads : goal.returns-then-next-course-clause-leads
returns-then-next-course-clause-leads t c =
    let m = c.args.course.now.machine.now in
    let insns = c.args.course.now.insns.now in
    let events = c.args.course.now.events.now in
    let s = c.args.state.now in
    let is : s.at + 1 ≡ length insns = sym (ap (λ r. r.1.at) c.pass-end.ensures.passed) ∙ c.if-next-course.true in
    if_ok_four c.arrive.result _ _ _ _ (λ d. LeadsOn c.arrive.new.plan c.arrive.new.rows.keys m insns events s d.place)
    c.arrive.ensures.each c.arrive.ensures.within c.arrive.ensures.after c.arrive.ensures.events
    (λ d each within after less. walk_last m insns events c.arrive.new.plan c.arrive.new.rows.keys s d.place (record { number = c.pass-end.result.0; slots = c.pass-end.result.1.slots })
    c.requires.state c.in_default.ensures.none is (ap (λ r. record { number = r.0; slots = r.1.slots }) c.pass-end.ensures.passed) within each after less)

pub returns-then-next-course-clause-known : goal.returns-then-next-course-clause-known
returns-then-next-course-clause-known t c =
    on_ok c.arrive.result _
    (walked_kept c.args.course.now.machine.now c.args.course.now.insns.now c.args.course.now.events.now c.args.plan.now c.arrive.new.plan c.args.rows.now.keys c.arrive.new.rows.keys _
    c.arrive.ensures.kept c.arrive.ensures.rows c.requires.known)

pub returns-clause-leads : goal.returns-clause-leads
returns-clause-leads t c =
    let m = c.args.course.now.machine.now in
    let insns = c.args.course.now.insns.now in
    let events = c.args.course.now.events.now in
    let s = c.args.state.now in
    let at : c.pass-end.result.1.at ≡ s.at + 1 = ap (λ r. r.1.at) c.pass-end.ensures.passed in
    let within : s.at < length insns = c.requires.state.within in
    let l : s.at + 1 < length insns = omega (arith, c.if-next-course.false) in
    if_ok c.walk-2.result (λ d. LeadsOn c.walk-2.new.plan c.walk-2.new.rows.keys m insns events c.pass-end.result.1 d.place)
    (λ d. LeadsOn c.walk-2.new.plan c.walk-2.new.rows.keys m insns events s d.place) c.walk-2.ensures.leads
    (λ d w. walk_on m insns events c.windows_go_on.ensures.times c.windows_go_on.ensures.slots c.requires.machine c.walk-2.new.plan c.walk-2.new.rows.keys s c.pass-end.result.1 d.place
    c.requires.state c.in_default.ensures.none (ap (λ r. r.1) c.pass-end.ensures.passed) l w)

pub returns-in-Some-get-clause-given : goal.returns-in-Some-get-clause-given
returns-in-Some-get-clause-given t c = adds_none c.args.rows.now.keys (row_of_state c.args.course.now.machine.now c.args.course.now.insns.now c.args.course.now.events.now c.args.state.now) c.args.state.now.decided

pub returns-in_err-hit-clause-given : goal.returns-in_err-hit-clause-given
returns-in_err-hit-clause-given t c =
    adds_decided c.args.course.now.machine.now c.args.course.now.insns.now c.args.course.now.events.now c.args.state.now c.in-Some.kind false c.in-Some.ensures.some c.args.rows.now.keys c.walk.new.rows.keys (rw c.decide.ensures at c.walk.ensures.given)

pub returns-in_err-miss-clause-given : goal.returns-in_err-miss-clause-given
returns-in_err-miss-clause-given t c =
    adds_twice c.args.rows.now.keys c.walk.new.rows.keys c.walk-in-Some.new.rows.keys (row_of_state c.args.course.now.machine.now c.args.course.now.insns.now c.args.course.now.events.now c.args.state.now) c.args.state.now.decided
    (adds_decided c.args.course.now.machine.now c.args.course.now.insns.now c.args.course.now.events.now c.args.state.now c.in-Some.kind false c.in-Some.ensures.some c.args.rows.now.keys c.walk.new.rows.keys (rw c.decide.ensures at c.walk.ensures.given))
    (adds_decided c.args.course.now.machine.now c.args.course.now.insns.now c.args.course.now.events.now c.args.state.now c.in-Some.kind true c.in-Some.ensures.some c.walk.new.rows.keys c.walk-in-Some.new.rows.keys (rw c.decide-in-Some.ensures at c.walk-in-Some.ensures.given))

pub returns-in_err-answer-clause-given : goal.returns-in_err-answer-clause-given
returns-in_err-answer-clause-given t c =
    adds_twice c.args.rows.now.keys c.walk.new.rows.keys c.walk-in-Some.new.rows.keys (row_of_state c.args.course.now.machine.now c.args.course.now.insns.now c.args.course.now.events.now c.args.state.now) c.args.state.now.decided
    (adds_decided c.args.course.now.machine.now c.args.course.now.insns.now c.args.course.now.events.now c.args.state.now c.in-Some.kind false c.in-Some.ensures.some c.args.rows.now.keys c.walk.new.rows.keys (rw c.decide.ensures at c.walk.ensures.given))
    (adds_decided c.args.course.now.machine.now c.args.course.now.insns.now c.args.course.now.events.now c.args.state.now c.in-Some.kind true c.in-Some.ensures.some c.walk.new.rows.keys c.walk-in-Some.new.rows.keys (rw c.decide-in-Some.ensures at c.walk-in-Some.ensures.given))

pub returns-in_err-insert-clause-given : goal.returns-in_err-insert-clause-given
returns-in_err-insert-clause-given t c =
    adds_twice c.args.rows.now.keys c.walk.new.rows.keys c.walk-in-Some.new.rows.keys (row_of_state c.args.course.now.machine.now c.args.course.now.insns.now c.args.course.now.events.now c.args.state.now) c.args.state.now.decided
    (adds_decided c.args.course.now.machine.now c.args.course.now.insns.now c.args.course.now.events.now c.args.state.now c.in-Some.kind false c.in-Some.ensures.some c.args.rows.now.keys c.walk.new.rows.keys (rw c.decide.ensures at c.walk.ensures.given))
    (adds_decided c.args.course.now.machine.now c.args.course.now.insns.now c.args.course.now.events.now c.args.state.now c.in-Some.kind true c.in-Some.ensures.some c.walk.new.rows.keys c.walk-in-Some.new.rows.keys (rw c.decide-in-Some.ensures at c.walk-in-Some.ensures.given))

pub returns-in-Some-clause-given : goal.returns-in-Some-clause-given
returns-in-Some-clause-given t c =
    adds_twice c.args.rows.now.keys c.walk.new.rows.keys c.walk-in-Some.new.rows.keys (row_of_state c.args.course.now.machine.now c.args.course.now.insns.now c.args.course.now.events.now c.args.state.now) c.args.state.now.decided
    (adds_decided c.args.course.now.machine.now c.args.course.now.insns.now c.args.course.now.events.now c.args.state.now c.in-Some.kind false c.in-Some.ensures.some c.args.rows.now.keys c.walk.new.rows.keys (rw c.decide.ensures at c.walk.ensures.given))
    (adds_decided c.args.course.now.machine.now c.args.course.now.insns.now c.args.course.now.events.now c.args.state.now c.in-Some.kind true c.in-Some.ensures.some c.walk.new.rows.keys c.walk-in-Some.new.rows.keys (rw c.decide-in-Some.ensures at c.walk-in-Some.ensures.given))

pub returns-then-next-course-clause-given : goal.returns-then-next-course-clause-given
returns-then-next-course-clause-given t c =
    let s = c.args.state.now in
    let is : s.at + 1 ≡ length c.args.course.now.insns.now = sym (ap (λ r. r.1.at) c.pass-end.ensures.passed) ∙ c.if-next-course.true in
    adds_last c.args.course.now.machine.now c.args.course.now.insns.now c.args.course.now.events.now s (record { number = c.pass-end.result.0; slots = c.pass-end.result.1.slots })
    c.requires.state c.in_default.ensures.none is (ap (λ r. record { number = r.0; slots = r.1.slots }) c.pass-end.ensures.passed)
    c.args.rows.now.keys c.arrive.new.rows.keys c.arrive.ensures.only

pub returns-clause-given : goal.returns-clause-given
returns-clause-given t c =
    let s = c.args.state.now in
    let at : c.pass-end.result.1.at ≡ s.at + 1 = ap (λ r. r.1.at) c.pass-end.ensures.passed in
    let within : s.at < length c.args.course.now.insns.now = c.requires.state.within in
    let l : s.at + 1 < length c.args.course.now.insns.now = omega (arith, c.if-next-course.false) in
    adds_passed c.args.course.now.machine.now c.args.course.now.insns.now c.args.course.now.events.now c.windows_go_on.ensures.times c.windows_go_on.ensures.slots c.requires.machine s c.pass-end.result.1
    c.requires.state c.in_default.ensures.none (ap (λ r. r.1) c.pass-end.ensures.passed) l c.args.rows.now.keys c.walk-2.new.rows.keys c.walk-2.ensures.given
