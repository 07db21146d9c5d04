use Rattle.std.proofs.Common.{ℕ, List, ◌↔◌, arith}
use Rattle.std.specs.List.{Contains}
use Rattle.std.proofs.lemmas.Result.{IfOk-weaker}
use Rattle.state_families.specs.Families.{IsExitOf}
use Rattle.state_families.specs.Leaving.{IsAllowedExit}
use Rattle.state_families.proofs.LeavingLemmas.{block_of, both, exits_are, keeps_twice, kinds_few, place_within, positions_within}
use Rattle.state_families.proofs.leaving.exits_from.Goals as goal

pub classes_at-requires : goal.classes_at-requires
classes_at-requires c = omega (arith, c.requires.classes.long, c.requires.node)

pub allowed_exits-requires-clause-within : goal.allowed_exits-requires-clause-within
allowed_exits-requires-clause-within c =
    let s = c.args.subject.now in
    let u = s.unfolded.now in
    let has = c.nodes_have_blocks.ensures u.program u c.args.edge.from c.requires.unfolded.unfolded c.requires.node in
    place_within c.leave_along.new.table c.leave_along.new.work.memo.leavings u s.machine.now c.args.edge c.args.source.now c.in_ok-number.number c.leaving-leaving.result.now
    c.in_ok-number.ensures.left c.leaving-leaving.ensures has

pub allowed_exits-requires-clause-positions : goal.allowed_exits-requires-clause-positions
allowed_exits-requires-clause-positions c =
    let s = c.args.subject.now in
    let u = s.unfolded.now in
    let has = c.nodes_have_blocks.ensures u.program u c.args.edge.from c.requires.unfolded.unfolded c.requires.node in
    positions_within c.leave_along.new.table c.leave_along.new.work.memo.leavings u s.machine.now c.args.edge c.args.source.now c.in_ok-number.number c.leaving-leaving.result.now
    c.in_ok-number.ensures.left c.leaving-leaving.ensures has

pub allowed_exits-requires-clause-few : goal.allowed_exits-requires-clause-few
allowed_exits-requires-clause-few c =
    let s = c.args.subject.now in
    let u = s.unfolded.now in
    let from = c.args.edge.from in
    let has = c.nodes_have_blocks.ensures u.program u from c.requires.unfolded.unfolded c.requires.node in
    let is = block_of u from has in
    kinds_few u s.machine.now s.classes.now from has.block c.classes_at.result.now c.requires.classes is c.classes_at.ensures
    (c.blocks_are_timed.ensures.nodes s.machine.now u from has.block c.requires.unfolded is).few

pub returns-clause-exits : goal.returns-clause-exits
returns-clause-exits c =
    let s = c.args.subject.now in
    let u = s.unfolded.now in
    let edge = c.args.edge in
    let nodes = c.leave_along.new.table in
    let kinds = c.classes_at.result.now in
    let l = c.leaving-leaving.result.now in
    let has = c.nodes_have_blocks.ensures u.program u edge.from c.requires.unfolded.unfolded c.requires.node in
    IfOk-weaker c.allowed_exits.result (λ list. (slots : List ℕ) → Contains list.items slots ↔ IsAllowedExit nodes kinds l slots)
    (λ list. (slots : List ℕ) → Contains list.items slots ↔ IsExitOf u s.machine.now s.classes.now edge c.args.source.now slots)
    (λ list told slots. both (told slots)
    (exits_are nodes c.leave_along.new.work.memo.leavings u s.machine.now edge c.args.source.now c.in_ok-number.number l c.in_ok-number.ensures.left c.leaving-leaving.ensures has
    s.classes.now kinds c.classes_at.ensures slots))
    c.allowed_exits.ensures.exits

pub returns-clause-right : goal.returns-clause-right
returns-clause-right c =
    let s = c.args.subject.now in
    let pool = c.leave_along.new.work.pool in
    c.kept_answers_stay.ensures.right c.leave_along.new.table c.allowed_exits.new.table pool pool s.machine.now s.unfolded.now c.leave_along.new.work.memo c.allowed_exits.ensures.kept
    (record { kept = λ place v at. at }) c.leave_along.ensures.right

pub returns-clause-kept : goal.returns-clause-kept
returns-clause-kept c = keeps_twice c.args.table.now c.leave_along.new.table c.allowed_exits.new.table c.leave_along.ensures.kept c.allowed_exits.ensures.kept
