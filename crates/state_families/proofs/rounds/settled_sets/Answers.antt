use Rattle.std.proofs.Common.{length}
use Rattle.state_families.specs.Families.{IsExitTo}
use Rattle.state_families.proofs.FirstLemmas.{reached_first}
use Rattle.state_families.proofs.rounds.settled_sets.Goals as goal

pub settle-requires-clause-reached : goal.settle-requires-clause-reached
settle-requires-clause-reached c =
    let s = c.args.subject.now in
    let m = s.machine.now in
    let u = s.unfolded.now in
    rw c.as_mut_slice.ensures.value
    (reached_first (IsExitTo u m s.classes.now) m.states m.horizon (length u.nodes) u.start _ _ c.requires.machine.states.0 c.in_ok-sets.ensures c.in_ok-fresh.ensures)

pub settle-requires-clause-right : goal.settle-requires-clause-right
settle-requires-clause-right c =
    let s = c.args.subject.now in
    rw c.new-work.ensures.memo (c.kept_answers_stay.ensures.none c.args.table.now c.new-work.result.pool s.machine.now s.unfolded.now)
