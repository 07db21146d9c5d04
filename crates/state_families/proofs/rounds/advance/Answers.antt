use Rattle.std.proofs.Common.{length}
use Rattle.state_families.specs.Families.{IsExitTo}
use Rattle.state_families.proofs.ExitLemmas.{exit_into}
use Rattle.state_families.proofs.SettlingLemmas.{reached_next}
use Rattle.state_families.proofs.rounds.advance.Goals as goal

pub returns-clause-reached : goal.returns-clause-reached
returns-clause-reached c =
    let s = c.args.subject.now in
    let m = s.machine.now in
    let u = s.unfolded.now in
    reached_next (IsExitTo u m s.classes.now) m.states m.horizon (length u.nodes) u.start (exit_into u m s.classes.now c.requires.unfolded.unfolded) c.args.sets.now c.args.fresh.now.items
    c.requires.reached c.round.new.sets c.in_ok-new.new.items
    (rw c.as_slice.ensures.value at c.in_ok-new.ensures.grown)
