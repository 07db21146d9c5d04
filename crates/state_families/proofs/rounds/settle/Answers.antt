use Rattle.std.proofs.Common.{length}
use Rattle.state_families.specs.Families.{IsExitTo}
use Rattle.state_families.proofs.ExitLemmas.{exit_into}
use Rattle.state_families.proofs.LeavingLemmas.{keeps_self, keeps_twice}
use Rattle.state_families.proofs.SettlingLemmas.{all_settled}
use Rattle.state_families.proofs.rounds.settle.Goals as goal

pub rounds-init : goal.rounds-init
rounds-init c = record { reached = c.requires.reached; right = c.requires.right; kept = keeps_self c.args.table.now }

pub rounds-preserved : goal.rounds-preserved
rounds-preserved c = record {
  reached = c.in_ok-advance.ensures.reached;
  right = c.in_ok-advance.ensures.right;
  kept = keeps_twice c.args.table.now c.rounds.table c.advance.new.table c.rounds.invariant.kept c.advance.ensures.kept;
}

pub returns-clause-settled : goal.returns-clause-settled
returns-clause-settled c =
    let s = c.args.subject.now in
    let m = s.machine.now in
    let u = s.unfolded.now in
    all_settled (IsExitTo u m s.classes.now) m.states m.horizon (length u.nodes) u.start (exit_into u m s.classes.now c.requires.unfolded.unfolded) c.advance.new.sets c.advance.new.fresh.items
    c.in_ok-advance.ensures.reached (c.in_ok-advance.ensures.none c.if-branch.false)

pub returns-clause-kept : goal.returns-clause-kept
returns-clause-kept c = keeps_twice c.args.table.now c.rounds.table c.advance.new.table c.rounds.invariant.kept c.advance.ensures.kept

pub returns-in_err-advance-clause-kept : goal.returns-in_err-advance-clause-kept
returns-in_err-advance-clause-kept c = keeps_twice c.args.table.now c.rounds.table c.advance.new.table c.rounds.invariant.kept c.advance.ensures.kept
