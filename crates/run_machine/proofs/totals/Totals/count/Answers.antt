use Rattle.std.proofs.Common.{ℕ, ◌+◌, ap}
use Rattle.run_machine.specs.Judging.{totals_of}
use Rattle.run_machine.proofs.TotalCounts.{counted_more}
use Rattle.run_machine.proofs.totals.Totals.count.Goals as goal

pub returns-in-Some-clause-counted : goal.returns-in-Some-clause-counted
returns-in-Some-clause-counted c =
    counted_more c.args.self.now.counts.entries c.insert.new.self.entries c.args.head (c.get-total.result + 1) (totals_of c.args.self.now c.args.head + 1) c.in_ok-insert.ensures.updates.0 (ap (λ (n : ℕ). n + 1) c.get-total.ensures)

pub returns-in-None-clause-counted : goal.returns-in-None-clause-counted
returns-in-None-clause-counted c =
    counted_more c.args.self.now.counts.entries c.insert.new.self.entries c.args.head (c.get-total.result + 1) (totals_of c.args.self.now c.args.head + 1) c.in_ok-insert.ensures.updates.0 (ap (λ (n : ℕ). n + 1) c.get-total.ensures)
