use Rattle.xdd_ops.proofs.ApplyLemmas.{keeps_twice}
use Rattle.xdd_ops.proofs.given.rise.Goals as goal

pub returns-in_err-hit-clause-kept : goal.returns-in_err-hit-clause-kept
returns-in_err-hit-clause-kept c = keeps_twice c.args.table.now c.fix.new.table c.fix-2.new.table c.fix.ensures.kept c.fix-2.ensures.kept

pub returns-clause-kept : goal.returns-clause-kept
returns-clause-kept c = keeps_twice c.args.table.now c.fix.new.table c.fix-2.new.table c.fix.ensures.kept c.fix-2.ensures.kept
