use Rattle.cache_kept.proofs.NewerLemmas.{none_behind, one_less, start_here, start_first}
use Rattle.cache_kept.proofs.newer.start_of.Goals as goal

pub loop-i-init : goal.loop-i-init
loop-i-init c = none_behind c.args.accesses.now c.args.line

pub loop-i-preserved : goal.loop-i-preserved
loop-i-preserved c = one_less c.args.accesses.now c.args.line c.loop-i.i c.loop-i-test.true c.if-accesses-left.false c.loop-i.invariant

pub returns-then-accesses-left-clause-is : goal.returns-then-accesses-left-clause-is
returns-then-accesses-left-clause-is c = start_here c.args.accesses.now c.args.line c.loop-i.i c.loop-i-test.true c.if-accesses-left.true c.loop-i.invariant

pub returns-clause-is : goal.returns-clause-is
returns-clause-is c = start_first c.args.accesses.now c.args.line c.loop-i.i c.loop-i-test.false c.loop-i.invariant
