use Rattle.flow_block.proofs.Entered.{LeadersTo}
use Rattle.flow_block.proofs.leaders.leaders.Given as goal

abbrev pub invariant-loop-place : goal.invariant-loop-place
invariant-loop-place g l = LeadersTo g.of l.code.addresses.now l.body l.marks.items l.place
