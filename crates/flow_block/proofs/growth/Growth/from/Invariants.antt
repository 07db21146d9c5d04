use Rattle.flow_block.specs.Growth.{IsGrowing}
use Rattle.flow_block.proofs.growth.Growth.from.Given as goal

abbrev pub ghost-step : goal.ghost-step
ghost-step g a = g.of

abbrev pub invariant-loop-at : goal.invariant-loop-at
invariant-loop-at g l = IsGrowing g.of l.machine l.start l.at l.growth.insns.items l.growth.events.items
