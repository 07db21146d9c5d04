use Rattle.pipe_block.proofs.Gathers.{cofactor_hit, cofactor_miss}
use Rattle.pipe_block.proofs.gather.cofactor.Goals as goal

pub returns-then-misses : goal.returns-then-misses
returns-then-misses c = rw (← c.if-root-event.true, c.if-misses.true)
    (cofactor_miss c.args.table.now c.in-Branch.root c.args.d c.in-Branch.hit c.in-Branch.miss c.in-Branch.ensures.value c.in-Branch.ensures.shape c.requires.within c.in-Branch.ensures.times)

pub returns-else-misses : goal.returns-else-misses
returns-else-misses c = rw (← c.if-root-event.true, c.if-misses.false)
    (cofactor_hit c.args.table.now c.in-Branch.root c.args.d c.in-Branch.hit c.in-Branch.miss c.in-Branch.ensures.value c.in-Branch.ensures.shape c.requires.within c.in-Branch.ensures.times)
