use Rattle.pipe_block.proofs.Gathers.{first_of_branch}
use Rattle.pipe_block.proofs.gather.root_event.Goals as goal

pub returns-in-Branch-clause-first : goal.returns-in-Branch-clause-first
returns-in-Branch-clause-first c = first_of_branch c.args.table.now c.in-Branch.event c.in-Branch.hit c.in-Branch.miss c.args.d c.in-Branch.ensures.value
