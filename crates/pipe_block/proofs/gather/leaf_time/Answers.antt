use Rattle.pipe_block.proofs.Gathers.{no_branch}
use Rattle.pipe_block.proofs.gather.leaf_time.Goals as goal

pub unreachable-requires : goal.unreachable-requires
unreachable-requires c = no_branch c.args.table.now c.args.d c.in-Branch.event c.in-Branch.hit c.in-Branch.miss c.in-Branch.ensures.value c.requires.diagram.events c.requires.from
