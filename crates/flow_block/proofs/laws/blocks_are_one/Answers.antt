use Rattle.flow_block.proofs.BlocksOne.{blocks_one}
use Rattle.flow_block.proofs.laws.blocks_are_one.Goals as goal

pub returns : goal.returns
returns c = blocks_one
