use Rattle.flow_graph.proofs.ProgramOne.{program_one}
use Rattle.flow_graph.proofs.laws.program_is_one.Goals as goal

pub returns : goal.returns
returns c = program_one c.blocks_are_one.ensures
