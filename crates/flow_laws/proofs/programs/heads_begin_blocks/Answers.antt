use Rattle.flow_laws.proofs.HeadLemmas.{heads_begin_blocks}
use Rattle.flow_laws.proofs.programs.heads_begin_blocks.Goals as goal

pub returns : goal.returns
returns c = heads_begin_blocks c.heads_are_entries.ensures.outside
