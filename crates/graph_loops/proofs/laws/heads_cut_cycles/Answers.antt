use Rattle.graph_loops.proofs.HeadLemmas.{cut}
use Rattle.graph_loops.proofs.laws.heads_cut_cycles.Goals as goal

pub returns : goal.returns
returns c = cut
