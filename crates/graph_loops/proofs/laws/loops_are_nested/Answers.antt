use Rattle.graph_loops.proofs.EntranceLemmas.{nested}
use Rattle.graph_loops.proofs.laws.loops_are_nested.Goals as goal

pub returns : goal.returns
returns c = nested
