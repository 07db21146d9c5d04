use Rattle.graph_loops.proofs.EntranceLemmas.{single_keeps}
use Rattle.graph_loops.proofs.laws.single_edges_keep_membership.Goals as goal

pub returns : goal.returns
returns c = λ leads entry head a b h reached edge single apart. single_keeps leads entry head a b h reached edge single apart
