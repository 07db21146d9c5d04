use Rattle.xdd_ops.proofs.PairLemmas.{one_position, both_equal}
use Rattle.xdd_ops.proofs.pairs.Pairs.len.Goals as goal

pub returns-clause-once : goal.returns-clause-once
returns-clause-once c = rw (← c.self.view_is) (one_position _ (λ x. both_equal x.0 x.1) c.self.inside.pairs.keys c.len.ensures.unique)
