use Rattle.pipe_time.proofs.PoolLemmas.{one_place, vector_eq, vector_eq_refl}
use Rattle.pipe_time.proofs.pool.VectorPool.len.Goals as goal

pub returns-clause-once : goal.returns-clause-once
unfolding vector_eq
returns-clause-once c = rw (← c.self.view_is) (one_place _ vector_eq_refl c.self.inside.vectors.keys c.len.ensures.unique)
