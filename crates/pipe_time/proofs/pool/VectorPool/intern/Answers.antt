use Rattle.pipe_time.proofs.PoolLemmas.{stands, vector_eq}
use Rattle.pipe_time.proofs.pool.VectorPool.intern.Goals as goal

pub returns-clause-place : goal.returns-clause-place
unfolding vector_eq
returns-clause-place c = let e = c.in_ok-place.ensures in rw (← c.self.view_is)
    (stands c.self.inside.vectors.keys c.insert_full.new.self.keys c.args.v.now e.stored.0 c.in_ok-place.place e.keys e.stored.1 e.stored.2 e.within)
