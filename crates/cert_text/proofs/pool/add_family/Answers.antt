use Rattle.std.proofs.Common.{refl, map, ◌∙◌, ap}
use Rattle.cert_text.specs.Pool.{is_listed}
use Rattle.cert_text.proofs.PoolLemmas.{vector_added}
use Rattle.cert_text.proofs.KeyLemmas.{listed_put}
use Rattle.cert_text.proofs.pool.add_family.Goals as goal

pub loop-vector-preserved : goal.loop-vector-preserved
loop-vector-preserved c slots =
    vector_added c.args.family.now c.loop-vector.vector-index _ _ slots _ _ _ c.loop-vector-test.true refl (c.loop-vector.invariant slots)
    (ap (λ keys. is_listed slots (map (λ v. v.now) keys)) c.in_ok-insert.ensures.keys ∙ listed_put (λ v. v.now) slots c.loop-vector.set.keys _)
