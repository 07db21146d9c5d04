use Rattle.xdd_ops.proofs.GreatestLemmas.{greatest_bound, greatest_attained}
use Rattle.xdd_ops.proofs.leaves.greatest.Goals as goal

pub returns-clause-bound : goal.returns-clause-bound
returns-clause-bound c =
    greatest_bound c.args.table.now c.args.d.place c.greatest_leaf.result c.places.result.now c.greatest_leaf.ensures.bound (λ f. rw c.places.ensures (c.in_ok-order.ensures.leaves f))

pub returns-clause-attained : goal.returns-clause-attained
returns-clause-attained c =
    greatest_attained c.args.table.now c.args.d.place c.greatest_leaf.result c.places.result.now c.greatest_leaf.ensures.bound (λ f. rw c.places.ensures (c.in_ok-order.ensures.leaves f))
    (rw c.places.ensures c.in_ok-order.ensures.led) c.greatest_leaf.ensures.attained
