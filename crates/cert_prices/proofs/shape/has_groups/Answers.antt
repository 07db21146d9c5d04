use Rattle.cert_prices.proofs.ShapeLemmas.{told_groups}
use Rattle.cert_prices.proofs.shape.has_groups.Goals as goal

pub returns : goal.returns
returns c =
    let u = c.args.u.now in
    let classes = c.args.classes.now in
    let groups = c.in_ok-groups.groups in
    told_groups u classes c.args.c.now.charges c.as_slice-charges.result.now c.as_slice.result.now groups c.are_charges_of.result c.in_ok-groups.ensures
    (λ others are. c.groups_are_one.ensures u classes groups others c.in_ok-groups.ensures are) c.as_slice-charges.ensures c.as_slice.ensures c.are_charges_of.ensures
