use Rattle.std.proofs.Common.{Bool, Decides, subst, sym}
use Rattle.cert_rules.specs.Rules.{HasShape}
use Rattle.cert_prices.proofs.ShapeLemmas.{shape_is}
use Rattle.cert_prices.proofs.shape.has_shape.Goals as goal

pub returns : goal.returns
returns c =
    let u = c.args.u.now in
    let cert = c.args.c.now in
    subst (λ (b : Bool). Decides b (HasShape u c.args.classes.now cert)) (sym c.are_right.ensures)
    (shape_is u c.args.classes.now cert c.as_slice-totals.result.now c.args.counts.now c.have_lengths.result c.in_ok-charges.charges c.are_ascending.result c.are_totals.result
    c.requires.counts c.as_slice-totals.ensures c.have_lengths.ensures c.in_ok-charges.ensures c.are_ascending.ensures c.are_totals.ensures)
