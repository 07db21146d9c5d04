use Rattle.std.proofs.Common.{Bool, subst, sym}
use Rattle.std.specs.Prelude.{Decides}
use Rattle.cert_rules.specs.Rules.{HasStart}
use Rattle.cert_prices.proofs.StartLemmas.{told_start}
use Rattle.cert_prices.proofs.bound.has_start.Goals as goal

pub returns : goal.returns
returns c =
    let u = c.args.u.now in
    let cert = c.args.c.now in
    subst (λ (b : Bool). Decides b (HasStart u cert)) (sym c.is_some.ensures) (told_start u cert c.first_vector.result c.first_vector.ensures)
