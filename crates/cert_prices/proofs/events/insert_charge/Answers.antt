use Rattle.std.proofs.Common.{ℕ, Option, Some, ap, cond, ◌∙◌}
use Rattle.std.specs.Map.{lookup}
use Rattle.cert_prices.specs.Keys.{same_key}
use Rattle.cert_prices.proofs.events.insert_charge.Goals as goal

pub returns : goal.returns
returns c = λ key.
    c.in_ok-insert.ensures.updates.0 key
    ∙ ap (λ (o : Option ℕ). cond (same_key (c.args.charge.now.line, o) key) (Some c.args.charge.now.amount) (lookup (same_key key) c.args.table.now.entries)) c.number_of.ensures
