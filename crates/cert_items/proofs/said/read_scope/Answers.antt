use Rattle.std.proofs.Common.{Some, sym, ap, ◌∙◌}
use Rattle.cert_items.proofs.PairLemmas.{scope_run}
use Rattle.cert_items.proofs.said.read_scope.Goals as goal

pub returns-then-is-clause-complete : goal.returns-then-is-clause-complete
returns-then-is-clause-complete c = λ s fits e. ap Some (sym (scope_run s fits (sym c.as_slice.ensures ∙ sym (c.is.ensures.0 c.if-is.true) ∙ e)))
