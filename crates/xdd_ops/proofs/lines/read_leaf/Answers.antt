use Rattle.std.proofs.Common.{[], ◌∷◌, codes, refl, ◌∙◌, append_assoc, ap, Some}
use Rattle.std.specs.Fmt.{decimal}
use Rattle.xdd_table.specs.declared.node.Node.TheVariants.{Leaf}
use Rattle.xdd_ops.proofs.NumberLemmas.{expected_again, some_same}
use Rattle.xdd_ops.proofs.lines.read_leaf.Goals as goal

pub returns-clause-again : goal.returns-clause-again
returns-clause-again c = λ t tail small text.
    let k = c.in_ok-time.ensures.again t (10 ∷ tail) small refl (text ∙ append_assoc (decimal t) (10 ∷ []) tail) in
    let x = expected_again c.read_number.new.cursor c.expect.new.self c.expect.result (codes "\n") tail c.expect.ensures.found c.expect.ensures.after k.1 in
    let s = some_same c.in_ok-time.time t k.0 in
    (ap (λ n. Some (Leaf n)) s, x.1)
