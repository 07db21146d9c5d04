use Rattle.std.proofs.Common.{◌∙◌, ap, length}
use Rattle.cache_pers.specs.Rows.{rows_of}
use Rattle.cache_pers.proofs.States.{nothing_known, younger_at, written}
use Rattle.cache_pers.proofs.younger.Younger.enter.Goals as goal

pub returns-clause-younger : goal.returns-clause-younger
returns-clause-younger c =
    let lines = c.self.inside.lines.items in
    let known_is = written c.self.inside.known c.clear.new.entries (c.clear.auto.entries ∙ ap length c.as_mut_slice.ensures.value) in
    let held_is = written c.self.inside.held c.clear_each.new.rows (c.clear_each.auto.rows ∙ ap length c.as_mut_slice-2.ensures.value) in
    (λ i. younger_at lines (known_is i) (rows_of (held_is i))) ∙ nothing_known lines c.clear.new.entries (rows_of c.clear_each.new.rows) c.clear.ensures c.clear_each.ensures.each
