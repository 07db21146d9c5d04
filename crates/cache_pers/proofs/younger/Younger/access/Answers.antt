use Rattle.std.proofs.Common.{◌∙◌, ap, sym, length}
use Rattle.cache_pers.specs.Rows.{rows_of}
use Rattle.cache_pers.proofs.RowLemmas.{count_of}
use Rattle.cache_pers.proofs.States.{accessed_is, younger_at, written}
use Rattle.cache_pers.proofs.younger.Younger.access.Goals as goal

pub returns-in-Some-clause-younger : goal.returns-in-Some-clause-younger
returns-in-Some-clause-younger c =
    let found = rw c.as_slice.ensures.value at c.in-Some.ensures in
    let notes = rw (c.as_slice-in-Some.ensures.value, c.as_slice-in-Some-2.ensures.value, c.as_mut_slice.ensures.value) at c.note_each.ensures in
    let marks = rw c.as_mut_slice-in-Some.ensures.value at c.mark.ensures in
    let lines = c.self.inside.lines.items in
    let held = c.self.inside.held.items in
    let known_count = c.mark.auto.known ∙ ap length c.as_mut_slice-in-Some.ensures.value in
    let known_is = written c.self.inside.known c.mark.new.known known_count in
    let held_is = written c.self.inside.held c.note_each.new.rows (notes.rows ∙ sym (sym (count_of held) ∙ c.self.invariant.held)) in
    rw (← c.self.view_is) ((λ i. younger_at lines (known_is i) (rows_of (held_is i)))
    ∙ accessed_is c.self.inside.shape lines c.self.inside.known.items c.mark.new.known (rows_of held) (rows_of c.note_each.new.rows) c.args.line c.in-Some.at
    c.self.invariant.ascending found.0 found.1 c.self.invariant.known (known_count ∙ c.self.invariant.known) c.self.invariant.held (count_of c.note_each.new.rows ∙ notes.rows)
    c.self.invariant.each notes.square marks notes.each)
