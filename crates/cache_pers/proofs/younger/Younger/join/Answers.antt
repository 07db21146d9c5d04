use Rattle.std.proofs.Common.{◌∙◌, ap, sym, length}
use Rattle.wx_base.specs.CacheStates.{younger_joined}
use Rattle.cache_pers.specs.Rows.{rows_of}
use Rattle.cache_pers.proofs.RowLemmas.{count_of}
use Rattle.cache_pers.proofs.States.{joined_is, younger_at, written}
use Rattle.cache_pers.proofs.younger.Younger.join.Goals as goal

pub returns-clause-younger : goal.returns-clause-younger
returns-clause-younger c =
    let over = rw (← c.self.view_is, ← c.other.view_is) at c.requires in
    let lines = c.self.inside.lines.items in
    let held = c.self.inside.held.items in
    let other = c.other.inside.held.items in
    let count = sym (count_of other) ∙ c.other.invariant.held ∙ ap length over.lines in
    let united = rw (c.as_mut_slice-2.ensures.value, c.as_slice-2.ensures.value, count) at c.unite_each.ensures in
    let known = rw (c.as_mut_slice.ensures.value, c.as_slice.ensures.value) at c.unite.ensures in
    let known_count = c.unite.auto.entries ∙ ap length c.as_mut_slice.ensures.value in
    let known_is = written c.self.inside.known c.unite.new.entries known_count in
    let held_is = written c.self.inside.held c.unite_each.new.rows (united.rows ∙ sym (sym (count_of held) ∙ c.self.invariant.held)) in
    rw (← c.self.view_is, ← c.other.view_is) ((λ i. younger_at lines (known_is i) (rows_of (held_is i)))
    ∙ joined_is lines c.self.inside.known.items c.other.inside.known.items c.unite.new.entries (rows_of held) (rows_of other) (rows_of c.unite_each.new.rows)
    c.self.invariant.known (c.other.invariant.known ∙ ap length over.lines) (known_count ∙ c.self.invariant.known)
    c.self.invariant.held (c.other.invariant.held ∙ ap length over.lines) (count_of c.unite_each.new.rows ∙ united.rows)
    c.self.invariant.each (rw over.lines at c.other.invariant.each) united.square known united.each
    ∙ (λ i. younger_joined (younger_at lines c.self.inside.known.items (rows_of held)) (younger_at (sym over.lines i) c.other.inside.known.items (rows_of other))))
