use Rattle.std.proofs.Common.{◌∙◌, ap, sym, length, subst, List, ℕ}
use Rattle.std.specs.Bool.{Decides}
use Rattle.wx_base.specs.CacheStates.{YoungerCovers}
use Rattle.cache_pers.specs.Rows.{rows_of}
use Rattle.cache_pers.proofs.RowLemmas.{count_of}
use Rattle.cache_pers.proofs.States.{covered_decided, younger_at}
use Rattle.cache_pers.proofs.younger.Younger.leq.Goals as goal

pub returns : goal.returns
returns c =
    let over = rw (← c.self.view_is, ← c.other.view_is) at c.requires in
    let lines = c.self.inside.lines.items in
    let held = c.self.inside.held.items in
    let other = c.other.inside.held.items in
    let count = sym (count_of held) ∙ c.self.invariant.held in
    let decides = rw (c.as_slice.ensures.value, c.as_slice-2.ensures.value, c.as_slice-3.ensures.value, c.as_slice-4.ensures.value) at c.are_covered.ensures in
    let other_known = c.other.invariant.known ∙ ap length over.lines in
    let other_held = c.other.invariant.held ∙ ap length over.lines in
    let other_each = rw over.lines at c.other.invariant.each in
    let P : List ℕ → Type 0 = λ its. Decides c.are_covered.result (YoungerCovers (younger_at its c.other.inside.known.items (rows_of other)) (younger_at lines c.self.inside.known.items (rows_of held))) in
    rw (← c.self.view_is, ← c.other.view_is) (subst P (sym over.lines)
    (covered_decided lines c.self.inside.known.items c.other.inside.known.items c.other.inside.known.items (rows_of held) (rows_of other) (rows_of other)
    c.self.invariant.known other_known other_known c.self.invariant.held other_held other_held c.self.invariant.each other_each other_each
    c.are_covered.result (length held) count c.self.invariant.ascending decides))
