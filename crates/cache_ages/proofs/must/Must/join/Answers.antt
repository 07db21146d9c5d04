use Rattle.std.proofs.Common.{◌∙◌, ap, sym, length, max}
use Rattle.cache_ages.specs.Bounds.{beside}
use Rattle.cache_ages.proofs.States.{joined, written, max_same, same_beside}
use Rattle.cache_ages.proofs.must.Must.join.Goals as goal

pub returns-clause-ages : goal.returns-clause-ages
returns-clause-ages c =
    let over = rw (← c.self.view_is, ← c.other.view_is) at c.requires in
    let other = c.other.invariant.each ∙ ap length over.lines in
    let count = c.raise.ensures.each ∙ ap length c.as_slice.ensures.value ∙ other in
    let is = written c.self.inside.ages c.raise.new.ages (count ∙ sym c.self.invariant.each) in
    rw (← c.self.view_is, ← c.other.view_is) (ap (beside c.self.inside.shape.ways c.self.inside.lines.items) is
    ∙ joined c.self.inside.shape.ways c.self.inside.lines.items max c.self.inside.ages.items c.other.inside.ages.items c.raise.new.ages (max_same c.self.inside.shape.ways)
    c.self.invariant.each other count
    (λ k lt. rw (c.as_slice.ensures.value, c.as_mut_slice.ensures.value) at c.raise.ensures.greater k (rw other lt))
    ∙ ap (λ ages. λ line. max (beside c.self.inside.shape.ways c.self.inside.lines.items c.self.inside.ages.items line) (ages line))
    (same_beside c.self.inside.shape.ways c.other.inside.shape.ways c.self.inside.lines.items c.other.inside.lines.items c.other.inside.ages.items (ap (λ s. s.ways) over.shape) over.lines))
