use Rattle.std.proofs.Common.{◌∙◌, ℕ, refl, ap, sym, length, min}
use Rattle.cache_ages.specs.Bounds.{beside}
use Rattle.cache_ages.proofs.States.{joined, written, min_same, same_beside}
use Rattle.cache_ages.proofs.may.May.join.Goals as goal

pub returns-clause-ages : goal.returns-clause-ages
returns-clause-ages c =
    let over = rw (← c.self.view_is, ← c.other.view_is) at c.requires in
    let other = c.other.invariant.each ∙ ap length over.lines in
    let count = c.lower.ensures.each ∙ ap length c.as_slice.ensures.value ∙ other in
    let is = written c.self.inside.ages c.lower.new.ages (count ∙ sym c.self.invariant.each) in
    rw (← c.self.view_is, ← c.other.view_is) (ap (beside 0 c.self.inside.lines.items) is
    ∙ joined 0 c.self.inside.lines.items min c.self.inside.ages.items c.other.inside.ages.items c.lower.new.ages (min_same 0)
    c.self.invariant.each other count
    (λ k lt. rw (c.as_slice.ensures.value, c.as_mut_slice.ensures.value) at c.lower.ensures.less k (rw other lt))
    ∙ ap (λ ages. λ line. min (beside 0 c.self.inside.lines.items c.self.inside.ages.items line) (ages line))
    (same_beside {X = ℕ} 0 0 c.self.inside.lines.items c.other.inside.lines.items c.other.inside.ages.items refl over.lines))
