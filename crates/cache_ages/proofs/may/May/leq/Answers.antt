use Rattle.std.proofs.Common.{◌∙◌, ap, length}
use Rattle.cache_ages.proofs.States.{may_decided}
use Rattle.cache_ages.proofs.may.May.leq.Goals as goal

pub returns : goal.returns
returns c =
    let over = rw (← c.self.view_is, ← c.other.view_is) at c.requires in
    let other = c.other.invariant.each ∙ ap length over.lines in
    rw (← c.self.view_is, ← c.other.view_is)
    (may_decided c.self.inside.lines.items c.other.inside.lines.items c.self.inside.ages.items c.other.inside.ages.items
    c.are_below.result c.self.invariant.ascending c.self.invariant.each c.other.invariant.each over.lines
    (rw (c.as_slice.ensures.value, c.as_slice-2.ensures.value) at c.are_below.ensures))
