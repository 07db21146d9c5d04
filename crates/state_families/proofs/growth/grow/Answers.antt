use Rattle.std.proofs.Common.{◌∙◌, refl, sym}
use Rattle.state_families.proofs.GrowthLemmas.{none_of, nothing_comes}
use Rattle.state_families.proofs.growth.grow.Goals as goal

pub returns-then-is_empty : goal.returns-then-is_empty
returns-then-is_empty c =
    let m = c.args.m.now in
    nothing_comes m.states m.horizon c.args.set.now c.args.arrivals.now c.requires.sound c.new-then-is_empty.result
    (none_of _ c.args.arrivals.now refl (sym c.is_empty.ensures ∙ c.if-is_empty.true)) (c.new-then-is_empty.ensures ∙ c.new.ensures.items)
