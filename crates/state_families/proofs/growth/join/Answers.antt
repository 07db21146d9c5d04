use Rattle.std.proofs.Common.{◌∙◌}
use Rattle.state_families.proofs.GrowthLemmas.{joins_here}
use Rattle.state_families.proofs.growth.join.Goals as goal

pub returns : goal.returns
returns c =
    joins_here c.args.states c.args.vectors.items c.as_slice-all.result.now _ c.greatest-slots.result c.in_ok-one.one c.new.result c.in_ok-fresh.fresh c.requires.many
    c.as_slice-all.ensures.value c.greatest-slots.ensures c.in_ok-one.ensures (c.new.ensures ∙ c.truncate.ensures.items) c.in_ok-fresh.ensures
