use Rattle.state_families.proofs.GrowthLemmas.{add_next}
use Rattle.state_families.proofs.growth.add_all.Goals as goal

pub loop-slots-preserved : goal.loop-slots-preserved
loop-slots-preserved c =
    add_next c.args.vectors.now c.loop-slots.set.keys c.insert.new.self.keys c.loop-slots.slots-index _ c.loop-slots-test.true c.requires.ascending c.loop-slots.invariant
    c.in_ok-insert.ensures.keys
