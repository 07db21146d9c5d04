use Rattle.flow_ctx.proofs.FoundLemmas.{grown_next}
use Rattle.flow_ctx.proofs.PlaceLemmas.{place_eq, place_tells}
use Rattle.flow_ctx.proofs.explore.add.Goals as goal

pub loop-target-preserved : goal.loop-target-preserved
loop-target-preserved c =
    grown_next place_eq place_tells c.args.targets.items c.loop-target.targets.items c.pop.new.self.items c.in-Some.target
    c.args.places.now.keys c.loop-target.places.keys c.insert.new.self.keys c.loop-target.invariant c.in-Some.ensures.items c.in_ok-insert.ensures.keys
