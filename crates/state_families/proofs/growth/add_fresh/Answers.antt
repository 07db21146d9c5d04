use Rattle.std.proofs.Common.{refl}
use Rattle.state_families.proofs.GrowthLemmas.{added_else, added_then}
use Rattle.state_families.proofs.growth.add_fresh.Goals as goal
use Rattle.state_families.proofs.growth.add_fresh.Goals.{then-branch+in_ok-push, else-branch}

pub loop-slots-preserved : goal.loop-slots-preserved
loop-slots-preserved c =
    let e = c.in_ok-insert.ensures in
    elim c.if-branch.branch [
      | then-branch+in_ok-push w ↦
          added_then c.args.set.now.keys c.args.arrivals.now c.loop-slots.set c.insert.new.self c.loop-slots.fresh.items c.loop-slots.slots-index _ c.loop-slots-test.true
          e.updates c.loop-slots.invariant c.in_ok-insert.field-0 e.added e.len c.if-branch.fresh.items w.if-branch.true (rw w.fresh-is w.in_ok-push.ensures.items)
      | else-branch w ↦
          added_else c.args.set.now.keys c.args.arrivals.now c.loop-slots.set c.insert.new.self c.loop-slots.fresh.items c.loop-slots.slots-index _ c.loop-slots-test.true
          e.updates c.loop-slots.invariant c.in_ok-insert.field-0 e.added e.len c.if-branch.fresh.items w.if-branch.false (rw w.fresh-is refl)
    ]
