use Rattle.std.proofs.Common.{arith}
use Rattle.machine_desc.proofs.Gathered.{grown}
use Rattle.machine_desc.specs.Document.{element_faults}
use Rattle.machine_desc.proofs.check.note_regions.Goals as goal

pub loop-index-preserved : goal.loop-index-preserved
loop-index-preserved c =
    grown element_faults c.args.regions.now c.loop-index.index c.index-regions-index.result _ _ _ (omega arith) c.index-regions-index.is c.loop-index.invariant c.in_ok-note_region.ensures
