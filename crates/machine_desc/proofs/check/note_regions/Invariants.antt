use Rattle.std.proofs.Common.{◌≡◌, ◌++◌, take}
use Rattle.toml.specs.View.{items_view}
use Rattle.machine_desc.specs.Document.{gathered_items, element_faults}
use Rattle.machine_desc.proofs.check.note_regions.Given as goal

abbrev pub invariant-loop-index : goal.invariant-loop-index
invariant-loop-index l = l.faults.items ≡ l.initial.faults.items ++ gathered_items element_faults 0 (items_view (take l.index l.regions))
