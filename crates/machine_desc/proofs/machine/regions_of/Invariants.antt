use Rattle.std.proofs.Common.{◌≡◌, take}
use Rattle.toml.specs.View.{items_view}
use Rattle.machine_desc.specs.Values.{regions_of}
use Rattle.machine_desc.proofs.machine.regions_of.Given as goal

abbrev pub invariant-loop-element : goal.invariant-loop-element
invariant-loop-element l = l.regions.items ≡ regions_of (items_view (take l.element-index l.elements))
