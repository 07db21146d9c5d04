use Rattle.std.proofs.Common.{take}
use Rattle.std.specs.Prelude.{slice_index}
use Rattle.flow_graph.specs.Outlines.{AreFunctionsOf}
use Rattle.flow_graph.proofs.function.functions.Given as goal

abbrev pub invariant-loop-outline : goal.invariant-loop-outline
invariant-loop-outline l = AreFunctionsOf l.inputs.image.now l.inputs.facts.now l.inputs.machine.now l.listing.addresses.items (take l.outline-index l.outlines) l.functions.items

abbrev pub ghost-function : goal.ghost-function
ghost-function a = record { image = a.inputs.now.image.now; facts = a.inputs.now.facts.now; entry = slice_index a.listing.now.addresses.items a.outline.now.entry }
