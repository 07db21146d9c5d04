use Rattle.std.proofs.Common.{take}
use Rattle.flow_graph.specs.Reached.{IsGrownBy}
use Rattle.flow_graph.proofs.explore.add_code.Given as goal

abbrev pub invariant-loop-address : goal.invariant-loop-address
invariant-loop-address l = IsGrownBy l.image (take l.address-index l.addresses) l.initial.reached.keys l.reached.keys
