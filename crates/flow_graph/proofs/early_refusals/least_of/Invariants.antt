use Rattle.std.proofs.Common.{take}
use Rattle.flow_graph.specs.Reached.{IsLeastWith}
use Rattle.flow_graph.proofs.early_refusals.least_of.Given as goal

abbrev pub invariant-loop-address : goal.invariant-loop-address
invariant-loop-address l = IsLeastWith l.image (take l.address-index l.addresses) l.initial.least l.least
