use Rattle.std.proofs.Common.{◌≡◌, take}
use Rattle.state_families.specs.Families.{joined_from}
use Rattle.state_families.proofs.answer.joined_nodes.Given as goal

abbrev pub invariant-loop-node : goal.invariant-loop-node
invariant-loop-node l = l.joined.items ≡ joined_from 0 (take l.node l.sets)
