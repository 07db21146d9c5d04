use Rattle.std.proofs.Common.{take}
use Rattle.cache_class.specs.Chains.{IsPushed}
use Rattle.cache_class.proofs.chains.push_to_each.Given as goal

abbrev pub invariant-loop-node : goal.invariant-loop-node
invariant-loop-node l = IsPushed (take l.node-index l.nodes) l.number l.initial.chains l.chains
