use Rattle.std.proofs.Common.{◌≡◌, map, take}
use Rattle.cache_class.specs.Accesses.{slots_of, lines_fetched}
use Rattle.cache_class.proofs.flows.accesses.Given as goal

abbrev pub invariant-loop-node : goal.invariant-loop-node
invariant-loop-node l = l.nodes.items ≡ map (λ node. lines_fetched (slots_of l.u.program node)) (take l.node l.u.nodes)
