use Rattle.cache_kept.specs.Roots.{AreRoots}
use Rattle.cache_kept.proofs.known.roots_of.Given as goal

abbrev pub invariant-loop-node : goal.invariant-loop-node
invariant-loop-node l = AreRoots l.flow l.stretch.members.now l.line l.node l.roots.items
