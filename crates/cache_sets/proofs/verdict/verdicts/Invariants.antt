use Rattle.cache_sets.proofs.VerdictLemmas.{NodesToldSoFar}
use Rattle.cache_sets.proofs.verdict.verdicts.Given as goal

abbrev pub invariant-loop-node : goal.invariant-loop-node
invariant-loop-node l = NodesToldSoFar l.flow l.must.items l.may.items l.node l.verdicts.items
