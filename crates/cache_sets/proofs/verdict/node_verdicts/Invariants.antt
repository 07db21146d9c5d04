use Rattle.cache_sets.proofs.VerdictLemmas.{ToldSoFar}
use Rattle.cache_sets.proofs.verdict.node_verdicts.Given as goal

abbrev pub invariant-loop-place : goal.invariant-loop-place
invariant-loop-place l = ToldSoFar l.must l.may l.accesses l.place l.verdicts.items
