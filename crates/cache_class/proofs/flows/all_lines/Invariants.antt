use Rattle.cache_class.proofs.LineLemmas.{AllSoFar}
use Rattle.cache_class.proofs.flows.all_lines.Given as goal

abbrev pub invariant-loop-accesses : goal.invariant-loop-accesses
invariant-loop-accesses l = AllSoFar l.nodes l.accesses-index l.set.keys
