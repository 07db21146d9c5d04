use Rattle.cache_class.proofs.LineLemmas.{LinesSoFar}
use Rattle.cache_class.proofs.flows.add_lines.Given as goal

abbrev pub invariant-loop-line : goal.invariant-loop-line
invariant-loop-line l = LinesSoFar l.lines l.line-index l.initial.set.keys l.set.keys
