use Rattle.cache_kept.proofs.WaysLemmas.{SourcesSoFar}
use Rattle.cache_kept.proofs.ways.sources_of.Given as goal

abbrev pub invariant-loop-step : goal.invariant-loop-step
invariant-loop-step l = SourcesSoFar l.count l.moves l.step-index l.lists.items
