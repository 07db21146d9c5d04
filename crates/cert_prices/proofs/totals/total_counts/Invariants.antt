use Rattle.cert_prices.proofs.CountLemmas.{FirstCounts}
use Rattle.cert_prices.proofs.totals.total_counts.Given as goal

abbrev pub invariant-loop-l : goal.invariant-loop-l
invariant-loop-l l = FirstCounts l.u l.l-index l.counts.entries
