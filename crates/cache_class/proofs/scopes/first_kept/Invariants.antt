use Rattle.std.proofs.Common.{◌-◌}
use Rattle.cache_class.proofs.KeptLemmas.{IsHalved}
use Rattle.cache_class.proofs.scopes.first_kept.Given as goal

abbrev pub invariant-halving : goal.invariant-halving
invariant-halving l = IsHalved l.tables.shape l.tables.u.now l.tables.flow l.access.node l.access.place l.access.line l.chain l.low l.high

abbrev pub decreases-halving : goal.decreases-halving
decreases-halving l = l.high - l.low
