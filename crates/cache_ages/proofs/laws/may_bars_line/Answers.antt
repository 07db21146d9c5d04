use Rattle.cache_ages.proofs.Covering.{may_bars}
use Rattle.cache_ages.proofs.laws.may_bars_line.Goals as goal

pub returns : goal.returns
returns c = may_bars
