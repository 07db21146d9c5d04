use Rattle.cache_ages.proofs.Covering.{must_holds}
use Rattle.cache_ages.proofs.laws.must_holds_line.Goals as goal

pub returns : goal.returns
returns c = must_holds
