use Rattle.cache_ages.proofs.Covering.{must_covers}
use Rattle.cache_ages.proofs.laws.must_access_covers.Goals as goal

pub returns : goal.returns
returns c = must_covers
