use Rattle.cache_ages.proofs.Covering.{may_covers}
use Rattle.cache_ages.proofs.laws.may_access_covers.Goals as goal

pub returns : goal.returns
returns c = may_covers
