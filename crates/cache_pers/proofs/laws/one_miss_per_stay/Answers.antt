use Rattle.cache_pers.proofs.Stay.{one_miss}
use Rattle.cache_pers.proofs.laws.one_miss_per_stay.Goals as goal

pub returns : goal.returns
returns c = one_miss c.access_keeps_cache.ensures
