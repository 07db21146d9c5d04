use Rattle.cache_lru.proofs.Caches.{second}
use Rattle.cache_lru.proofs.laws.second_access_hits.Goals as goal

pub returns : goal.returns
returns c = second
