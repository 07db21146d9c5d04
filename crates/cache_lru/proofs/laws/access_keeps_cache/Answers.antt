use Rattle.cache_lru.proofs.Caches.{keeps}
use Rattle.cache_lru.proofs.laws.access_keeps_cache.Goals as goal

pub returns : goal.returns
returns c = keeps
