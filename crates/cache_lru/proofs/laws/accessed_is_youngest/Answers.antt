use Rattle.cache_lru.proofs.Caches.{youngest}
use Rattle.cache_lru.proofs.laws.accessed_is_youngest.Goals as goal

pub returns : goal.returns
returns c = youngest
