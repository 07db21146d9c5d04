use Rattle.cache_pers.proofs.Stay.{kept_is_held}
use Rattle.cache_pers.proofs.laws.kept_is_held.Goals as goal

pub returns : goal.returns
returns c = kept_is_held c.access_keeps_cache.ensures
