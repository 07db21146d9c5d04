use Rattle.cache_pers.proofs.Stay.{covering_keeps}
use Rattle.cache_pers.proofs.laws.covering_keeps.Goals as goal

pub returns : goal.returns
returns c = covering_keeps
