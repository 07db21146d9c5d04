use Rattle.cache_class.proofs.GroupLemmas.{groups_one}
use Rattle.cache_class.proofs.laws.groups_are_one.Goals as goal

pub returns : goal.returns
returns c = groups_one
