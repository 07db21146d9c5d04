use Rattle.cache_class.proofs.OneTable.{classes_one}
use Rattle.cache_class.proofs.laws.classes_are_one.Goals as goal

pub returns : goal.returns
returns c = classes_one
