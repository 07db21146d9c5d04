use Rattle.cache_sets.proofs.SetLemmas.{held_in_sets, barred_in_sets}
use Rattle.cache_sets.proofs.KeptSets.{kept_in_sets}
use Rattle.cache_sets.proofs.laws.sets_tell.Goals as goal

pub returns : goal.returns
returns c = record { held = held_in_sets; barred = barred_in_sets; kept = kept_in_sets }
