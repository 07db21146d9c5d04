use Rattle.cache_flow.proofs.Shown.{must_shows, may_shows, younger_shows}
use Rattle.cache_flow.proofs.laws.least_solutions_show.Goals as goal

pub returns : goal.returns
returns c = record { must = must_shows; may = may_shows; younger = younger_shows }
