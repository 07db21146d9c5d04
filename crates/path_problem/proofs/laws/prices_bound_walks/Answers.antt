use Rattle.path_problem.proofs.LawLemmas.{law}
use Rattle.path_problem.proofs.laws.prices_bound_walks.Goals as goal

pub returns : goal.returns
returns c = law
