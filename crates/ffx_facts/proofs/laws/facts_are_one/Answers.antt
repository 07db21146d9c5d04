use Rattle.ffx_facts.proofs.FactsOne.{facts_one}
use Rattle.ffx_facts.proofs.laws.facts_are_one.Goals as goal

pub returns : goal.returns
returns c = facts_one
