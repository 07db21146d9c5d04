use Rattle.flow_graph.proofs.RulesOne.{rules_one}
use Rattle.flow_graph.proofs.laws.rules_are_one.Goals as goal

pub returns : goal.returns
returns c = rules_one
