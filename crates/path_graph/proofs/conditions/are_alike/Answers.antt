use Rattle.path_graph.proofs.TestedLemmas.{alike_all}
use Rattle.path_graph.proofs.conditions.are_alike.Goals as goal

pub returns-in-Some : goal.returns-in-Some
returns-in-Some c = λ e. alike_all c.args.marks.now c.args.vertices.now _ (c.are_as.ensures e)
