use Rattle.path_graph.proofs.LinkLemmas.{nothing_linked}
use Rattle.path_graph.proofs.sources.link_arcs.Goals as goal

pub loop-number-init : goal.loop-number-init
loop-number-init c = nothing_linked c.args.graph.now c.args.last.now c.args.previous.now c.requires.last c.requires.previous
