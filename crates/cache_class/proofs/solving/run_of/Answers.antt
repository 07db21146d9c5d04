use Rattle.cache_class.proofs.ReadyLemmas.{run_nodes}
use Rattle.cache_class.proofs.solving.run_of.Goals as goal

pub new-requires-clause-members : goal.new-requires-clause-members
new-requires-clause-members c = run_nodes c.args.u.now c.args.flow.now c.args.nodes.now c.requires.of c.requires.nodes
