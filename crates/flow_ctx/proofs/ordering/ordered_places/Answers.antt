use Rattle.flow_ctx.proofs.NumberLemmas.{ordered}
use Rattle.flow_ctx.proofs.ordering.ordered_places.Goals as goal

pub returns-clause-nodes : goal.returns-clause-nodes
returns-clause-nodes c =
    let e = c.in_ok-sort_unstable.ensures in
    ordered c.args.program.now c.requires c.in_ok-places.places.keys c.sort_unstable.new.self.keys e.reordered.0 c.in_ok-places.ensures.found e.sorted e.unique
