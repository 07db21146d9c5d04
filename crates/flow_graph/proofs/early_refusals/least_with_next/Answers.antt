use Rattle.flow_graph.proofs.OutsideLemmas.{with_none}
use Rattle.flow_graph.proofs.early_refusals.least_with_next.Goals as goal

pub returns-else-site : goal.returns-else-site
returns-else-site c = rw c.if-site.false (with_none c.args.image.now c.args.least)
