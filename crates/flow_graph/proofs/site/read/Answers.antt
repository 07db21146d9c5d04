use Rattle.std.proofs.Common.{sym, ◌∙◌}
use Rattle.flow_graph.proofs.SiteLemmas.{foreign_flow}
use Rattle.flow_graph.proofs.site.read.Goals as goal

pub returns-in-None-clause-flow : goal.returns-in-None-clause-flow
returns-in-None-clause-flow c = c.no_flow.ensures ∙ sym (foreign_flow c.args.word c.args.address (sym c.in-None.ensures.exact))
