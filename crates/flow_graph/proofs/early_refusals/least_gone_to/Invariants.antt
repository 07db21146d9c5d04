use Rattle.std.proofs.Common.{take, ◌∷◌}
use Rattle.flow_graph.specs.Reached.{IsLeastOutside, gone_to}
use Rattle.flow_graph.proofs.early_refusals.least_gone_to.Given as goal

abbrev pub invariant-loop-site : goal.invariant-loop-site
invariant-loop-site l = IsLeastOutside l.image (l.start ∷ gone_to (take l.site-index l.sites)) l.least
