use Rattle.std.proofs.Common.{take, All, None}
use Rattle.flow_graph.specs.Reached.{IsLeastOutside, leads_of}
use Rattle.flow_graph.proofs.early_refusals.first_leading_out.Given as goal

abbrev pub invariant-loop-site : goal.invariant-loop-site
invariant-loop-site l = All (λ s. IsLeastOutside l.image (leads_of s) None) (take l.site-index l.sites)
