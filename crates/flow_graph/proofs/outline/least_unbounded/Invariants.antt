use Rattle.std.proofs.Common.{take}
use Rattle.std.specs.List.{Any}
use Rattle.flow_graph.specs.Listing.{IsLeast}
use Rattle.flow_graph.proofs.OutlineLemmas.{HasUnboundedHead}
use Rattle.flow_graph.proofs.outline.least_unbounded.Given as goal

abbrev pub invariant-loop-outline : goal.invariant-loop-outline
invariant-loop-outline l = IsLeast (λ v. Any (λ o. HasUnboundedHead l.facts l.addresses o v) (take l.outline-index l.outlines)) l.least
