use Rattle.std.proofs.Common.{take}
use Rattle.std.specs.List.{Any}
use Rattle.flow_graph.specs.Listing.{IsLeast}
use Rattle.flow_graph.proofs.OutlineLemmas.{IsUnboundedHead}
use Rattle.flow_graph.proofs.outline.first_unbounded.Given as goal

abbrev pub invariant-loop-found : goal.invariant-loop-found
invariant-loop-found l = IsLeast (λ v. Any (λ found. IsUnboundedHead l.facts l.addresses found v) (take l.found-index l.loops)) l.least
