use Rattle.std.proofs.Common.{◌≡◌, take, Some}
use Rattle.std.specs.List.{Any}
use Rattle.flow_graph.specs.Listing.{IsLeast}
use Rattle.flow_graph.proofs.outline.least_on_cycle.Given as goal

abbrev pub invariant-loop-outline : goal.invariant-loop-outline
invariant-loop-outline l = IsLeast (λ v. Any (λ o. o.structure.cycle ≡ Some v) (take l.outline-index l.outlines)) l.least
