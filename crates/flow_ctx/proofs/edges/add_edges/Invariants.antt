use Rattle.std.proofs.Common.{take}
use Rattle.flow_ctx.specs.Edges.{AddsEdges}
use Rattle.flow_ctx.specs.Found.{nodes_of}
use Rattle.flow_ctx.proofs.edges.add_edges.Given as goal

abbrev pub invariant-loop-target : goal.invariant-loop-target
invariant-loop-target l = AddsEdges (nodes_of l.places.keys) l.from (take l.target-index l.targets) l.initial.edges.keys l.edges.keys
