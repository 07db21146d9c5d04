use Rattle.flow_ctx.specs.Edges.{AreEdgesFrom}
use Rattle.flow_ctx.specs.Found.{nodes_of}
use Rattle.flow_ctx.proofs.edges.found_edges.Given as goal

abbrev pub invariant-loop-from : goal.invariant-loop-from
invariant-loop-from l = AreEdgesFrom l.program (nodes_of l.places.keys) l.from l.edges.keys
