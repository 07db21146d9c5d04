use Rattle.std.proofs.Common.{◌≡◌, take}
use Rattle.flow_ctx.specs.Found.{nodes_of}
use Rattle.flow_ctx.proofs.construction.list_nodes.Given as goal

abbrev pub invariant-loop-place : goal.invariant-loop-place
invariant-loop-place l = l.nodes.items ≡ nodes_of (take l.place-index l.places)
