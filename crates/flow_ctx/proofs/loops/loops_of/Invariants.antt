use Rattle.flow_ctx.specs.Chosen.{AreLoopsTo}
use Rattle.flow_ctx.specs.Found.{nodes_of}
use Rattle.flow_ctx.proofs.loops.loops_of.Given as goal

abbrev pub invariant-loop-number : goal.invariant-loop-number
invariant-loop-number l = AreLoopsTo l.program (nodes_of l.places) l.edges l.number l.loops.items
