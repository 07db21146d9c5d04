use Rattle.flow_ctx.specs.Chosen.{AreChosen}
use Rattle.flow_ctx.specs.Found.{nodes_of}
use Rattle.flow_ctx.specs.Targets.{node_of}
use Rattle.flow_ctx.specs.Unfolding.{IsMemberNumber}
use Rattle.flow_ctx.proofs.ChosenLemmas.{To}
use Rattle.flow_ctx.proofs.members.members_of.Given as goal

abbrev pub invariant-loop-number : goal.invariant-loop-number
invariant-loop-number l = AreChosen (To (IsMemberNumber l.program (nodes_of l.places) (node_of l.head) l.info) l.number) l.list.items
