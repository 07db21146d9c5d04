use Rattle.flow_ctx.specs.Chosen.{AreChosen, LeadsIntoAt}
use Rattle.flow_ctx.proofs.ChosenLemmas.{To}
use Rattle.flow_ctx.proofs.members.edges_into.Given as goal

abbrev pub invariant-loop-number : goal.invariant-loop-number
invariant-loop-number l = AreChosen (To (LeadsIntoAt l.edges l.head l.members l.inside) l.number) l.list.items
