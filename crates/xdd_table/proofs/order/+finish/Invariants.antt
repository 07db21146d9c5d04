use Rattle.xdd_table.proofs.order.+finish.Given as goal

abbrev pub decreases-finish : goal.decreases-finish
decreases-finish l = l.d.place
