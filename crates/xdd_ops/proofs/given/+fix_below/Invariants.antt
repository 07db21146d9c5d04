use Rattle.xdd_ops.proofs.given.+fix_below.Given as goal

abbrev pub decreases-fix_below : goal.decreases-fix_below
decreases-fix_below l = l.d.place
