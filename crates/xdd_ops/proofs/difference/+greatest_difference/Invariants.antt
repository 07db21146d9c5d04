use Rattle.std.proofs.Common.{◌+◌}
use Rattle.xdd_ops.proofs.difference.+greatest_difference.Given as goal

abbrev pub decreases-greatest_difference : goal.decreases-greatest_difference
decreases-greatest_difference l = l.a.place + l.b.place
