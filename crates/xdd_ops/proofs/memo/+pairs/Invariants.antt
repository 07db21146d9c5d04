use Rattle.std.proofs.Common.{◌+◌, ◌*◌}
use Rattle.xdd_ops.proofs.memo.+pairs.Given as goal

abbrev pub decreases-meet : goal.decreases-meet
decreases-meet g l = 2 * (l.pair.0.place + l.pair.1.place) + 1

abbrev pub decreases-join : goal.decreases-join
decreases-join g l = 2 * (l.split.pair.0.place + l.split.pair.1.place)
