use Rattle.std.proofs.Common.{ℕ, ◌<◌}
use Rattle.machine_desc.specs.Meeting.{NoneMeetsLater}
use Rattle.machine_desc.proofs.regions.least_meeting.Given as goal

abbrev pub invariant-loop-a : goal.invariant-loop-a
invariant-loop-a l = (c : ℕ) → c < l.a → NoneMeetsLater l.regions c
