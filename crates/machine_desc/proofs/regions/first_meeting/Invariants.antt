use Rattle.std.proofs.Common.{ℕ, ◌<◌}
use Rattle.machine_desc.specs.Meeting.{Meet, region_in}
use Rattle.machine_desc.proofs.regions.first_meeting.Given as goal

abbrev pub invariant-loop-b : goal.invariant-loop-b
invariant-loop-b l = (d : ℕ) → l.a < d → d < l.b → Meet (region_in l.regions l.a) (region_in l.regions d) → ⊥
