use Rattle.std.proofs.Common.{◌≡◌, ◌≤◌, ◌^◌, []}
use Rattle.wx_base.specs.Recurrence.{latest, written}
use Rattle.pipe_time.proofs.equations.ready.Given as goal

-- the latest of the resources so far, which is no later than the slots may be
abbrev pub invariant-loop-r : goal.invariant-loop-r
invariant-loop-r l = record {
  value : l.time ≡ latest (λ r. written l.slots r []) l.set l.r;
  small : l.time ≤ 2 ^ 62;
}
