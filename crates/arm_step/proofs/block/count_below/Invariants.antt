-- As many as are in the list so far.
use Rattle.std.proofs.Common.{◌≡◌, ◌≤◌, length}
use Rattle.wx_base.specs.Transfer.{listed_below}
use Rattle.arm_step.proofs.block.count_below.Given as goal

abbrev pub invariant-loop-register : goal.invariant-loop-register
invariant-loop-register l = record {
  count : l.count ≡ length (listed_below l.register l.list);
  bound : l.count ≤ l.register;
}
