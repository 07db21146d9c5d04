use Rattle.std.proofs.Common.{◌≡◌, ℕ, ◌<◌, ◌≤◌, length, slice_get, Some}
use Rattle.xdd_table.specs.declared.node.Dd.{Dd}
use Rattle.pipe_block.specs.Rows.{IsCofactor}
use Rattle.pipe_block.proofs.gather.cofactors.Given as goal

abbrev pub invariant-loop-k : goal.invariant-loop-k
invariant-loop-k l = record {
  long : length l.slots ≡ 35;
  done : (j : ℕ) (d r : Dd) → j < l.k → slice_get l.initial.slots j ≡ Some d → slice_get l.slots j ≡ Some r → IsCofactor l.table l.event l.misses d r;
  left : (j : ℕ) → l.k ≤ j → slice_get l.slots j ≡ slice_get l.initial.slots j;
}
