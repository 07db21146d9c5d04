use Rattle.std.proofs.Common.{◌≡◌, ℕ, ◌<◌, length, slice_get, get_or, Some}
use Rattle.xdd_table.specs.declared.node.Dd.{Dd}
use Rattle.xdd_table.specs.Diagram.{Combination, time}
use Rattle.pipe_block.proofs.gather.leaf_row.Given as goal

abbrev pub invariant-loop-k : goal.invariant-loop-k
invariant-loop-k l = record {
  long : length l.slots ≡ 35;
  done : (j : ℕ) (d : Dd) → j < l.k → slice_get l.bundle.slots j ≡ Some d → (f : Combination) → time l.table f d.place ≡ get_or l.slots j 0;
}
