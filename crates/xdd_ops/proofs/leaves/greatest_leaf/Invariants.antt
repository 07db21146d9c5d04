use Rattle.std.proofs.Common.{◌≡◌, ℕ, ◌<◌, ◌≤◌, ◌⊎◌, length, slice_get, Some, get_or}
use Rattle.xdd_table.specs.declared.node.Node.TheVariants.{Leaf}
use Rattle.xdd_ops.proofs.leaves.greatest_leaf.Given as goal

abbrev pub invariant-loop-place : goal.invariant-loop-place
invariant-loop-place l = record {
  bound : (k t : ℕ) → k < l.place-index → slice_get l.table (get_or l.places k 0) ≡ Some (Leaf t) → t ≤ l.greatest;
  attained : (l.greatest ≡ 0) ⊎ ((k : ℕ) × (k < length l.places) × (slice_get l.table (get_or l.places k 0) ≡ Some (Leaf l.greatest)));
}
