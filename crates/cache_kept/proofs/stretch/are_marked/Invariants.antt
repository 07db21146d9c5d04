use Rattle.std.proofs.Common.{◌≡◌, ℕ, true, take}
use Rattle.std.specs.List.{Contains}
use Rattle.cache_kept.specs.Walk.{is_marked}
use Rattle.cache_kept.proofs.stretch.are_marked.Given as goal

abbrev pub invariant-loop-node : goal.invariant-loop-node
invariant-loop-node l = (node : ℕ) → Contains (take l.node-index l.nodes) node → is_marked l.marks node ≡ true
