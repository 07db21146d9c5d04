use Rattle.std.proofs.Common.{◌≡◌, ◌++◌, drop}
use Rattle.cert_text.specs.Told.{front_vectors}
use Rattle.cert_text.proofs.nodes.front_vectors.Given as goal

abbrev pub invariant-loop-item : goal.invariant-loop-item
invariant-loop-item l = front_vectors l.items ≡ l.vectors.items ++ front_vectors (drop l.item-index l.items)
