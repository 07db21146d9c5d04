use Rattle.std.proofs.Common.{◌≡◌, ◌++◌, drop}
use Rattle.cert_text.specs.Told.{families_in}
use Rattle.cert_text.proofs.nodes.families.Given as goal

abbrev pub invariant-loop-index : goal.invariant-loop-index
invariant-loop-index l = families_in l.fn.pool l.fn.items ≡ l.families.items ++ families_in l.fn.pool (drop l.index l.fn.items)
