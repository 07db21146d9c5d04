use Rattle.std.proofs.Common.{◌≡◌, ◌++◌, drop}
use Rattle.cert_text.specs.Written.{node_items, text_of}
use Rattle.cert_text.proofs.write.push_nodes.Given as goal

abbrev pub invariant-loop-number : goal.invariant-loop-number
invariant-loop-number l = l.initial.out.items ++ text_of (node_items l.pool 0 l.families) ≡ l.out.items ++ text_of (node_items l.pool l.number (drop l.number l.families))
