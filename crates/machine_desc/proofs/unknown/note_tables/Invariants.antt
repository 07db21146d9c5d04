use Rattle.std.proofs.Common.{◌≡◌, ◌++◌, take}
use Rattle.toml.specs.View.{view}
use Rattle.machine_desc.specs.Document.{gathered, inner_unknown}
use Rattle.machine_desc.proofs.unknown.note_tables.Given as goal

abbrev pub invariant-loop-key : goal.invariant-loop-key
invariant-loop-key l = l.unknown.items ≡ l.initial.unknown.items ++ gathered (λ key. inner_unknown (view l.document) key.name.now key.wanted) (take l.key-index l.keys)
