use Rattle.std.proofs.Common.{◌≡◌, ◌++◌, take}
use Rattle.toml.specs.View.{view}
use Rattle.machine_desc.specs.Keys.{row_of}
use Rattle.machine_desc.specs.Document.{gathered, row_faults}
use Rattle.machine_desc.proofs.check.note_keys.Given as goal

abbrev pub invariant-loop-key : goal.invariant-loop-key
invariant-loop-key l = l.faults.items ≡ l.initial.faults.items ++ gathered (λ key. row_faults (view l.document) (row_of key)) (take l.key-index l.keys)
