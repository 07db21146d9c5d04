use Rattle.std.proofs.Common.{◌≡◌, ◌++◌, take, Some}
use Rattle.toml.specs.View.{view}
use Rattle.machine_desc.specs.Keys.{row_of}
use Rattle.machine_desc.specs.Faults.{fault_in}
use Rattle.machine_desc.specs.Document.{gathered, listed, dotted}
use Rattle.machine_desc.proofs.check.note_inner.Given as goal

abbrev pub invariant-loop-key : goal.invariant-loop-key
invariant-loop-key l = l.faults.items ≡ l.initial.faults.items ++ gathered (λ key. listed (dotted l.prefix key.name.now) (fault_in (row_of key) (Some (view l.region)))) (take l.key-index l.keys)
