use Rattle.std.proofs.Common.{◌≡◌, ◌++◌, List, map}
use Rattle.toml.specs.Data.{table}
use Rattle.toml.specs.View.{members_view}
use Rattle.toml.proofs.Views.{Entry}
use Rattle.machine_desc.specs.Keys.{row_of}
use Rattle.machine_desc.specs.Document.{unknown_in}
use Rattle.machine_desc.proofs.unknown.note_members.Given as goal

abbrev pub invariant-loop-key : goal.invariant-loop-key
invariant-loop-key l =
    (done : List Entry) × (l.members.entries ≡ done ++ l.key-iterator) × (l.unknown.items ≡ l.initial.unknown.items ++ unknown_in l.prefix l.name (map row_of l.keys) (table (members_view done)))
