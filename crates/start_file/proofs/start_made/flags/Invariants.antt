use Rattle.std.proofs.Common.{◌≡◌, take}
use Rattle.std.specs.Option.{unwrap_or}
use Rattle.start_file.specs.StartSaid.{said, of_flags, no_flags}
use Rattle.start_file.proofs.start_made.flags.Given as goal

abbrev pub invariant-loop-item : goal.invariant-loop-item
invariant-loop-item l = l.told ≡ unwrap_or (said of_flags (take l.item-index l.items)) no_flags
