use Rattle.std.proofs.Common.{◌≡◌, ℕ, take, is_some}
use Rattle.std.specs.Option.{unwrap_or}
use Rattle.wx_mem.specs.Memory.{is_written, byte_at}
use Rattle.start_file.specs.StartSaid.{said, of_fill, of_byte}
use Rattle.start_file.proofs.start_made.memory.Given as goal

abbrev pub invariant-loop-item : goal.invariant-loop-item
invariant-loop-item l = record {
  fill : l.memory.fill ≡ unwrap_or (said of_fill l.items) 0;
  bytes : (at : ℕ) → byte_at l.memory at ≡ unwrap_or (said (of_byte at) (take l.item-index l.items)) l.memory.fill;
  written : (at : ℕ) → is_written l.memory at ≡ is_some (said (of_byte at) (take l.item-index l.items));
}
