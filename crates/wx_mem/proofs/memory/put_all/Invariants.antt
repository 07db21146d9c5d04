use Rattle.std.proofs.Common.{◌≡◌, ◌+◌, length, drop}
use Rattle.std.specs.HashMap.{spare}
use Rattle.std.specs.FinMap.{from_entries}
use Rattle.wx_base.specs.Bits.{add_words}
use Rattle.wx_mem.specs.Memory.{HasRoom, with_bytes}
use Rattle.wx_mem.proofs.memory.put_all.Given as goal

abbrev pub invariant-loop-byte : goal.invariant-loop-byte
invariant-loop-byte l = record {
  at : l.at ≡ add_words l.addr l.byte-index;
  room : HasRoom (spare l.room + l.byte-index) (from_entries l.room.entries) l.addr (length l.bytes);
  rest : with_bytes (from_entries l.room.entries) l.at (drop l.byte-index l.bytes) ≡ with_bytes (from_entries l.initial.room.entries) l.addr l.bytes;
}
