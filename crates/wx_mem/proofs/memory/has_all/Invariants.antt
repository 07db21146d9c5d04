use Rattle.std.specs.FinMap.{from_entries}
use Rattle.wx_mem.specs.Memory.{HasAll}
use Rattle.wx_mem.proofs.memory.has_all.Given as goal

abbrev pub invariant-loop-i : goal.invariant-loop-i
invariant-loop-i l = HasAll (from_entries l.room.entries) l.addr l.i
