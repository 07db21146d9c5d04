use Rattle.std.proofs.Common.{◌≡◌, ◌≤◌, length, drop, None}
use Rattle.wx_host.specs.MemStore.{held}
use Rattle.wx_host.proofs.mem_store.last_named.Given as goal

-- no file from `i` on has the name
abbrev pub invariant-loop-i : goal.invariant-loop-i
invariant-loop-i l = (l.i ≤ length l.files) × (held (drop l.i l.files) l.name ≡ None)

abbrev pub decreases-loop-i : goal.decreases-loop-i
decreases-loop-i l = l.i
