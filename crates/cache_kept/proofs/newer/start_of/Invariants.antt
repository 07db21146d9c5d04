use Rattle.std.proofs.Common.{◌≡◌, ◌-◌, false, drop, length}
use Rattle.cache_ages.specs.Bounds.{is_one_of}
use Rattle.cache_kept.proofs.newer.start_of.Given as goal

abbrev pub invariant-loop-i : goal.invariant-loop-i
invariant-loop-i l = is_one_of (drop (length l.accesses - l.i) l.accesses) l.line ≡ false
