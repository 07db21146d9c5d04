use Rattle.std.proofs.Common.{◌<◌, ◌≤◌, ◌≢◌, ℕ, [], length, get_or, nat_cmp, Greater}
use Rattle.std.specs.Cmp.Lexicographic.{slice_cmp}
use Rattle.machine_desc.proofs.unknown.take_least.Given as goal

abbrev pub invariant-loop-index : goal.invariant-loop-index
invariant-loop-index l =
    (l.least < l.index) × (l.index ≤ length l.keys.items) × ((k : ℕ) → k < l.index → slice_cmp nat_cmp (get_or l.keys.items l.least []) (get_or l.keys.items k []) ≢ Greater)
