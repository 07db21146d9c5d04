use Rattle.std.proofs.Common.{ℕ, ◌<◌, ◌≤◌, ◌∷◌, take}
use Rattle.pipe_block.specs.Times.{AreDiagrams}
use Rattle.pipe_block.specs.Rows.{AllAfter, AreFrom}
use Rattle.pipe_block.proofs.gather.first_event.Given as goal

abbrev pub invariant-loop-d : goal.invariant-loop-d
invariant-loop-d l = record {
  bound : l.first ≤ 12;
  from : AreFrom l.table l.first (l.bundle.number ∷ take l.d-index l.bundle.slots);
  first : (e : ℕ) → AllAfter l.table e (l.bundle.number ∷ take l.d-index l.bundle.slots) → l.first < 12 → e < l.first;
  below : (bound : ℕ) → AreDiagrams l.table bound (l.bundle.number ∷ take l.d-index l.bundle.slots) → l.first < 12 → l.first < bound;
  level : (level : ℕ) → level ≤ 12 → AreFrom l.table level (l.bundle.number ∷ take l.d-index l.bundle.slots) → level ≤ l.first;
}
