use Rattle.std.proofs.Common.{ℕ, ◌↔◌, List}
use Rattle.std.specs.List.{Contains}
use Rattle.state_families.specs.Leaving.{IsPicked}
use Rattle.state_families.proofs.leaving.picked.Given as goal

abbrev pub invariant-loop-i : goal.invariant-loop-i
invariant-loop-i l = (slots : List ℕ) → Contains l.list.items slots ↔ IsPicked l.pairs l.outcomes l.i slots
