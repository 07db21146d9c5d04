-- What holds of all programs that were built. This project's own.
use Rattle.std.specs.Prelude.{◌≤◌, length}
use Rattle.flow_graph.specs.declared.program.Program.{Program}
use Rattle.flow_ctx.specs.declared.unfolded.Unfolded.{Unfolded}
use Rattle.flow_ctx.specs.Laws.{IsBuilt}
use Rattle.flow_ctx.specs.Unfolding.{HasTooManyNodes, IsUnfolding, most_nodes}

-- Such a program has an unfolding with no more nodes than there may be, or it has too many: it cannot be that neither holds.
abbrev pub UnfoldedOrTooLarge : Type 0
UnfoldedOrTooLarge = (program : Program) → IsBuilt program → ((u : Unfolded) → IsUnfolding program u → length u.nodes ≤ most_nodes → ⊥)
    → (HasTooManyNodes program → ⊥) → ⊥
