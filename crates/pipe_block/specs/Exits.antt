-- What an edge of a block hands on, as diagrams. This project's own.
use Rattle.std.specs.Prelude.{◌≡◌, ℕ, Bool, List, ◌∷◌}
use Rattle.wx_base.specs.declared.machine.Machine.{Machine}
use Rattle.wx_base.specs.Blocks.{Exit, with_jump, cost_of, rebased}
use Rattle.xdd_table.specs.declared.node.Node.{Node}
use Rattle.xdd_table.specs.Diagram.{Combination, time}
use Rattle.pipe_block.specs.declared.diagrams.BlockVector.{BlockVector}
use Rattle.pipe_block.specs.declared.diagrams.BlockExit.{BlockExit}
use Rattle.pipe_block.specs.declared.row.Row.{Row}
use Rattle.pipe_block.specs.Times.{times_at, AreDiagrams}

-- the exit from a vector behind instructions, along an edge by which the last one, that ended then, jumps or does not
abbrev pub exit_behind : Machine → Bool → ℕ → List ℕ → Exit
exit_behind m taken end slots =
    let behind = with_jump taken end slots in
    record { cost = cost_of m behind; slots = rebased m behind }

-- the exit from the vector of a row
abbrev pub exit_row_of : Machine → Bool → Row → Row
exit_row_of m taken row = let e = exit_behind m taken row.number row.slots in record { number = e.cost; slots = e.slots }

-- the cost and the slots of an exit at a combination
abbrev pub exit_at : List Node → BlockExit → Combination → Exit
exit_at nodes e f = record { cost = time nodes f e.cost.place; slots = times_at nodes f e.slots }

-- At every combination an edge hands on the vector behind the block, with its jump, counted from its cost on; no event is read that
-- was not read before.
pub record AreExits (old new : List Node) (m : Machine) (taken : Bool) (v : BlockVector) (e : BlockExit) : Type 0 where
  pub exits : (f : Combination) → exit_at new e f ≡ exit_behind m taken (time old f v.last.place) (times_at old f v.slots)
  pub diagrams : (bound : ℕ) → AreDiagrams old bound (v.last ∷ v.slots) → AreDiagrams new bound (e.cost ∷ e.slots)
