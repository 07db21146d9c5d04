use Rattle.std.proofs.Common.{◌≡◌, ℕ, ◌+◌, ◌<◌, false, length, get_or}
use Rattle.std.specs.Prelude.{IsTrue}
use Rattle.path_graph.specs.Graph.{has, arc_at, loop_at}
use Rattle.path_graph.specs.Tested.{IsSound, AreOwners}
use Rattle.path_graph.proofs.TestedLemmas.{Leads, Enters, Falls, EndsBelow, IsAlike, OwnsSoFar, MarksSoFar}
use Rattle.path_graph.proofs.conditions.are_falling.Given as goal

abbrev pub invariant-loop-number : goal.invariant-loop-number
invariant-loop-number l = (a : ℕ) → a < l.number → Falls l.graph l.owners l.ranks a
