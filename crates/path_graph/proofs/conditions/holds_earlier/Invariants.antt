use Rattle.std.proofs.Common.{◌≡◌, ℕ, ◌+◌, ◌<◌, false, length, get_or}
use Rattle.std.specs.Prelude.{IsTrue}
use Rattle.path_graph.specs.Graph.{has, arc_at, loop_at}
use Rattle.path_graph.specs.Tested.{IsSound, AreOwners}
use Rattle.path_graph.proofs.TestedLemmas.{Leads, Enters, Falls, EndsBelow, IsAlike, OwnsSoFar, MarksSoFar}
use Rattle.path_graph.proofs.conditions.holds_earlier.Given as goal

abbrev pub invariant-loop-earlier : goal.invariant-loop-earlier
invariant-loop-earlier l = (k : ℕ) → k < l.earlier → IsAlike l.marks (loop_at l.graph k).members
