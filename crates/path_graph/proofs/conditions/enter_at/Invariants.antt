use Rattle.std.proofs.Common.{◌≡◌, ℕ, ◌+◌, ◌<◌, false, length, get_or}
use Rattle.std.specs.Prelude.{IsTrue}
use Rattle.path_graph.specs.Graph.{has, arc_at, loop_at}
use Rattle.path_graph.specs.Tested.{IsSound, AreOwners}
use Rattle.path_graph.proofs.TestedLemmas.{Leads, Enters, Falls, EndsBelow, IsAlike, OwnsSoFar, MarksSoFar}
use Rattle.path_graph.proofs.conditions.enter_at.Given as goal

abbrev pub invariant-loop-arc : goal.invariant-loop-arc
invariant-loop-arc l = (a : ℕ) → a < l.arc-index → Enters l.graph l.marks l.head a
