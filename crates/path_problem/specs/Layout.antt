-- What is found of a graph once: its arcs by the vertex that they leave, and the loops of its back arcs. This project's own.
use Rattle.std.specs.Prelude.{◌≡◌, ℕ, ◌<◌, List, length, slice_index, slice_index_or, Option, None, MatchOption}
use Rattle.std.specs.List.{All, Contains}
use Rattle.path_graph.specs.declared.graph.Graph.{Graph}
use Rattle.path_problem.specs.declared.layout.Layout.{Layout}
use Rattle.path_graph.specs.Conditions.{IsGraph}
use Rattle.path_graph.specs.Graph.{arc_at}
use Rattle.path_graph.specs.Sources.{AreArcsFrom}
use Rattle.path_graph.specs.Tested.{AreOwners}

-- a graph with its arcs by the vertex that they leave, and for each arc the loop that has it as a back arc
pub record IsLayout (l : Layout) : Type 0 where
  pub graph : IsGraph l.graph.now
  pub arcs : AreArcsFrom l.graph.now l.arcs.last.items l.arcs.previous.items
  pub owners : AreOwners l.graph.now (length l.graph.now.loops) l.owners.items

-- it is that of a graph
pub record IsLayoutOf (g : Graph) (l : Layout) : Type 0 where
  pub is : IsLayout l
  pub graph : l.graph.now ≡ g
