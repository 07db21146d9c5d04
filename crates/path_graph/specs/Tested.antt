-- What is tested of a graph, part by part, so that it meets the conditions. This project's own; that a loop is entered at one vertex
-- alone is usual of the loops of programs.
use Rattle.std.specs.Prelude.{◌≡◌, ℕ, ◌+◌, ◌<◌, Bool, false, List, length, slice_index, slice_index_or, IsTrue, IfSome, ◌⊎◌}
use Rattle.std.specs.List.{All}
use Rattle.path_graph.specs.declared.graph.Graph.{Graph}
use Rattle.path_graph.specs.declared.graph.LoopArcs.{LoopArcs}
use Rattle.path_graph.specs.Conditions.{IsLoop}
use Rattle.path_graph.specs.Graph.{has, arc_at, loop_at}

-- the ends of arcs and the start are vertices, and the origin is a loop
pub record HasEnds (g : Graph) : Type 0 where
  pub sources : (a : ℕ) → a < length g.arcs → (arc_at g a).from < length g.finish
  pub targets : (a : ℕ) → a < length g.arcs → (arc_at g a).to < length g.finish
  pub start : g.start < length g.finish
  pub origin : IfSome g.origin (λ l. l < length g.loops)

-- marks of the members of a loop
pub record AreMarks (members : List ℕ) (marks : List Bool) : Type 0 where
  pub each : (v : ℕ) → slice_index_or marks v false ≡ has members v

-- arcs that lead into a loop from outside lead to where its back arcs lead
pub record HasHead (g : Graph) (l : LoopArcs) : Type 0 where
  pub entered : (a b : ℕ) → a < length g.arcs → IsTrue (has l.back b) → has l.members (arc_at g a).from ≡ false
      → IsTrue (has l.members (arc_at g a).to) → (arc_at g a).to ≡ (arc_at g b).to

-- an earlier loop that shares a vertex with a later one is inside it
pub record IsNestedIn (g : Graph) (m : ℕ) : Type 0 where
  pub each : (l u v : ℕ) → l < m → IsTrue (has (loop_at g l).members u) → IsTrue (has (loop_at g m).members u)
      → IsTrue (has (loop_at g l).members v) → IsTrue (has (loop_at g m).members v)

-- a loop with a head, inside which each earlier loop is that it meets
pub record IsSound (g : Graph) (l : ℕ) : Type 0 where
  pub is : IsLoop g (loop_at g l)
  pub head : HasHead g (loop_at g l)
  pub nested : IsNestedIn g l

-- for each arc the loop that has it as a back arc, counted from 1; 0 for none
pub record AreOwners (g : Graph) (count : ℕ) (owners : List ℕ) : Type 0 where
  pub each : (l a : ℕ) → l < count → IsTrue (has (loop_at g l).back a) → slice_index owners a ≡ l + 1
  pub only : (l a : ℕ) → slice_index owners a ≡ l + 1 → (l < count) × IsTrue (has (loop_at g l).back a)

-- numbers of vertices fall along all arcs but back arcs
pub record AreFalling (g : Graph) (owners ranks : List ℕ) : Type 0 where
  pub each : (a : ℕ) → a < length g.arcs → slice_index owners a ≡ 0
      → slice_index ranks (arc_at g a).to < slice_index ranks (arc_at g a).from
