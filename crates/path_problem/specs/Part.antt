-- The part of a graph inside a loop, as links between numbers of its members. This project's own.
use Rattle.std.specs.Prelude.{◌≡◌, ℕ, ◌<◌, ◌≤◌, List, length, slice_index, slice_index_or, ℤ, pos, IsTrue, Option, MatchOption, Bool}
use Rattle.std.specs.List.{All}
use Rattle.path_graph.specs.declared.graph.Graph.{Graph}
use Rattle.path_graph.specs.declared.graph.LoopArcs.{LoopArcs}
use Rattle.path_graph.specs.declared.graph.TheConstants.{LARGEST}
use Rattle.path_problem.specs.declared.net.Link.{Link}
use Rattle.path_graph.specs.Graph.{has, arc_at}
use Rattle.path_problem.specs.Need.{Serves, IsNeed, need_tolls}
use Rattle.path_problem.specs.Whole.{HasLink}
use Rattle.path_problem.specs.Window.{AreWeights}

-- a vertex has a number as its place among some names
pub record IsPlace (names places : List ℕ) (v n : ℕ) : Type 0 where
  pub within : n < length names
  pub name : slice_index names n ≡ v
  pub place : n ≡ slice_index places v

-- names of all members of a loop and of nothing else, no more than there are vertices
pub record AreNames (members names places : List ℕ) : Type 0 where
  pub each : (v : ℕ) → IsTrue (has members v) → IsPlace names places v (slice_index places v)
  pub only : (n : ℕ) → n < length names → IsTrue (has members (slice_index names n))
  pub few : length names ≤ length places

-- a link is an arc inside a loop, with its weight
pub record IsInner (g : Graph) (l : LoopArcs) (weights : List ℤ) (names places : List ℕ) (link : Link) : Type 0 where
  pub within : link.arc < length g.arcs
  pub inside : IsTrue (has l.members (arc_at g link.arc).from)
  pub from : IsPlace names places (arc_at g link.arc).from link.from
  pub to : IsPlace names places (arc_at g link.arc).to link.to
  pub weight : link.weight ≡ slice_index_or weights link.arc (pos 0)
  pub back : link.back ≡ has l.back link.arc

-- the links are all arcs inside a loop
pub record AreInner (g : Graph) (l : LoopArcs) (weights : List ℤ) (names places : List ℕ) (links : List Link) : Type 0 where
  pub each : All (IsInner g l weights names places) links
  pub all : (a : ℕ) → a < length g.arcs → IsTrue (has l.members (arc_at g a).from) → IsTrue (has l.members (arc_at g a).to)
      → HasLink links a

-- an arc inside a loop as a link
pub record IsInnerAt (g : Graph) (l : LoopArcs) (weights : List ℤ) (names places : List ℕ) (a : ℕ) (link : Link) : Type 0 where
  pub inner : IsInner g l weights names places link
  pub arc : link.arc ≡ a

-- a number is the need of a loop, up to the greatest
pub record IsSmallNeed (g : Graph) (chosen : List Bool) (needs : List ℕ) (n : ℕ) : Type 0 where
  pub need : IsNeed g chosen needs n
  pub small : n ≤ LARGEST

-- no number up to the greatest serves a loop
pub record NoneServes (g : Graph) (chosen : List Bool) (needs : List ℕ) : Type 0 where
  pub each : (n : ℕ) → n ≤ LARGEST → Serves g chosen needs n → ⊥

-- an answer for the need of the loop behind the first ones, at whose needs arcs have given weights
pub record NeedGives (g : Graph) (number : ℕ) (weights : List ℤ) (need : Option ℕ) : Type 0 where
  pub at_needs : (chosen : List Bool) (needs : List ℕ) → length needs ≡ number → AreWeights g (need_tolls g chosen needs) 0 weights
      → MatchOption need (NoneServes g chosen needs) (IsSmallNeed g chosen needs)
