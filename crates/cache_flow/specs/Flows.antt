-- What a program does to a cache, as plain lists: the lines that each of its nodes accesses, and how nodes follow one another.
-- This project's own.
use Rattle.std.specs.Prelude.{◌≡◌, ℕ, ◌<◌, true, List, [], ◌++◌, length, All, Contains, slice_index_or}
use Rattle.wx_base.specs.Facts.{AreAscending}
use Rattle.cache_ages.specs.Bounds.{is_one_of}
use Rattle.cache_flow.specs.declared.flow.Flow.{Flow}
use Rattle.cache_flow.specs.declared.flow.Move.{Move}

-- a part of a flow that is entered at one node: each stay in it is looked at on its own
pub record Part : Type 0 where
  pub head : ℕ
  pub members : List ℕ

-- the lines that a node accesses
abbrev pub accesses_of : Flow → ℕ → List ℕ
accesses_of flow node = slice_index_or flow.nodes node []

-- moves lead from nodes to nodes, and lines are listed, each once
pub record IsFlow (flow : Flow) : Type 0 where
  pub start : flow.start < length flow.nodes
  pub from : All (λ move. move.from < length flow.nodes) flow.moves
  pub to : All (λ move. move.to < length flow.nodes) flow.moves
  pub ascending : AreAscending flow.lines
  pub listed : All (λ accesses. All (λ line. is_one_of flow.lines line ≡ true) accesses) flow.nodes

-- a run comes to a node, after these accesses
pub data Comes (flow : Flow) : ℕ → List ℕ → Type 0 where
  starts : Comes flow flow.start []
  goes : (move : Move) (accesses : List ℕ) → Contains flow.moves move → Comes flow move.from accesses
      → Comes flow move.to (accesses ++ accesses_of flow move.from)

-- in one stay in a part a run comes to a node, after these accesses of the stay
pub data Stays (flow : Flow) (part : Part) : ℕ → List ℕ → Type 0 where
  enters : Stays flow part part.head []
  goes : (move : Move) (accesses : List ℕ) → Contains flow.moves move → Contains part.members move.from → Contains part.members move.to
      → Stays flow part move.from accesses → Stays flow part move.to (accesses ++ accesses_of flow move.from)
