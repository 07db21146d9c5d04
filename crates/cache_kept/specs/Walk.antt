-- How a walk over the nodes of a part goes on, and what it comes to. This project's own.
use Rattle.std.specs.Prelude.{◌≡◌, ◌<◌, ◌↔◌, ℕ, Bool, true, false, List, ◌++◌, length, slice_index_or, Contains}
use Rattle.std.specs.Global.{Vec}
use Rattle.cache_kept.specs.Ways.{list_at}

-- a node is marked; none is behind the end of the marks
abbrev pub is_marked : List Bool → ℕ → Bool
is_marked marks node = slice_index_or marks node false

-- the marks tell which nodes are in the queue
pub record AreMarked (marks : List Bool) (queue : List ℕ) : Type 0 where
  pub exact : (node : ℕ) → (is_marked marks node ≡ true) ↔ Contains queue node

-- each number is one of a node of a flow with so many
pub record AreNodes (count : ℕ) (nodes : List ℕ) : Type 0 where
  pub within : (node : ℕ) → Contains nodes node → node < count

-- Some nodes are come to: behind those of before stand only such as are among them and inside, and each of these is there
-- now.
pub record CameTo (before after : List ℕ) (inside : List Bool) (nodes : List ℕ) : Type 0 where
  pub more : List ℕ
  pub grown : after ≡ before ++ more
  pub only : (node : ℕ) → Contains more node → Contains nodes node
  pub within : (node : ℕ) → Contains more node → is_marked inside node ≡ true
  pub each : (node : ℕ) → Contains nodes node → is_marked inside node ≡ true → Contains after node

-- The marks tell what lists lead to inside: each root, and what a list of a marked node has; and each property that roots
-- have and that goes along lists inside is one of all marked nodes.
pub record AreSpread (lists : List (Vec ℕ)) (inside : List Bool) (roots : List ℕ) (marks : List Bool) : Type 0 where
  pub long : length marks ≡ length lists
  pub begun : (root : ℕ) → Contains roots root → is_marked inside root ≡ true → is_marked marks root ≡ true
  pub goes : (from to : ℕ) → is_marked marks from ≡ true → Contains (list_at lists from) to → is_marked inside to ≡ true
      → is_marked marks to ≡ true
  pub only : (holds : ℕ → Bool) → ((root : ℕ) → Contains roots root → is_marked inside root ≡ true → holds root ≡ true)
      → ((from to : ℕ) → holds from ≡ true → is_marked inside from ≡ true → Contains (list_at lists from) to
      → is_marked inside to ≡ true → holds to ≡ true)
      → (node : ℕ) → is_marked marks node ≡ true → holds node ≡ true
