-- The accesses of a flow to one set of a cache. This project's own; that sets do not touch one another is usual of such caches.
use Rattle.std.specs.Prelude.{◌≡◌, ◌↔◌, ℕ, Bool, true, ◌==◌, List, length, map, take}
use Rattle.std.specs.List.{filter}
use Rattle.wx_base.specs.declared.machine.Shape.{Shape}
use Rattle.wx_base.specs.Cache.{set_of}
use Rattle.cache_flow.specs.declared.flow.Flow.{Flow}
use Rattle.cache_flow.specs.Flows.{Part, accesses_of}
use Rattle.cache_flow.specs.Shown.{IsHeld, IsBarred, IsKept}

-- the line belongs to the set
abbrev pub is_in_set : Shape → ℕ → ℕ → Bool
is_in_set shape set line = set_of shape line == set

-- those of some lines that do
abbrev pub of_set : Shape → ℕ → List ℕ → List ℕ
of_set shape set lines = filter (is_in_set shape set) lines

-- one flow is the other with the accesses to the set alone
pub record IsSetFlow (shape : Shape) (set : ℕ) (flow narrow : Flow) : Type 0 where
  pub start : narrow.start ≡ flow.start
  pub nodes : narrow.nodes ≡ map (of_set shape set) flow.nodes
  pub moves : narrow.moves ≡ flow.moves
  pub lines : narrow.lines ≡ of_set shape set flow.lines

-- how many accesses to the set stand before a place of a node
abbrev pub place_in_set : Shape → ℕ → Flow → ℕ → ℕ → ℕ
place_in_set shape set flow node place = length (of_set shape set (take place (accesses_of flow node)))

-- What is told of a line of the set at an access is told by the accesses to the set alone.
abbrev pub SetsTellHeld : Type 0
SetsTellHeld = (shape : Shape) (set : ℕ) (flow narrow : Flow) (node place line : ℕ) → IsSetFlow shape set flow narrow
    → is_in_set shape set line ≡ true
    → IsHeld shape flow node place line ↔ IsHeld shape narrow node (place_in_set shape set flow node place) line

abbrev pub SetsTellBarred : Type 0
SetsTellBarred = (shape : Shape) (set : ℕ) (flow narrow : Flow) (node place line : ℕ) → IsSetFlow shape set flow narrow
    → is_in_set shape set line ≡ true
    → IsBarred shape flow node place line ↔ IsBarred shape narrow node (place_in_set shape set flow node place) line

abbrev pub SetsTellKept : Type 0
SetsTellKept = (shape : Shape) (set : ℕ) (flow narrow : Flow) (part : Part) (node place line : ℕ) → IsSetFlow shape set flow narrow
    → is_in_set shape set line ≡ true
    → IsKept shape flow part node place line ↔ IsKept shape narrow part node (place_in_set shape set flow node place) line
