-- The visits that a run pays to the nodes of an unfolding, with the outcomes of their events. This project's own.
use Rattle.std.specs.Prelude.{◌≡◌, ℕ, ◌+◌, ◌-◌, ◌≤◌, Bool, true, false, ◌==◌, ◌&&◌, if◌then◌else◌, List, [], ◌∷◌, ◌++◌, map, reverse, take, length, sum_by, slice_get, slice_index_or, Some}
use Rattle.wx_base.specs.Run.{Executed}
use Rattle.xdd_table.specs.Diagram.{Combination}
use Rattle.flow_block.specs.declared.block.Block.{Block}
use Rattle.flow_block.specs.declared.block.Slot.{Slot}
use Rattle.flow_block.specs.declared.block.SlotKind.{SlotKind}
use Rattle.flow_block.specs.declared.block.SlotKind.TheVariants.{Fetch, Multiply, Data}
use Rattle.flow_ctx.specs.declared.scope.Scope.{Scope}
use Rattle.flow_ctx.specs.declared.scope.Scope.TheVariants.{Run, Loop}
use Rattle.flow_ctx.specs.declared.unfolded.Edge.{Edge}
use Rattle.flow_ctx.specs.declared.unfolded.ULoop.{ULoop}
use Rattle.flow_ctx.specs.declared.unfolded.Unfolded.{Unfolded}
use Rattle.flow_ctx.specs.Nodes.{IsBlockOf}
use Rattle.flow_ctx.specs.Stays.{StaysIn, Takes}
use Rattle.pipe_block.specs.Events.{entries_of}
use Rattle.time_laws.specs.Stretches.{Stretch, jumping, executed_in}
use Rattle.cache_class.specs.declared.class.Class.{Class}
use Rattle.cache_class.specs.declared.class.Class.TheVariants.{AlwaysHit, AlwaysMiss, FirstMiss, Open}
use Rattle.cache_class.specs.declared.class.Classes.{Classes}
use Rattle.cache_class.specs.Allowed.{IsAllowed}

-- A visit of a node: its number and its block, the outcomes of the block's events, and whether the last instruction
-- jumps.
pub record Visit : Type 0 where
  pub node : ℕ
  pub block : Block
  pub outcomes : Combination
  pub taken : Bool

-- the instructions of a visit
abbrev pub stretch_of : Visit → Stretch
stretch_of visit = record { entries = entries_of visit.block visit.outcomes; taken = visit.taken }

-- the block is the node's, and its outcomes are allowed by the classes of its events
pub record IsVisit (u : Unfolded) (classes : Classes) (visit : Visit) : Type 0 where
  pub is : IsBlockOf u visit.node visit.block
  pub kinds : List Class
  pub classed : slice_get classes.slots visit.node ≡ Some kinds
  pub allowed : IsAllowed kinds visit.outcomes

-- Visits along a walk that leads to a node, the last one first: one of each node that an edge of the walk leaves, which
-- jumps exactly if the edge is a taken one.
pub data AreVisits (u : Unfolded) (classes : Classes) : List Visit → List ℕ → ℕ → Type 0 where
  none : AreVisits u classes [] [] u.start
  one : (visits : List Visit) (walk : List ℕ) (number : ℕ) (edge : Edge) (visit : Visit)
      → AreVisits u classes visits walk edge.from → slice_get u.edges number ≡ Some edge → visit.node ≡ edge.from
      → visit.taken ≡ edge.taken → IsVisit u classes visit → AreVisits u classes (visit ∷ visits) (number ∷ walk) edge.to

-- two scopes are one
abbrev pub is_scope : Scope → Scope → Bool
is_scope Run Run = true
is_scope Run (Loop m) = false
is_scope (Loop n) Run = false
is_scope (Loop n) (Loop m) = n == m

-- a class says that a miss is the first in a scope
abbrev pub is_first_in : Class → Scope → Bool
is_first_in AlwaysHit scope = false
is_first_in AlwaysMiss scope = false
is_first_in (FirstMiss other) scope = is_scope other scope
is_first_in Open scope = false

-- an event of a class is one of the group with a line and a scope
abbrev pub is_of_group : SlotKind → Class → ℕ → Scope → Bool
is_of_group (Fetch other) class line scope = (other == line) && is_first_in class scope
is_of_group Multiply class line scope = false
is_of_group Data class line scope = false

-- how many events of a group miss at a combination, where events and their classes are numbered on from a number
abbrev pub misses_from : ℕ → Scope → Combination → ℕ → List Slot → List Class → ℕ
misses_from line scope f number [] classes = 0
misses_from line scope f number (event ∷ events) [] = 0
misses_from line scope f number (event ∷ events) (class ∷ classes) =
    (if f number && is_of_group event.kind class line scope then 1 else 0)
    + misses_from line scope f (number + 1) events classes

-- how many events of a group miss in a visit
abbrev pub visit_misses : Classes → ℕ → Scope → Visit → ℕ
visit_misses classes line scope visit =
    misses_from line scope visit.outcomes 0 visit.block.slots (slice_index_or classes.slots visit.node [])

-- the same in several
abbrev pub misses_in : Classes → ℕ → Scope → List Visit → ℕ
misses_in classes line scope visits = sum_by (λ visit. visit_misses classes line scope visit) visits

-- What was executed are the instructions of visits along the walk, and of one more visit, of the node that the walk
-- leads to, so many instructions from its begin on. In a stay of a scope the events of a group miss once at most; so they
-- do in the whole run if that is the scope, and if it is a loop, once at most for each time that the walk enters it, and
-- for a start at its head.
pub record IsVisiting (u : Unfolded) (classes : Classes) (executed : List Executed) (walk : List ℕ) (node index : ℕ)
    : Type 0 where
  pub visits : List Visit
  pub last : Visit
  pub along : AreVisits u classes visits walk node
  pub here : last.node ≡ node
  pub at : IsVisit u classes last
  pub short : index ≤ length last.block.insns
  pub are : map (λ e. e.done.entry) executed
      ≡ jumping last.taken (reverse (take index (entries_of last.block last.outcomes)))
      ++ executed_in (map stretch_of visits)
  pub stays : (scope : Scope) (line : ℕ) (since : List ℕ) → StaysIn u scope walk since
      → misses_in classes line scope (last ∷ take (length walk - length since) visits) ≤ 1
  pub whole : (line : ℕ) → misses_in classes line Run (last ∷ visits) ≤ 1
  pub loops : (number line count : ℕ) (l : ULoop) → slice_get u.loops number ≡ Some l → Takes l.entries walk count
      → misses_in classes line (Loop number) (last ∷ visits) ≤ count + (if u.start == l.head then 1 else 0)
