-- The classes of events: what solutions over an unfolding tell of each fetch, and the machine's regions of each access to data. This
-- project's own; must and may are those of textbooks on cache analysis.
--
-- What is told of a fetch is what the states of some solution show at it. There need not be one solution that shows all of it. It is the same as
-- what the least solutions show, where they are known, since each solution covers the least one.
use Rattle.std.specs.Prelude.{◌≡◌, ◌<◌, ◌⊎◌, ℕ, Bool, true, false, if◌then◌else◌, List, length, take, Contains, slice_get, Some}
use Rattle.std.specs.List.{list_any}
use Rattle.wx_base.specs.declared.machine.Machine.{Machine}
use Rattle.wx_base.specs.declared.machine.Shape.{Shape}
use Rattle.flow_block.specs.declared.block.Slot.{Slot}
use Rattle.flow_block.specs.declared.block.SlotKind.{SlotKind}
use Rattle.flow_block.specs.declared.block.SlotKind.TheVariants.{Fetch, Multiply, Data}
use Rattle.flow_ctx.specs.declared.scope.Scope.{Scope}
use Rattle.flow_ctx.specs.declared.scope.Scope.TheVariants.{Run, Loop}
use Rattle.flow_ctx.specs.declared.unfolded.UNode.{UNode}
use Rattle.flow_ctx.specs.declared.unfolded.Unfolded.{Unfolded}
use Rattle.cache_flow.specs.declared.flow.Flow.{Flow}
use Rattle.cache_flow.specs.Shown.{IsHeld, IsBarred, IsKept}
use Rattle.cache_class.specs.declared.class.Class.{Class}
use Rattle.cache_class.specs.declared.class.Class.TheVariants.{AlwaysHit, AlwaysMiss, FirstMiss, Open}
use Rattle.cache_class.specs.declared.class.Classes.{Classes}
use Rattle.cache_class.specs.Accesses.{slots_of, lines_fetched, IsFlowOf, part_of}

-- how many nodes a scope has
abbrev pub size_of : Unfolded → Scope → ℕ
size_of u scope = length (part_of u scope).members

-- One scope is outside another: the run is outside each loop, and of two loops the one with more nodes. Where loops share a node
-- one lies inside the other; of any two with as many nodes the one with the lower number counts as outside.
abbrev pub IsOutside : Unfolded → Scope → Scope → Type 0
IsOutside u Run Run = ⊥
IsOutside u Run (Loop number) = Unit {0}
IsOutside u (Loop number) Run = ⊥
IsOutside u (Loop number) (Loop other) =
    (size_of u (Loop other) < size_of u (Loop number))
    ⊎ ((size_of u (Loop number) ≡ size_of u (Loop other)) × (number < other))

-- a scope has the node, and the line is kept there in a stay of the scope
pub record IsKeptIn (shape : Shape) (u : Unfolded) (flow : Flow) (node place line : ℕ) (scope : Scope) : Type 0 where
  pub member : Contains (part_of u scope).members node
  pub kept : IsKept shape flow (part_of u scope) node place line

-- The class of a node's access to a line: it always hits if the line is held for sure; else it always misses if the line cannot
-- be there; else it is a first miss in the outermost scope in which the line is kept; else nothing is known.
pub data IsClass (shape : Shape) (u : Unfolded) (flow : Flow) (node place line : ℕ) : Class → Type 0 where
  hits : IsHeld shape flow node place line → IsClass shape u flow node place line AlwaysHit
  misses : (IsHeld shape flow node place line → ⊥) → IsBarred shape flow node place line → IsClass shape u flow node place line AlwaysMiss
  first : (scope : Scope) → (IsHeld shape flow node place line → ⊥) → (IsBarred shape flow node place line → ⊥)
      → IsKeptIn shape u flow node place line scope
      → ((outer : Scope) → IsOutside u outer scope → IsKeptIn shape u flow node place line outer → ⊥)
      → IsClass shape u flow node place line (FirstMiss scope)
  opens : (IsHeld shape flow node place line → ⊥) → (IsBarred shape flow node place line → ⊥)
      → ((scope : Scope) → IsKeptIn shape u flow node place line scope → ⊥)
      → IsClass shape u flow node place line Open

-- the class of accesses to data: without a slow region they are fast
abbrev pub data_class : Machine → Class
data_class machine = if list_any (λ region. region.slow) machine.regions then Open else AlwaysHit

-- the class of the event with a number among the events of a node; a fetch is the access behind those of the earlier fetches
abbrev pub IsKindClass : Machine → Unfolded → Flow → ℕ → List Slot → ℕ → SlotKind → Class → Type 0
IsKindClass machine u flow node slots number (Fetch line) class =
    IsClass machine.shape u flow node (length (lines_fetched (take number slots))) line class
IsKindClass machine u flow node slots number Multiply class = class ≡ Open
IsKindClass machine u flow node slots number Data class = class ≡ data_class machine

abbrev pub IsEventClass : Machine → Unfolded → Flow → ℕ → List Slot → ℕ → Slot → Class → Type 0
IsEventClass machine u flow node slots number slot class = IsKindClass machine u flow node slots number slot.kind class

-- one class for each event of a node
pub record AreNodeClasses (machine : Machine) (u : Unfolded) (flow : Flow) (node : ℕ) (slots : List Slot) (classes : List Class) : Type 0 where
  pub long : length classes ≡ length slots
  pub each : (number : ℕ) (slot : Slot) (class : Class) → slice_get slots number ≡ Some slot → slice_get classes number ≡ Some class
      → IsEventClass machine u flow node slots number slot class

-- the classes of all events of an unfolding, node by node
pub record AreClasses (u : Unfolded) (machine : Machine) (table : Classes) : Type 0 where
  pub flow : Flow
  pub of : IsFlowOf u flow
  pub long : length table.slots ≡ length u.nodes
  pub each : (number : ℕ) (node : UNode) (classes : List Class) → slice_get u.nodes number ≡ Some node
      → slice_get table.slots number ≡ Some classes
      → AreNodeClasses machine u flow number (slots_of u.program node) classes
