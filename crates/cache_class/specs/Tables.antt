-- What is known of the lines of an unfolding, set by set of the cache, and where it is looked for. This project's own.
use Rattle.std.specs.Prelude.{◌≡◌, ◌+◌, ◌<◌, ◌≤◌, ℕ, List, length, slice_get, MatchOption, Option, Some}
use Rattle.wx_base.specs.declared.machine.Machine.{Machine}
use Rattle.wx_base.specs.declared.machine.Shape.{Shape}
use Rattle.wx_base.specs.Machine.{IsShape}
use Rattle.cache_flow.specs.declared.flow.Flow.{Flow}
use Rattle.cache_flow.specs.Flows.{IsFlow, accesses_of}
use Rattle.cache_kept.specs.declared.stretch.Stretch.{Stretch}
use Rattle.cache_kept.specs.Parts.{IsStretch}
use Rattle.cache_kept.specs.Ways.{AreWays}
use Rattle.cache_sets.specs.Sets.{IsSetFlow}
use Rattle.cache_sets.specs.Verdicts.{AreVerdicts}
use Rattle.flow_block.specs.declared.block.SlotKind.{SlotKind}
use Rattle.flow_block.specs.declared.block.SlotKind.TheVariants.{Fetch, Multiply, Data}
use Rattle.flow_ctx.specs.declared.scope.Scope.{Scope}
use Rattle.flow_ctx.specs.declared.scope.Scope.TheVariants.{Run, Loop}
use Rattle.flow_ctx.specs.declared.unfolded.UNode.{UNode}
use Rattle.flow_ctx.specs.declared.unfolded.Unfolded.{Unfolded}
use Rattle.flow_ctx.specs.Unfolding.{IsUnfolding, most_nodes}
use Rattle.cache_class.specs.declared.class.Class.{Class}
use Rattle.cache_class.specs.declared.class.Class.TheVariants.{Open}
use Rattle.cache_class.specs.declared.tables.SetTable.{SetTable}
use Rattle.cache_class.specs.declared.tables.Tables.{Tables}
use Rattle.cache_class.specs.Accesses.{slots_of, IsFlowOf, part_of}
use Rattle.cache_class.specs.Chains.{AreChainsOf}
use Rattle.cache_class.specs.Classes.{data_class, IsClass, IsOutside, IsKeptIn, AreNodeClasses}

-- what is known of the lines of a set
pub record IsSetTable (shape : Shape) (flow : Flow) (set : ℕ) (table : SetTable) : Type 0 where
  pub of : IsSetFlow shape set flow table.flow
  pub flows : IsFlow table.flow
  pub judged : AreVerdicts shape table.flow table.verdicts.items

-- of those of the first so many sets
pub record AreSetTables (shape : Shape) (flow : Flow) (count : ℕ) (tables : List SetTable) : Type 0 where
  pub long : length tables ≡ count
  pub each : (set : ℕ) (table : SetTable) → slice_get tables set ≡ Some table → IsSetTable shape flow set table

-- a scope ready for searches
pub record IsReady (u : Unfolded) (flow : Flow) (scope : Scope) (stretch : Stretch) : Type 0 where
  pub members : stretch.members.now ≡ (part_of u scope).members
  pub is : IsStretch (length flow.nodes) flow.moves stretch

-- the first so many loops ready for searches
pub record AreReady (u : Unfolded) (flow : Flow) (count : ℕ) (loops : List Stretch) : Type 0 where
  pub long : length loops ≡ count
  pub each : (number : ℕ) (stretch : Stretch) → slice_get loops number ≡ Some stretch → IsReady u flow (Loop number) stretch

-- what is known of the lines of an unfolding
pub record AreTables (tables : Tables) : Type 0 where
  pub whole : IsUnfolding tables.u.now.program tables.u.now
  pub few : length tables.u.now.nodes ≤ most_nodes
  pub form : IsShape tables.shape
  pub of : IsFlowOf tables.u.now tables.flow
  pub flows : IsFlow tables.flow
  pub each_set : AreSetTables tables.shape tables.flow tables.shape.sets tables.sets.items
  pub ways_are : AreWays (length tables.flow.nodes) tables.flow.moves tables.ways
  pub run_is : IsReady tables.u.now tables.flow Run tables.run
  pub loops_are : AreReady tables.u.now tables.flow (length tables.u.now.loops) tables.loops.items
  pub chains_are : AreChainsOf tables.u.now tables.chains

-- a node accesses the line behind so many other accesses
pub record IsAccess (flow : Flow) (node place line : ℕ) : Type 0 where
  pub inside : node < length flow.nodes
  pub stands : slice_get (accesses_of flow node) place ≡ Some line

-- Of a list of loops, the first in which the line is kept stands at the place; behind the end there is none.
pub record IsFirstKept (shape : Shape) (u : Unfolded) (flow : Flow) (node place line : ℕ) (chain : List ℕ) (found : ℕ) : Type 0 where
  pub within : found ≤ length chain
  pub before : (k number : ℕ) → k < found → slice_get chain k ≡ Some number → IsKeptIn shape u flow node place line (Loop number) → ⊥
  pub here : (number : ℕ) → slice_get chain found ≡ Some number → IsKeptIn shape u flow node place line (Loop number)

-- the outermost scope in which the line is kept
pub record IsOutermost (shape : Shape) (u : Unfolded) (flow : Flow) (node place line : ℕ) (scope : Scope) : Type 0 where
  pub is : IsKeptIn shape u flow node place line scope
  pub outermost : (outer : Scope) → IsOutside u outer scope → IsKeptIn shape u flow node place line outer → ⊥

-- that scope, if there is one
abbrev pub IsOutermostScope : Shape → Unfolded → Flow → ℕ → ℕ → ℕ → Option Scope → Type 0
IsOutermostScope shape u flow node place line found =
    MatchOption found ((scope : Scope) → IsKeptIn shape u flow node place line scope → ⊥) (IsOutermost shape u flow node place line)

-- the class of an event of a node, before which the node makes so many accesses
abbrev pub IsClassAt : Machine → Unfolded → Flow → ℕ → ℕ → SlotKind → Class → Type 0
IsClassAt machine u flow node place (Fetch line) class = IsClass machine.shape u flow node place line class
IsClassAt machine u flow node place Multiply class = class ≡ Open
IsClassAt machine u flow node place Data class = class ≡ data_class machine

-- how many accesses a node makes up to an event, which itself is one if it is a fetch
abbrev pub place_behind : ℕ → SlotKind → ℕ
place_behind place (Fetch line) = place + 1
place_behind place Multiply = place
place_behind place Data = place

-- the classes of the events of the first so many nodes
pub record AreClassesTo (machine : Machine) (u : Unfolded) (flow : Flow) (count : ℕ) (table : List (List Class)) : Type 0 where
  pub long : length table ≡ count
  pub each : (number : ℕ) (node : UNode) (classes : List Class) → slice_get u.nodes number ≡ Some node → slice_get table number ≡ Some classes
      → AreNodeClasses machine u flow number (slots_of u.program node) classes

-- the classes of the events of all nodes
pub record AreAllClasses (u : Unfolded) (machine : Machine) (table : List (List Class)) : Type 0 where
  pub flow : Flow
  pub of : IsFlowOf u flow
  pub classes : AreClassesTo machine u flow (length u.nodes) table
