-- What the nodes of an unfolding do to the instruction cache, as a flow on plain numbers, and the scopes in which stays are
-- looked at. This project's own.
use Rattle.std.specs.Prelude.{◌≡◌, ◌↔◌, ℕ, List, [], length, map, filter_map, Any, Contains, slice_get, Option, Some, None}
use Rattle.std.specs.List.{range_with_len}
use Rattle.std.specs.Option.{option_map_or}
use Rattle.wx_base.specs.Facts.{AreAscending}
use Rattle.flow_block.specs.declared.block.Slot.{Slot}
use Rattle.flow_block.specs.declared.block.SlotKind.{SlotKind}
use Rattle.flow_block.specs.declared.block.SlotKind.TheVariants.{Fetch, Multiply, Data}
use Rattle.flow_graph.specs.declared.program.Program.{Program}
use Rattle.flow_ctx.specs.declared.scope.Scope.{Scope}
use Rattle.flow_ctx.specs.declared.scope.Scope.TheVariants.{Run, Loop}
use Rattle.flow_ctx.specs.declared.unfolded.Edge.{Edge}
use Rattle.flow_ctx.specs.declared.unfolded.UNode.{UNode}
use Rattle.flow_ctx.specs.declared.unfolded.Unfolded.{Unfolded}
use Rattle.cache_flow.specs.declared.flow.Flow.{Flow}
use Rattle.cache_flow.specs.declared.flow.Move.{Move}
use Rattle.cache_flow.specs.Flows.{Part}

-- the event slots of a node's block
abbrev pub slots_of : Program → UNode → List Slot
slots_of program node =
    option_map_or (λ function. option_map_or (λ block. block.slots) (slice_get function.blocks node.block) [])
    (slice_get program.functions node.function) []

-- the line that an event fetches, if it is a fetch
abbrev pub fetched_by : SlotKind → Option ℕ
fetched_by (Fetch line) = Some line
fetched_by Multiply = None
fetched_by Data = None

abbrev pub fetched : Slot → Option ℕ
fetched slot = fetched_by slot.kind

-- the lines that some events fetch, in their order
abbrev pub lines_fetched : List Slot → List ℕ
lines_fetched slots = filter_map fetched slots

-- an edge as a move
abbrev pub move_along : Edge → Move
move_along edge = record { from = edge.from; to = edge.to }

-- the flow of an unfolding: its nodes access the lines that their blocks fetch, and its lines are those that are accessed
pub record IsFlowOf (u : Unfolded) (flow : Flow) : Type 0 where
  pub start : flow.start ≡ u.start
  pub nodes : flow.nodes ≡ map (λ node. lines_fetched (slots_of u.program node)) u.nodes
  pub moves : flow.moves ≡ map move_along u.edges
  pub ascending : AreAscending flow.lines
  pub lines : (line : ℕ) → Contains flow.lines line ↔ Any (λ accesses. Contains accesses line) flow.nodes

-- a scope as a part of the flow: the whole run, which begins at the start, or a loop
abbrev pub part_of : Unfolded → Scope → Part
part_of u Run = record { head = u.start; members = range_with_len 0 (length u.nodes) }
part_of u (Loop number) =
    option_map_or (λ l. record { head = l.head; members = l.members }) (slice_get u.loops number) (record { head = 0; members = [] })
