-- The events of a node are those of its block.
use Rattle.std.proofs.Common.{◌≡◌, ℕ, List, [], slice_get, Some, sym, ap, ◌∙◌}
use Rattle.std.specs.Option.{option_map_or}
use Rattle.std.proofs.lemmas.Option.{same_Some}
use Rattle.flow_block.specs.declared.block.Block.{Block}
use Rattle.flow_block.specs.declared.block.Slot.{Slot}
use Rattle.flow_graph.specs.declared.program.Function.{Function}
use Rattle.flow_ctx.specs.declared.unfolded.UNode.{UNode}
use Rattle.flow_ctx.specs.declared.unfolded.Unfolded.{Unfolded}
use Rattle.flow_ctx.specs.Nodes.{IsBlockOf}
use Rattle.cache_class.specs.Accesses.{slots_of}

-- the events of the node's block
pub slots_are : (u : Unfolded) (number : ℕ) (block : Block) (node : UNode) → IsBlockOf u number block → slice_get u.nodes number ≡ Some node → block.slots ≡ slots_of u.program node
slots_are u number block node is stands =
    let e : is.node ≡ node = same_Some is.node node (sym is.stands ∙ stands) in
    let slots : Function → List Slot = λ f. option_map_or (λ b. b.slots) (slice_get f.blocks is.node.block) [] in
    let inner : slots is.function ≡ block.slots = ap (λ o. option_map_or (λ b. b.slots) o []) is.block_stands in
    let outer : slots_of u.program is.node ≡ slots is.function = ap (λ o. option_map_or slots o []) is.function_stands in
    sym (outer ∙ inner) ∙ ap (slots_of u.program) e
