-- The flow of an unfolding along visits: which lines a node accesses, and how a run comes to it.
use Rattle.std.proofs.Common.{◌≡◌, ℕ, List, [], ◌++◌, length, map, take, drop, slice_get, refl, sym, ap, subst, ◌∙◌}
use Rattle.std.specs.Prelude.{Contains, Option, Some, filter_map, slice_index_or}
use Rattle.std.specs.Option.{option_map, option_map_or}
use Rattle.std.proofs.lemmas.List.{take-append-drop}
use Rattle.std.proofs.lemmas.List.Elements.{filter_map-append}
use Rattle.std.proofs.lemmas.Option.{get_or_from_slice_get, slice_get-map}
use Rattle.wx_base.specs.declared.machine.Machine.{Machine}
use Rattle.wx_base.specs.Cache.{Lines}
use Rattle.flow_block.specs.declared.block.Block.{Block}
use Rattle.flow_graph.specs.declared.program.Function.{Function}
use Rattle.flow_ctx.specs.declared.unfolded.Edge.{Edge}
use Rattle.flow_ctx.specs.declared.unfolded.UNode.{UNode}
use Rattle.flow_ctx.specs.declared.unfolded.Unfolded.{Unfolded}
use Rattle.flow_ctx.specs.Nodes.{IsBlockOf}
use Rattle.cache_pers.specs.Stays.{cache_along}
use Rattle.cache_flow.specs.declared.flow.Flow.{Flow}
use Rattle.cache_flow.specs.declared.flow.Move.{Move}
use Rattle.cache_flow.specs.Flows.{Comes, accesses_of}
use Rattle.cache_flow.specs.Flows.Comes.{starts, goes}
use Rattle.cache_class.specs.Accesses.{slots_of, fetched, lines_fetched, move_along, IsFlowOf}
use Rattle.class_laws.specs.Visits.{Visit}
use Rattle.class_laws.proofs.Caches.{cache_append}
use Rattle.class_laws.proofs.Lists.{listed, take_seam}
use Rattle.class_laws.proofs.Visited.{AreVisited}
use Rattle.class_laws.proofs.Visited.AreVisited.{none, one}

module _ {X Y : Type 0} (h : X → Option Y) where
  -- what the first elements give stands in front of what all give
  pub given_first : (xs : List X) (n : ℕ) → take (length (filter_map h (take n xs))) (filter_map h xs) ≡ filter_map h (take n xs)
  given_first xs n =
      ap (take (length (filter_map h (take n xs)))) (ap (filter_map h) (sym (take-append-drop n xs)) ∙ filter_map-append h (take n xs) (drop n xs))
      ∙ take_seam (filter_map h (take n xs)) (filter_map h (drop n xs))

module _ (u : Unfolded) (flow : Flow) (of : IsFlowOf u flow) where
  -- the events of a node are those of its block
  pub slots_are : (node : ℕ) (block : Block) → (is : IsBlockOf u node block) → slots_of u.program is.node ≡ block.slots
  slots_are node block is =
      ap (λ (o : Option Function). option_map_or (λ f. option_map_or (λ b. b.slots) (slice_get f.blocks is.node.block) []) o []) is.function_stands
      ∙ ap (λ (o : Option Block). option_map_or (λ b. b.slots) o []) is.block_stands

  pub accesses_are : (node : ℕ) (block : Block) → IsBlockOf u node block → accesses_of flow node ≡ lines_fetched block.slots
  accesses_are node block is =
      let lines : UNode → List ℕ = λ n. lines_fetched (slots_of u.program n) in
      ap (λ ns. slice_index_or ns node []) of.nodes
      ∙ get_or_from_slice_get (map lines u.nodes) node (lines is.node) [] (slice_get-map lines u.nodes node ∙ ap (option_map lines) is.stands)
      ∙ ap lines_fetched (slots_are node block is)

  -- the accesses of a node before the event with a number
  pub accesses_before : (node : ℕ) (block : Block) (number : ℕ) → IsBlockOf u node block
      → take (length (lines_fetched (take number block.slots))) (accesses_of flow node) ≡ lines_fetched (take number block.slots)
  accesses_before node block number is =
      ap (take (length (lines_fetched (take number block.slots)))) (accesses_are node block is) ∙ given_first fetched block.slots number

  pub move_listed : (number : ℕ) (edge : Edge) → slice_get u.edges number ≡ Some edge → Contains flow.moves (move_along edge)
  move_listed number edge e =
      subst (λ (ms : List Move). Contains ms (move_along edge)) (sym of.moves)
      (listed (map move_along u.edges) number (move_along edge) (slice_get-map move_along u.edges number ∙ ap (option_map move_along) e))

  module _ (machine : Machine) (first : Lines) where
    -- a run comes to the node with this cache
    pub record HasCome (node : ℕ) (cache : Lines) : Type 0 where
      pub accesses : List ℕ
      pub comes : Comes flow node accesses
      pub is : cache ≡ cache_along machine.shape first accesses

    pub has_come : (visits : List Visit) (walk : List ℕ) (node : ℕ) (cache : Lines) → AreVisited u machine first visits walk node cache → HasCome node cache
    has_come visits walk node cache none = record { accesses = []; comes = subst (λ k. Comes flow k []) of.start starts; is = refl }
    has_come visits walk node cache (one before w number edge visit c so_far stands taken is) =
        let there = has_come before w edge.from c so_far in
        let block : IsBlockOf u edge.from visit.block = is.is in
        let more = goes (move_along edge) there.accesses (move_listed number edge stands) there.comes in
        record {
          accesses = there.accesses ++ lines_fetched visit.block.slots;
          comes = subst (λ xs. Comes flow edge.to (there.accesses ++ xs)) (accesses_are edge.from visit.block block) more;
          is = ap (λ (l : Lines). cache_along machine.shape l (lines_fetched visit.block.slots)) there.is
              ∙ sym (cache_append machine.shape first there.accesses (lines_fetched visit.block.slots));
        }
