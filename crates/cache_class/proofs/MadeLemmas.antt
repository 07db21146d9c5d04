-- How the flow of an unfolding is made.
use Rattle.std.proofs.Common.{◌≡◌, ◌↔◌, ℕ, ◌+◌, ◌<◌, List, [], ◌∷◌, ◌++◌, length, get_or, map, take, slice_get, Some, refl, sym, ap, ◌∙◌, subst}
use Rattle.std.specs.List.{Any, Contains}
use Rattle.std.proofs.lemmas.List.{map_more}
use Rattle.std.proofs.lemmas.Option.{slice_get-get_or}
use Rattle.wx_base.specs.Facts.{AreAscending}
use Rattle.flow_block.specs.declared.block.Slot.{Slot}
use Rattle.flow_ctx.specs.declared.unfolded.UNode.{UNode}
use Rattle.flow_ctx.specs.declared.unfolded.Unfolded.{Unfolded}
use Rattle.cache_flow.specs.declared.flow.Move.{Move}
use Rattle.cache_class.specs.Accesses.{slots_of, lines_fetched, move_along, IsFlowOf}

-- the lines of one node more
pub nodes_more : (u : Unfolded) (i : ℕ) (old new : List (List ℕ)) (lines : List ℕ) (slots : List Slot) → i < length u.nodes
    → ((node : UNode) → slice_get u.nodes i ≡ Some node → slots ≡ slots_of u.program node) → lines ≡ lines_fetched slots
    → old ≡ map (λ node. lines_fetched (slots_of u.program node)) (take i u.nodes) → new ≡ old ++ lines ∷ []
    → new ≡ map (λ node. lines_fetched (slots_of u.program node)) (take (i + 1) u.nodes)
nodes_more u i old new lines slots h told fetched so more =
    let none : UNode = record { chain = []; function = 0; block = 0 } in
    let accessed : UNode → List ℕ = λ node. lines_fetched (slots_of u.program node) in
    let node : lines ≡ accessed (get_or u.nodes i none) = fetched ∙ ap lines_fetched (told (get_or u.nodes i none) (slice_get-get_or u.nodes i none h)) in
    more ∙ (λ k. so k ++ node k ∷ []) ∙ sym (map_more accessed u.nodes i none h)

-- what is put together is the flow
pub is_flow : (u : Unfolded) (nodes given : List (List ℕ)) (moves : List Move) (lines listed : List ℕ)
    → nodes ≡ map (λ node. lines_fetched (slots_of u.program node)) u.nodes → given ≡ nodes → moves ≡ map move_along u.edges → lines ≡ listed
    → AreAscending listed → ((line : ℕ) → Contains listed line ↔ Any (λ accesses. Contains accesses line) given)
    → IsFlowOf u (record { start = u.start; nodes = nodes; moves = moves; lines = lines })
is_flow u nodes given moves lines listed are same moved list ascending exact = record {
  start = refl;
  nodes = are;
  moves = moved;
  ascending = subst AreAscending (sym list) ascending;
  lines = λ line. subst (λ (xs : List ℕ). Contains xs line ↔ Any (λ accesses. Contains accesses line) nodes) (sym list)
      (subst (λ (ns : List (List ℕ)). Contains listed line ↔ Any (λ accesses. Contains accesses line) ns) same (exact line));
}
