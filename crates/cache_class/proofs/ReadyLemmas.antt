-- Scopes ready for searches.
use Rattle.std.proofs.Common.{◌≡◌, ℕ, zero-add, ◌+◌, ◌<◌, List, [], ◌∷◌, ◌++◌, length, slice_get, Some, sym, ap, ◌∙◌, subst, arith}
use Rattle.std.specs.List.{Contains, range_with_len}
use Rattle.std.proofs.lemmas.List.{length-append, length-map, map-id}
use Rattle.std.proofs.lemmas.List.FromFn.{map-range_with_len_more}
use Rattle.std.proofs.lemmas.Option.{get_or_from_slice_get, slice_get_within}
use Rattle.wx_base.specs.declared.machine.Shape.{Shape}
use Rattle.cache_flow.specs.declared.flow.Flow.{Flow}
use Rattle.cache_flow.specs.Flows.{Part}
use Rattle.cache_kept.specs.declared.stretch.Stretch.{Stretch}
use Rattle.cache_kept.specs.Parts.{IsStretch}
use Rattle.cache_kept.specs.Walk.{AreNodes}
use Rattle.flow_ctx.specs.declared.scope.Scope.TheVariants.{Loop}
use Rattle.flow_ctx.specs.declared.unfolded.ULoop.{ULoop}
use Rattle.flow_ctx.specs.declared.unfolded.Unfolded.{Unfolded}
use Rattle.flow_ctx.specs.Unfolding.{IsUnfolding, IsLoop}
use Rattle.cache_class.specs.declared.tables.SetTable.{SetTable}
use Rattle.cache_class.specs.Accesses.{lines_fetched, slots_of, IsFlowOf}
use Rattle.cache_class.specs.Tables.{AreReady, AreSetTables, IsReady, IsSetTable}
use Rattle.cache_class.proofs.OrderLemmas.{members_within}
use Rattle.cache_class.proofs.TableLemmas.{each_more, loop_part, range_within}

pub as_many_nodes : (u : Unfolded) (flow : Flow) → IsFlowOf u flow → length flow.nodes ≡ length u.nodes
as_many_nodes u flow of = ap length of.nodes ∙ length-map u.nodes (λ n. lines_fetched (slots_of u.program n))

pub run_nodes : (u : Unfolded) (flow : Flow) (nodes : List ℕ) → IsFlowOf u flow → nodes ≡ range_with_len 0 (length u.nodes) → AreNodes (length flow.nodes) nodes
run_nodes u flow nodes of is = record {
  within = λ node c. omega (arith, as_many_nodes u flow of, range_within (length u.nodes) node (subst (λ (ns : List ℕ). Contains ns node) is c));
}

module _ (u : Unfolded) (flow : Flow) (of : IsFlowOf u flow) (whole : IsUnfolding u.program u) (number : ℕ) (l : ULoop) (at : slice_get u.loops number ≡ Some l) where
  pub loop_nodes : (members : List ℕ) → members ≡ l.members → AreNodes (length flow.nodes) members
  loop_nodes members is = record {
    within = λ node c. omega (arith, as_many_nodes u flow of, members_within u whole number l at node (subst (λ (ns : List ℕ). Contains ns node) is c));
  }

  pub loop_head : l.head < length flow.nodes
  loop_head =
      let loops = subst (λ (x : ULoop). IsLoop u.program u.nodes u.edges x) (get_or_from_slice_get u.loops number l l at) (whole.loops.each number l (slice_get_within u.loops number l at)) in
      omega (arith, as_many_nodes u flow of, slice_get_within u.nodes l.head loops.node loops.stands)

  pub loop_ready : (stretch : Stretch) (members : List ℕ) → members ≡ l.members → stretch.members.now ≡ members → IsStretch (length flow.nodes) flow.moves stretch
      → IsReady u flow (Loop number) stretch
  loop_ready stretch members is same ready = record { members = same ∙ is ∙ ap (λ (p : Part). p.members) (sym (loop_part u number l at)); is = ready }

pub ready_more : (u : Unfolded) (flow : Flow) (count : ℕ) (loops : List Stretch) (stretch : Stretch) → AreReady u flow count loops → IsReady u flow (Loop count) stretch
    → AreReady u flow (count + 1) (loops ++ stretch ∷ [])
ready_more u flow count loops stretch so next = record {
  long = omega (arith, length-append loops (stretch ∷ []), so.long);
  each = each_more (λ number s. IsReady u flow (Loop number) s) loops stretch count so.long so.each next;
}

pub sets_more : (shape : Shape) (flow : Flow) (count : ℕ) (tables : List SetTable) (table : SetTable) → AreSetTables shape flow count tables → IsSetTable shape flow count table
    → AreSetTables shape flow (count + 1) (tables ++ table ∷ [])
sets_more shape flow count tables table so next = record {
  long = omega (arith, length-append tables (table ∷ []), so.long);
  each = each_more (λ set t. IsSetTable shape flow set t) tables table count so.long so.each next;
}

-- numbers, one more
pub range_more : (n : ℕ) → range_with_len 0 (n + 1) ≡ range_with_len 0 n ++ n ∷ []
range_more n = sym (map-id (range_with_len 0 (n + 1))) ∙ map-range_with_len_more (λ k. k) 0 n n (zero-add n) ∙ ap (λ xs. xs ++ n ∷ []) (map-id (range_with_len 0 n))
