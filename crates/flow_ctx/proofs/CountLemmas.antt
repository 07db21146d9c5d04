-- As many different nodes as are listed at most.
use Rattle.std.proofs.Common.{◌≡◌, ℕ, ◌<◌, ◌≤◌, Bool, true, false, ◌&&◌, List, length, get_or, refl, sym, ap, ◌∙◌, subst, inl, inr, arith, eqb}
use lib.Pointwise.{pointwise}
use Rattle.std.specs.Cmp.{IsEquivalence}
use Rattle.std.specs.List.{All, Any, Contains, list_any}
use Rattle.std.specs.Bool.{one_answer}
use Rattle.std.proofs.lemmas.List.Elements.{All-contains}
use Rattle.flow_ctx.specs.Nodes.{IsReached}
use Rattle.std.proofs.lemmas.List.Folds.{Any-from_list_any, list_any-from_Any}
use Rattle.std.proofs.lemmas.Map.Keys.{IsDistinct-from_apart}
use Rattle.std.proofs.lemmas.Map.Made.{length-le_from_is_member}
use Rattle.flow_graph.specs.declared.program.Program.{Program}
use Rattle.flow_ctx.specs.declared.unfolded.UNode.{UNode}
use Rattle.flow_ctx.specs.Found.{AreDifferent}
use Rattle.flow_ctx.specs.Unfolding.{AreNodes, HasTooManyNodes, most_nodes}
use Rattle.flow_ctx.proofs.PlaceLemmas.{both, call_test, chain_same, from_both, number_same, same_chain, same_number}

abbrev node_test : UNode → UNode → Bool
node_test n m = pointwise call_test n.chain m.chain && (eqb n.function m.function && eqb n.block m.block)

same_node : (n m : UNode) → node_test n m ≡ true → n ≡ m
same_node n m h =
    let b = both (pointwise call_test n.chain m.chain) (eqb n.function m.function && eqb n.block m.block) h in
    let c = both (eqb n.function m.function) (eqb n.block m.block) b.1 in
    let chain = same_chain n.chain m.chain b.0 in
    let function = same_number n.function m.function c.0 in
    let block = same_number n.block m.block c.1 in
    λ i. record { chain = chain i; function = function i; block = block i }

node_same : (n m : UNode) → n ≡ m → node_test n m ≡ true
node_same n m e = subst (λ (x : UNode). node_test n x ≡ true) e
    (from_both (pointwise call_test n.chain n.chain) (eqb n.function n.function && eqb n.block n.block) (chain_same n.chain)
    (from_both (eqb n.function n.function) (eqb n.block n.block) (number_same n.function n.function refl) (number_same n.block n.block refl)))

node_laws : IsEquivalence node_test
node_laws = record {
  refl = λ n. node_same n n refl;
  symm = λ n m. one_answer {P = n ≡ m} (node_test n m) (node_test m n) (same_node n m, node_same n m) (λ h. sym (same_node m n h), λ e. node_same m n (sym e));
  congr = λ n m k h. ap (λ (x : UNode). node_test x k) (same_node n m h);
}

pub not_too_many : (program : Program) (nodes : List UNode) → AreNodes program nodes → length nodes ≤ most_nodes → HasTooManyNodes program → ⊥
not_too_many program nodes are few h =
    let apart = IsDistinct-from_apart node_test h.nodes (λ i j d less within.
    by (node_test (get_or h.nodes i d) (get_or h.nodes j d)) (λ t. h.different i j d less within (same_node (get_or h.nodes i d) (get_or h.nodes j d) t))) in
    let le = length-le_from_is_member node_laws h.nodes nodes apart (λ q t.
    let a = Any-from_list_any (node_test q) h.nodes t in
    let e : q ≡ a.1 = same_node q a.1 a.4 in
    let r : IsReached program a.1 = All-contains (λ n. IsReached program n) h.nodes a.1 h.reached (a.0, a.2, a.3) in
    let c = are.whole a.1 r in
    list_any-from_Any (node_test q) nodes (c.0, a.1, c.1, c.2, node_same q a.1 e)) in
    omega (arith, h.many, le)
  where
    by : (b : Bool) → (b ≡ true → ⊥) → b ≡ false
    by true n = absurd (n refl)
    by false n = refl
