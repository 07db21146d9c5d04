-- The nodes that are reached, in their order, where there are not too many of them.
use Rattle.std.proofs.Common.{◌≡◌, ◌⊎◌, inl, inr, ⊎_elim, ℕ, zero, suc, ◌+◌, ◌<◌, ◌≤◌, List, [], length, refl, sym, subst, arith}
use Rattle.std.specs.List.{All, AllPairs, Contains}
use Rattle.std.proofs.lemmas.Bool.{cases_lt}
use Rattle.std.proofs.lemmas.List.Elements.{All-contains, All-nil}
use Rattle.flow_graph.specs.declared.program.Program.{Program}
use Rattle.flow_ctx.specs.declared.unfolded.UNode.{UNode}
use Rattle.flow_ctx.specs.Laws.{IsBuilt}
use Rattle.flow_ctx.specs.Nodes.{IsReached}
use Rattle.flow_ctx.specs.Order.{IsChainBefore, IsNodeBefore}
use Rattle.flow_ctx.specs.Unfolding.{AreNodes, HasTooManyNodes, most_nodes}
use Rattle.unfolding_laws.proofs.Built.{same_function}
use Rattle.unfolding_laws.proofs.Insertion.{Inserted, all_of, inserted}
use Rattle.unfolding_laws.proofs.Order.{chain_told, node_apart, node_through}

-- so many nodes that are reached, in their order
record AreReached (program : Program) (count : ℕ) (nodes : List UNode) : Type 0 where
  ascending : AllPairs IsNodeBefore nodes
  reached : All (λ n. IsReached program n) nodes
  long : length nodes ≡ count

module _ (program : Program) (built : IsBuilt program) where
  -- of two nodes that are reached one is before the other, or they are one
  node_told : (n m : UNode) → IsReached program n → IsReached program m → IsNodeBefore n m ⊎ ((n ≡ m) ⊎ IsNodeBefore m n)
  node_told n m p q = by (chain_told n.chain m.chain)
    where
      alike : n.chain ≡ m.chain → n.block ≡ m.block → n ≡ m
      alike chain block = let function = same_function program built n m p q chain in λ i. record { chain = chain i; function = function i; block = block i }

      by : IsChainBefore n.chain m.chain ⊎ ((n.chain ≡ m.chain) ⊎ IsChainBefore m.chain n.chain) → IsNodeBefore n m ⊎ ((n ≡ m) ⊎ IsNodeBefore m n)
      by (inl less) = inl (inl less)
      by (inr (inr more)) = inr (inr (inl more))
      by (inr (inl chain)) =
          ⊎_elim (λ (less : n.block < m.block). inl (inr (chain, less)))
          (λ (above : m.block ≤ n.block).
          ⊎_elim (λ (more : m.block < n.block). inr (inr (inr (sym chain, more))))
          (λ (below : n.block ≤ m.block). inr (inl (alike chain (omega (arith, above, below)))))
          (cases_lt m.block n.block))
          (cases_lt n.block m.block)

  module _ (stop : (nodes : List UNode) → AreNodes program nodes → length nodes ≤ most_nodes → ⊥) where
    -- where the nodes are not all there is one more
    reached : (count : ℕ) → count ≤ most_nodes + 1 → ((nodes : List UNode) → AreReached program count nodes → ⊥) → ⊥
    reached zero few go =
        go [] (record { ascending = λ i j d less within. absurd (omega (arith, within)); reached = All-nil (λ n. IsReached program n); long = refl })
    reached (suc count) few go = reached count (omega (arith, few)) (λ nodes are. stop nodes (whole nodes are) (omega (arith, are.long, few)))
      where
        more : (nodes : List UNode) → AreReached program count nodes → (node : UNode) → IsReached program node → Inserted IsNodeBefore node_through node nodes → ⊥
        more nodes are node r put =
            go put.list
            (record {
              ascending = put.ascending;
              reached = all_of (λ n. IsReached program n) put.list
                  (λ n c. ⊎_elim (λ e. subst (λ (m : UNode). IsReached program m) (sym e) r) (λ k. All-contains (λ n. IsReached program n) nodes n are.reached k) (put.among n c));
              long = omega (arith, put.longer, are.long);
            })

        there : (nodes : List UNode) → AreReached program count nodes → (node : UNode) → IsReached program node → Contains nodes node
        there nodes are node r =
            ⊎_elim (λ c. c) (λ put. absurd (more nodes are node r put))
            (inserted IsNodeBefore node_through node nodes are.ascending
            (λ m c. node_told node m r (All-contains (λ n. IsReached program n) nodes m are.reached c)))

        whole : (nodes : List UNode) → AreReached program count nodes → AreNodes program nodes
        whole nodes are = record { ascending = are.ascending; reached = are.reached; whole = there nodes are }

    -- so either they are all there, or there are too many
    pub has_nodes : (HasTooManyNodes program → ⊥) → ⊥
    has_nodes few =
        reached (most_nodes + 1) (omega arith)
        (λ nodes are.
        few
        (record {
          nodes = nodes;
          many = omega (arith, are.long);
          different = λ i j d less within same. node_apart _ _ same (are.ascending i j d less within);
          reached = are.reached;
        }))
