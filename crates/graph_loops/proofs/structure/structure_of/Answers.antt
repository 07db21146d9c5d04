use Rattle.std.proofs.Common.{ℕ, List, Option, Some, None, sym, subst}
use Rattle.std.specs.Global.{Vec}
use Rattle.std.specs.Prelude.{MatchOption}
use Rattle.graph_loops.specs.Graph.{lists_of, edges, IsGraph}
use Rattle.graph_loops.specs.Cycles.{IsAcyclic, IsLeastCyclic}
use Rattle.graph_loops.specs.Loops.{IsLeastCycle}
use Rattle.graph_loops.specs.Ways.{AreForwardInto}
use Rattle.graph_loops.proofs.CycleLemmas.{forward_is_graph, least_on_cycle, reducible}
use Rattle.graph_loops.proofs.structure.structure_of.Goals as goal

-- what is least on a cycle of the forward edges, or that there is none
least_cycle : (lists forward : List (List ℕ)) (entry : ℕ) → ((v : ℕ) → AreForwardInto lists entry v (edges forward v)) → (cycle : Option ℕ)
    → MatchOption cycle (IsAcyclic forward) (λ v. IsLeastCyclic forward v) → IsLeastCycle lists entry cycle
least_cycle lists forward entry are None none = reducible lists forward entry are none
least_cycle lists forward entry are (Some v) least = least_on_cycle lists forward entry are v least

pub least_cyclic-requires : goal.least_cyclic-requires
least_cyclic-requires c =
    let ways = c.in_ok-ways.ways in
    subst (λ (ls : List (Vec ℕ)). IsGraph (lists_of ls)) (sym c.as_slice.ensures.value)
    (forward_is_graph c.args.graph.now (lists_of ways.forward.items) ways.entry c.in_ok-ways.ensures.ways.forward c.in_ok-ways.ensures.ways.forward_count)

pub returns-clause-cycle : goal.returns-clause-cycle
returns-clause-cycle c =
    let lists = c.args.graph.now in
    let ways = c.in_ok-ways.ways in
    let cycle = c.in_ok-cycle.cycle in
    let found = subst (λ (ls : List (Vec ℕ)). MatchOption cycle (IsAcyclic (lists_of ls)) (λ v. IsLeastCyclic (lists_of ls) v)) c.as_slice.ensures.value c.in_ok-cycle.ensures in
    subst (λ (entry : ℕ). IsLeastCycle lists entry cycle) c.in_ok-ways.ensures.entry
    (least_cycle lists (lists_of ways.forward.items) ways.entry c.in_ok-ways.ensures.ways.forward cycle found)
