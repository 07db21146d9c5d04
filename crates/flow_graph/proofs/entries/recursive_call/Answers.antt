use Rattle.std.proofs.Common.{◌≡◌, ◌≤◌, ◌+◌, ◌∷◌, [], ℕ, Bool, List, Option, length, sym, subst, arith}
use Rattle.std.proofs.lemmas.List.{length-map}
use Rattle.graph_loops.specs.Graph.{lists_of, AreReached}
use Rattle.flow_graph.specs.Listing.{IsLeast}
use Rattle.flow_graph.proofs.EntryLemmas.{IsRecursiveBelow, recursive_end, recursive_next, recursive_past}
use Rattle.flow_graph.proofs.entries.recursive_call.Goals as goal
use Rattle.flow_graph.proofs.entries.recursive_call.Goals.{then-is_entry+in_ok-reached, else-is_entry}

pub loop-entry-preserved : goal.loop-entry-preserved
loop-entry-preserved c =
    let ways = c.args.ways.now in
    let calls = lists_of c.args.calls.now in
    let leads = lists_of c.in_ok-leads.field-0.items in
    let i = c.loop-entry.entry in
    elim c.if-is_entry.branch [
      | then-is_entry+in_ok-reached w ↦
          let marks : w.as_slice.result.now ≡ w.in_ok-reached.reached.items = w.as_slice.ensures.value in
          let reached : AreReached leads [] (i ∷ []) w.as_slice.result.now =
          subst (λ (ls : List (List ℕ)). AreReached ls [] (i ∷ []) w.as_slice.result.now) c.in_ok-graph.ensures
          (subst (λ (ms : List Bool). AreReached c.in_ok-graph.graph [] (i ∷ []) ms) (sym marks) w.in_ok-reached.ensures)
          in
          subst (λ (r : Option ℕ). IsLeast (λ v. IsRecursiveBelow ways calls (i + 1) v) r) (sym w.least-is)
          (recursive_next ways calls leads w.as_slice.result.now i c.loop-entry.least w.first_call.result w.lesser-least.result c.in_ok-leads.ensures.leads reached
          c.loop-entry.invariant w.first_call.ensures w.lesser-least.ensures)
      | else-is_entry w ↦
          subst (λ (r : Option ℕ). IsLeast (λ v. IsRecursiveBelow ways calls (i + 1) v) r) (sym w.least-is)
          (recursive_past ways calls c.args.entries.now i c.loop-entry.least c.requires.entries w.if-is_entry.false c.loop-entry.invariant)
    ]

pub returns : goal.returns
returns c =
    let whole : length (lists_of c.args.calls.now) ≤ c.loop-entry.entry = omega (arith, length-map c.args.calls.now (λ list. list.items), c.requires.entries.count) in
    recursive_end c.args.ways.now (lists_of c.args.calls.now) c.loop-entry.entry c.loop-entry.least c.requires.calls whole c.loop-entry.invariant
