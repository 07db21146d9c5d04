use Rattle.std.proofs.Common.{◌≡◌, ◌∙◌, length, arith, sym}
use Rattle.std.proofs.lemmas.List.{length-map}
use Rattle.graph_loops.specs.Graph.{lists_of}
use Rattle.flow_graph.proofs.EntryLemmas.{leads_end, leads_graph}
use Rattle.flow_graph.proofs.entries.leads.Goals as goal

pub returns-clause-graph : goal.returns-clause-graph
returns-clause-graph c =
    let ways = c.args.ways.now in
    let calls = lists_of c.args.calls.now in
    let whole : c.loop-at.at ≡ length ways = omega arith in
    let same : length ways ≡ length calls = c.requires.same ∙ sym (length-map c.args.calls.now (λ list. list.items)) in
    leads_graph ways calls (lists_of c.loop-at.rows.items) same c.len.ensures.graph c.requires.calls
    (leads_end ways calls (lists_of c.loop-at.rows.items) c.loop-at.at same whole c.loop-at.invariant)
