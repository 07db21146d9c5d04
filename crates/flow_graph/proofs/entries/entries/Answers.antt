use Rattle.std.proofs.Common.{◌≡◌, ◌≤◌, ◌+◌, ℕ, Bool, List, length, sym, ap, subst, ◌∙◌, arith}
use Rattle.std.proofs.lemmas.List.{length-map}
use Rattle.graph_loops.specs.Graph.{edges, lists_of}
use Rattle.flow_graph.proofs.EntryLemmas.{AreEntriesBelow, AreMarkedBy, entries_end, entries_next, list_there, row_within, written}
use Rattle.flow_graph.proofs.entries.entries.Goals as goal

pub mark_all-requires : goal.mark_all-requires
mark_all-requires c =
    let calls = lists_of c.args.calls.now in
    let row : edges calls c.loop-callees.callees-index ≡ c.as_slice.result.now = list_there c.args.calls.now c.loop-callees.callees-index c.callees-item.result c.loop-callees-test.true c.callees-item.is ∙ sym c.as_slice.ensures.value in
    row_within calls c.loop-callees.callees-index (length c.deref_mut.result.now) c.as_slice.result.now c.requires.graph (ap length c.deref_mut.ensures.value ∙ c.loop-callees.invariant.long) row

pub loop-callees-preserved : goal.loop-callees-preserved
loop-callees-preserved c =
    let calls = lists_of c.args.calls.now in
    let i = c.loop-callees.callees-index in
    let before = c.loop-callees.marks.items in
    let after = c.mark_all.new.marks in
    let row : edges calls i ≡ c.as_slice.result.now = list_there c.args.calls.now i c.callees-item.result c.loop-callees-test.true c.callees-item.is ∙ sym c.as_slice.ensures.value in
    let marked : AreMarkedBy c.deref_mut.result.now after c.as_slice.result.now = record { long = c.mark_all.ensures.long; marked = c.mark_all.ensures.marked } in
    let marked_so : AreMarkedBy before after (edges calls i) =
    subst (λ (numbers : List ℕ). AreMarkedBy before after numbers) (sym row) (subst (λ (was : List Bool). AreMarkedBy was after c.as_slice.result.now) c.deref_mut.ensures.value marked)
    in
    subst (λ (marks : List Bool). AreEntriesBelow calls c.args.start (i + 1) marks)
    (sym (written before after c.loop-callees.marks.len (omega (arith, c.loop-callees.marks.ok.0)) marked_so.long))
    (entries_next calls c.args.start i before after c.loop-callees.invariant marked_so)

pub returns : goal.returns
returns c =
    let whole : length (lists_of c.args.calls.now) ≤ c.loop-callees.callees-index = omega (arith, length-map c.args.calls.now (λ list. list.items)) in
    entries_end (lists_of c.args.calls.now) c.args.start c.loop-callees.callees-index c.loop-callees.marks.items whole c.loop-callees.invariant
