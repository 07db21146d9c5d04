use Rattle.std.proofs.Common.{length, sym, ◌∙◌, arith}
use Rattle.graph_loops.specs.Graph.{lists_of}
use Rattle.graph_loops.proofs.Places.{lists_length}
use Rattle.graph_loops.proofs.OrderLemmas.{vertex_at_place}
use Rattle.graph_loops.proofs.WalkLemmas.{targets_within}
use Rattle.graph_loops.proofs.order.in_order.Goals as goal

pub index_mut-requires : goal.index_mut-requires
index_mut-requires c =
    omega (
      arith,
      vertex_at_place (length c.args.lists.now) c.loop-i.queue.items c.as_slice-in-loop-i.result.now c.loop-i.i c.in-Some.v c.loop-i.invariant.queue c.as_slice-in-loop-i.ensures.value c.in-Some.ensures.0 c.in-Some.ensures.1,
      c.loop-i.numbers.ok.0,
      c.loop-i.invariant.numbers,
    )

pub list_at-requires : goal.list_at-requires
list_at-requires c = vertex_at_place (length c.args.lists.now) c.loop-i.queue.items c.as_slice-in-loop-i.result.now c.loop-i.i c.in-Some.v c.loop-i.invariant.queue c.as_slice-in-loop-i.ensures.value c.in-Some.ensures.0 c.in-Some.ensures.1

pub release-requires-clause-targets : goal.release-requires-clause-targets
release-requires-clause-targets c =
    targets_within (lists_of c.args.lists.now) (length c.loop-i.waiting.items) c.in-Some.v c.list_at.result.now (c.loop-i.invariant.waiting ∙ sym (lists_length c.args.lists.now)) c.requires (sym c.list_at.ensures)
