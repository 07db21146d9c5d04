use Rattle.std.proofs.Common.{length, sym, ◌∙◌}
use Rattle.graph_loops.specs.Graph.{lists_of}
use Rattle.graph_loops.proofs.Places.{lists_length}
use Rattle.graph_loops.proofs.WalkLemmas.{targets_within}
use Rattle.graph_loops.proofs.order.counts.Goals as goal

pub count-requires : goal.count-requires
count-requires c = targets_within (lists_of c.args.lists.now) (length c.loop-v.counts.items) c.loop-v.v c.list_at.result.now (c.loop-v.invariant ∙ sym (lists_length c.args.lists.now)) c.requires (sym c.list_at.ensures)
