use Rattle.std.proofs.Common.{length, sym}
use Rattle.graph_loops.specs.Graph.{lists_of}
use Rattle.graph_loops.proofs.Places.{lists_length}
use Rattle.graph_loops.proofs.WalkLemmas.{targets_within}
use Rattle.graph_loops.proofs.cycles.is_cyclic.Goals as goal

pub walk-requires-clause-roots : goal.walk-requires-clause-roots
walk-requires-clause-roots c = targets_within (lists_of c.args.lists.now) (length c.args.lists.now) c.args.v c.list_at.result.now (sym (lists_length c.args.lists.now)) c.requires.graph (sym c.list_at.ensures)
