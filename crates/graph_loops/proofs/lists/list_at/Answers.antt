use Rattle.std.proofs.Common.{sym, ◌∙◌}
use Rattle.graph_loops.proofs.Places.{list_there}
use Rattle.graph_loops.proofs.lists.list_at.Goals as goal

pub returns : goal.returns
returns c = c.as_slice.ensures.value ∙ sym (list_there (λ list. list.items) c.args.lists.now c.args.v c.index-lists-v.result c.requires c.index-lists-v.is)
