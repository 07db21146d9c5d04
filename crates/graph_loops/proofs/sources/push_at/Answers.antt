use Rattle.std.proofs.Common.{◌++◌, ◌∷◌, [], ap, sym, ◌∙◌}
use Rattle.graph_loops.proofs.SourceLemmas.{list_changed}
use Rattle.graph_loops.proofs.sources.push_at.Goals as goal

pub returns : goal.returns
returns c =
    list_changed (λ list. list.items) c.args.lists.now c.args.v c.index-lists-v.result c.push.new.self c.args.u c.requires c.index-lists-v.is
    (c.in_ok-push.ensures.items ∙ ap (λ list. list.items ++ c.args.u ∷ []) (sym c.index-lists-v.is))
