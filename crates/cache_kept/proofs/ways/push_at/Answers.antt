use Rattle.std.proofs.Common.{◌++◌, ◌∷◌, [], ap, sym, ◌∙◌}
use Rattle.cache_kept.proofs.WaysLemmas.{list_changed}
use Rattle.cache_kept.proofs.ways.push_at.Goals as goal

pub returns : goal.returns
returns c =
    list_changed c.args.lists.now c.args.node c.index-lists-node.result c.push.new.self c.args.number c.requires c.index-lists-node.is
    (c.in_ok-push.ensures.items ∙ ap (λ list. list.items ++ c.args.number ∷ []) (sym c.index-lists-node.is))
