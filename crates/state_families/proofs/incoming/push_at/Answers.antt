use Rattle.std.proofs.Common.{◌++◌, ◌∷◌, [], ap, sym, ◌∙◌}
use Rattle.state_families.proofs.IncomingLemmas.{list_changed}
use Rattle.state_families.proofs.incoming.push_at.Goals as goal

pub returns : goal.returns
returns c =
    list_changed (λ list. list.items) c.args.lists.now c.args.place c.index-lists-place.result c.push.new.self c.args.number c.requires c.index-lists-place.is
    (c.in_ok-push.ensures.items ∙ ap (λ list. list.items ++ c.args.number ∷ []) (sym c.index-lists-place.is))
