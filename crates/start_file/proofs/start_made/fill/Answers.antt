use Rattle.std.proofs.Common.{◌∙◌, ap}
use Rattle.std.specs.Option.{unwrap_or}
use Rattle.start_file.specs.StartSaid.{of_fill}
use Rattle.start_file.proofs.StartSaying.{told_more}
use Rattle.start_file.proofs.start_made.fill.Goals as goal

pub loop-item-preserved : goal.loop-item-preserved
loop-item-preserved c =
    told_more of_fill c.args.items.now c.loop-item.item-index c.item-item.result c.loop-item.told c.unwrap_or-told.result 0 c.loop-item-test.true c.item-item.is c.loop-item.invariant
    (c.unwrap_or-told.ensures ∙ ap (λ o. unwrap_or o c.loop-item.told) c.fill_of.ensures)
