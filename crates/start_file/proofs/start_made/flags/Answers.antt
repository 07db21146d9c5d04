use Rattle.std.proofs.Common.{◌∙◌, ap}
use Rattle.std.specs.Option.{unwrap_or}
use Rattle.start_file.specs.StartSaid.{of_flags, no_flags}
use Rattle.start_file.proofs.StartSaying.{told_more}
use Rattle.start_file.proofs.start_made.flags.Goals as goal

pub loop-item-preserved : goal.loop-item-preserved
loop-item-preserved c =
    told_more of_flags c.args.items.now c.loop-item.item-index c.item-item.result c.loop-item.told c.unwrap_or-told.result no_flags c.loop-item-test.true c.item-item.is c.loop-item.invariant
    (c.unwrap_or-told.ensures ∙ ap (λ o. unwrap_or o c.loop-item.told) c.flags_of.ensures)
