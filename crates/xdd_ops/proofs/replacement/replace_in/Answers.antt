use Rattle.xdd_ops.proofs.ReplaceLemmas.{replaced_times, once_after, once_events}
use Rattle.xdd_ops.proofs.replacement.replace_in.Goals as goal

pub returns-clause-times : goal.returns-clause-times
returns-clause-times g c =
    replaced_times c.args.table.now c.apply.new.table c.args.d.place c.args.times.now c.apply.new.operation.times.now c.apply.result c.apply.ensures.stays c.requires.times c.apply.ensures.times

pub returns-clause-after : goal.returns-clause-after
returns-clause-after g c = once_after c.args.table.now c.apply.new.table c.args.d.place c.apply.result c.apply.ensures.after

pub returns-clause-events : goal.returns-clause-events
returns-clause-events g c = once_events c.args.table.now c.apply.new.table c.args.d.place c.apply.result c.apply.ensures.events
